-- The tags of a text, one before those behind it, and whole pieces of text.
use Rattle.std.proofs.Common.{◌≡◌, ◌≤◌, ◌-◌, ℕ, eqb, length, take, drop, get_or, arith, Bool, true, false, List, [], ◌∷◌, ◌++◌, None, Result, Ok, Err, OnOk, refl, sym, subst, ◌∙◌, append_assoc, append-nil}
use Rattle.std.proofs.lemmas.Bool.{eqb-true}
use Rattle.std.proofs.lemmas.List.{take_all}
use Rattle.sm_model.specs.declared.tag.Attribute.{Attribute}
use Rattle.sm_model.specs.declared.tag.Tag.{Tag}
use Rattle.sm_tag.specs.declared.grammar.Markup.{Markup}
use Rattle.sm_tag.specs.declared.grammar.Markup.TheVariants.{Skipped, Finish, Start}
use Rattle.sm_tag.specs.TagParts.{Stop, mark_at, has_name, AttributeAt, Tails, unmarked, broken, another}
use Rattle.sm_tag.specs.TagMarkup.{Markups}
use Rattle.sm_tag.specs.Tags.{Left, Next, Runs, follows, is_last}
use Rattle.sm_tag.specs.declared.halt.Halt.{Halt}
use Rattle.sm_tag.specs.declared.halt.Halt.TheVariants.{Memory, Short, Wrong}
use Rattle.sm_tag.specs.Grammar.{IsMade}
use Rattle.sm_tag.specs.Reads.{Fails, FailsBy, GivesBy}
use Rattle.sm_tag.proofs.GrammarSound.{MarkupMade, markups_made}
use Rattle.sm_tag.proofs.GrammarRead.{start_read, finish_read, skipped_read}
use Rattle.sm_tag.proofs.Unique.{Markups-unique, pairs}

-- what is left of a text has these tags, which were added to some
abbrev pub Adds : Left → List Tag → List Tag → Type 0
Adds s old new = (more : List Tag) × Runs s more × (new ≡ old ++ more)

adds_first : (s next : Left) (tag : Tag) (old mid new : List Tag) → Next s tag next → is_last tag ≡ false → mid ≡ old ++ tag ∷ [] → Adds next mid new → Adds s old new
adds_first s next tag old mid new n m e (more, runs, is) =
    (tag ∷ more, follows next n m runs, is ∙ rw e (append_assoc old (tag ∷ []) more))

pub goes_on : {X E : Type 0} (r : Result X E) (s next : Left) (tag : Tag) (old mid new : List Tag) → Next s tag next → is_last tag ≡ false → mid ≡ old ++ tag ∷ []
    → OnOk r (Adds next mid new) → OnOk r (Adds s old new)
goes_on (Ok x) s next tag old mid new n m e adds = adds_first s next tag old mid new n m e adds
goes_on (Err x) s next tag old mid new n m e adds = tt

-- ---- the attributes of a start tag

pub unmarked_fails : (seen : List Attribute) (bytes : List ℕ) (e : Halt) → Fails e (mark_at bytes) → FailsBy e (Tails seen bytes)
unmarked_fails seen bytes Memory h = tt
unmarked_fails seen bytes Short h = unmarked h
unmarked_fails seen bytes Wrong h = unmarked h

pub broken_fails : (seen : List Attribute) (bytes rest : List ℕ) (e : Halt) → mark_at bytes ≡ Ok (None, rest) → FailsBy e (AttributeAt rest) → FailsBy e (Tails seen bytes)
broken_fails seen bytes rest Memory m h = tt
broken_fails seen bytes rest Short m h = broken m h
broken_fails seen bytes rest Wrong m h = broken m h

-- one attribute, and those behind it
pub another_by : {X : Type 0} (view : X → List Attribute × Bool × List ℕ) (r : Result X Halt) (seen : List Attribute) (bytes rest more : List ℕ) (a : Attribute)
    → mark_at bytes ≡ Ok (None, rest) → AttributeAt rest (Ok (a, more)) → has_name a.name seen ≡ false → GivesBy view r (Tails (seen ++ a ∷ []) more)
    → GivesBy view r (Tails seen bytes)
another_by view (Ok x) seen bytes rest more a m is new h = another m is new h
another_by view (Err Memory) seen bytes rest more a m is new h = tt
another_by view (Err Short) seen bytes rest more a m is new h = another m is new h
another_by view (Err Wrong) seen bytes rest more a m is new h = another m is new h

-- ---- whole pieces of text

whole : (bytes : List ℕ) → 60 ∷ bytes ≡ (60 ∷ bytes) ++ []
whole bytes = sym (append-nil (60 ∷ bytes))

made_is_read : (bytes : List ℕ) (m : Markup) → IsMade (60 ∷ bytes) m → Markups bytes (Ok (m, []))
made_is_read bytes (Start name attributes empty) is = start_read bytes name [] attributes empty (60 ∷ bytes, is, whole bytes)
made_is_read bytes (Finish name) is = finish_read bytes name [] (60 ∷ bytes, is, whole bytes)
made_is_read bytes Skipped is = skipped_read bytes [] (60 ∷ bytes, is, whole bytes)

read_is_made : (bytes : List ℕ) (m : Markup) → MarkupMade bytes (Ok (m, [])) → IsMade (60 ∷ bytes) m
read_is_made bytes (Start name attributes empty) (text, is, same) =
    subst (λ (l : List ℕ). IsMade l (Start name attributes empty)) (sym (same ∙ append-nil text)) is
read_is_made bytes (Finish name) (text, is, same) = subst (λ (l : List ℕ). IsMade l (Finish name)) (sym (same ∙ append-nil text)) is
read_is_made bytes Skipped (text, is, same) = subst (λ (l : List ℕ). IsMade l Skipped) (sym (same ∙ append-nil text)) is

-- all but the first byte
behind_first : (x : ℕ) (xs : List ℕ) → take (length (x ∷ xs) - 1) xs ≡ xs
behind_first x xs = take_all (length (x ∷ xs) - 1) xs (omega arith)

-- a piece that is read up to its end
pub piece_read : (piece : List ℕ) (d : ℕ) (m : Markup) (rest : List ℕ) → 1 ≤ length piece → get_or piece 0 d ≡ 60
    → Markups (take (length piece - 1) (drop 1 piece)) (Ok (m, rest)) → eqb (length rest) 0 ≡ true → IsMade piece m
piece_read [] d m rest some first h e = absurd (omega arith)
piece_read (x ∷ xs) d m [] some first h e =
    rw first (read_is_made xs m (markups_made xs (Ok (m, [])) (rw (behind_first x xs) at h)))
piece_read (x ∷ xs) d m (c ∷ cs) some first h e = absurd (omega (arith, eqb-true (length (c ∷ cs)) 0 e))

-- a piece that is not, whatever else is read of it
pub no_piece : (piece : List ℕ) (d : ℕ) (r : Result (Markup × List ℕ) Stop) → 1 ≤ length piece → get_or piece 0 d ≡ 60
    → Markups (take (length piece - 1) (drop 1 piece)) r → ((m : Markup) → r ≡ Ok (m, []) → ⊥) → (m : Markup) → IsMade piece m → ⊥
no_piece [] d r some first h other m is = omega arith
no_piece (x ∷ xs) d r some first h other m made =
    other m (Markups-unique xs r (Ok (m, [])) (rw (behind_first x xs) at h) (made_is_read xs m (rw first at made)))

pub goes_further : (n : Markup) (rest : List ℕ) → eqb (length rest) 0 ≡ false → (m : Markup) → ◌≡◌ {A = Result (Markup × List ℕ) Stop} (Ok (n, rest)) (Ok (m, [])) → ⊥
goes_further n rest some m e =
    let none : rest ≡ [] = (pairs (Ok (n, rest)) refl e).1 in
    let zero : eqb (length rest) 0 ≡ true = rw none refl in
    cc
