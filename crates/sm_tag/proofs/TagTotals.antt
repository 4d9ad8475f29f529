-- Every text has a list of tags.
use Rattle.std.proofs.Common.{◌≡◌, ◌≢◌, ◌≤◌, ◌+◌, ◌-◌, ℕ, zero, suc, Bool, true, false, not, cond, eqb, List, [], ◌∷◌, ◌++◌, length, drop, Option, Some, None, Result, Ok, Err, refl, sym, subst, ◌∙◌, arith}
use Rattle.std.specs.Prelude.{MatchBool, nat_eq}
use Rattle.std.specs.List.{starts_with}
use Rattle.std.proofs.lemmas.List.{length-drop}
use Rattle.sm_model.specs.declared.tag.Attribute.{Attribute}
use Rattle.sm_model.specs.declared.tag.Tag.{Tag}
use Rattle.sm_model.specs.declared.tag.Tag.TheVariants as tags
use Rattle.sm_tag.specs.declared.grammar.Markup.{Markup}
use Rattle.sm_tag.specs.declared.grammar.Markup.TheVariants.{Skipped, Finish, Start}
use Rattle.sm_tag.specs.declared.grammar.Lead.{Lead}
use Rattle.sm_tag.specs.declared.grammar.Lead.TheVariants as lead
use Rattle.sm_tag.specs.TagParts.{Stop, short, wrong, ◌>>=◌, name_at, piece_at, Values, refused, closed, goes_on, opening_at, naming, AttributeAt, unopened, opened, mark_at, has_name, Tails, unmarked, ended, broken, twice, another}
use Rattle.sm_tag.specs.TagMarkup.{Starts, unnamed, named, Markups, instruction_at, comment_at, finish_at, starting, lead_at}
use Rattle.sm_tag.specs.Tags as whole
use Rattle.sm_tag.specs.Tags.{Left, Founds, bare, lost, stray, marked, skipped, Next, is_last, Runs, ends, follows, TagsOf, begin, without_zeros, without_mark}
use Rattle.sm_tag.specs.TagsRead.{value_by, value_in, attribute_in, attribute_by, tail_by, tail_in, start_in, markup_in, markup_by, lead_by, found_in, next_by, next_from, next_in, run_by, tags_in, tags_of}
use Rattle.sm_tag.proofs.TagLengths.{Within, name_within, piece_within, opening_within, attribute_within, mark_within, markup_within, LeadWithin, lead_within}

-- ---- values

value_done : (q n : ℕ) (text b : List ℕ) (r : Result (Bool × List ℕ × List ℕ) Stop) (go : List ℕ → List ℕ → Result (List ℕ × List ℕ) Stop) → piece_at q b ≡ r → Within (λ x. x.2) n r
    → ((t rest : List ℕ) → length rest ≤ n → Values q t rest (go t rest)) → Values q text b (value_by text r go)
value_done q n text b (Err e) go p h k = refused p
value_done q n text b (Ok (false, piece, rest)) go p h k = closed p
value_done q n text b (Ok (true, piece, rest)) go p h k = goes_on p (k (text ++ piece) rest h)

no_piece : (q : ℕ) (b : List ℕ) → length b ≤ 0 → piece_at q b ≡ Err short
unfolding piece_at
no_piece q [] le = refl
no_piece q (c ∷ cs) le = absurd (omega (arith, le))

value_total : (n q : ℕ) (text b : List ℕ) → length b ≤ n → Values q text b (value_in n q text b)
unfolding value_in
value_total zero q text b le = refused (no_piece q b le)
value_total (suc n) q text b le =
    value_done q n text b (piece_at q b) (λ more rest. value_in n q more rest) refl (piece_within q b n le) (λ t rest h. value_total n q t rest h)

-- ---- attributes

attribute_done : (m n : ℕ) (b : List ℕ) (r : Result (List ℕ × ℕ × List ℕ) Stop) → opening_at b ≡ r → Within (λ x. x.2) n r → n ≤ m
    → AttributeAt b (r >>= λ o. naming o.0 (value_in m o.1 [] o.2))
attribute_done m n b (Err e) p h le = unopened p
attribute_done m n b (Ok (name, q, rest)) p h le = opened p (value_total m q [] rest (omega (arith, h, le)))

attribute_total : (m : ℕ) (b : List ℕ) → length b ≤ suc m → AttributeAt b (attribute_in m b)
unfolding attribute_in
attribute_total m b le = attribute_done m m b (opening_at b) refl (opening_within b m le) (omega arith)

tail_more : (m n : ℕ) (seen : List Attribute) (b rest : List ℕ) (r : Result (Attribute × List ℕ) Stop) (go : List Attribute → List ℕ → Result (List Attribute × Bool × List ℕ) Stop)
    → mark_at b ≡ Ok (None, rest) → AttributeAt rest r → Within (λ x. x.1) n r → ((s : List Attribute) (t : List ℕ) → length t ≤ n → Tails s t (go s t)) → Tails seen b (attribute_by seen r go)
tail_more m n seen b rest (Err e) go p a h k = broken p a
tail_more m n seen b rest (Ok (x, more)) go p a h k = by_name (has_name x.name seen) refl
  where
    by_name : (t : Bool) → has_name x.name seen ≡ t → Tails seen b (cond t (Err wrong) (go (seen ++ x ∷ []) more))
    by_name true e = twice p a e
    by_name false e = another p a e (k (seen ++ x ∷ []) more h)

tail_done : (m n : ℕ) (seen : List Attribute) (b : List ℕ) (r : Result (Option Bool × List ℕ) Stop) (go : List Attribute → List ℕ → Result (List Attribute × Bool × List ℕ) Stop)
    → mark_at b ≡ r → Within (λ x. x.1) (suc n) r → suc n ≤ m → ((s : List Attribute) (t : List ℕ) → length t ≤ n → Tails s t (go s t)) → Tails seen b (tail_by m seen r go)
tail_done m n seen b (Err e) go p h le k = unmarked p
tail_done m n seen b (Ok (Some empty, rest)) go p h le k = ended p
tail_done m n seen b (Ok (None, rest)) go p h le k =
    tail_more m n seen b rest (attribute_in m rest) go p (attribute_total m rest (omega (arith, h, le))) (attribute_within m rest n h) k

no_mark : (b : List ℕ) → length b ≤ 0 → mark_at b ≡ Err short
unfolding mark_at
no_mark [] le = refl
no_mark (c ∷ cs) le = absurd (omega (arith, le))

tail_total : (n : ℕ) (seen : List Attribute) (b : List ℕ) → length b ≤ n → Tails seen b (tail_in n seen b)
unfolding tail_in
tail_total zero seen b le = unmarked (no_mark b le)
tail_total (suc n) seen b le =
    tail_done (suc n) n seen b (mark_at b) (λ more rest. tail_in n more rest) refl (mark_within b (suc n) le) (omega arith) (λ s t h. tail_total n s t h)

-- ---- what begins with `<`

start_done : (n : ℕ) (b : List ℕ) (r : Result (List ℕ × List ℕ) Stop) → name_at b ≡ r → ((name rest : List ℕ) → name_at b ≡ Ok (name, rest) → length rest ≤ n)
    → Starts b (r >>= λ x. starting x.0 (tail_in n [] x.1))
start_done n b (Err e) p h = unnamed p
start_done n b (Ok (name, rest)) p h = named p (tail_total n [] rest (h name rest p))

within_is : (b : List ℕ) (n : ℕ) (r : Result (List ℕ × List ℕ) Stop) → Within (λ x. x.1) n r → (name rest : List ℕ) → r ≡ Ok (name, rest) → length rest ≤ n
within_is b n r h name rest e = subst (Within (λ x. x.1) n) e h

start_total : (n : ℕ) (b : List ℕ) → length b ≤ n → Starts b (start_in n b)
unfolding start_in
start_total n b le = start_done n b (name_at b) refl (within_is b n (name_at b) (name_within b n le))

pick : (b : Bool) {A : Type 0} (P Q : A → Type 0) (x y : A) → P x → Q y → MatchBool b (P (cond b x y)) (Q (cond b x y))
pick true P Q x y p q = p
pick false P Q x y p q = q

markup_total : (n : ℕ) (b : List ℕ) → length b ≤ n → Markups b (markup_in n b)
unfolding markup_in
markup_total n [] le = refl
markup_total n (c ∷ cs) le =
    pick (eqb c 63) (λ r. r ≡ instruction_at cs) (λ r. MatchBool (eqb c 33) (r ≡ comment_at cs) (MatchBool (eqb c 47) (r ≡ finish_at cs) (Starts (c ∷ cs) r)))
    (instruction_at cs) (cond (eqb c 33) (comment_at cs) (cond (eqb c 47) (finish_at cs) (start_in n (c ∷ cs)))) refl
    (pick (eqb c 33) (λ r. r ≡ comment_at cs) (λ r. MatchBool (eqb c 47) (r ≡ finish_at cs) (Starts (c ∷ cs) r))
    (comment_at cs) (cond (eqb c 47) (finish_at cs) (start_in n (c ∷ cs))) refl
    (pick (eqb c 47) (λ r. r ≡ finish_at cs) (Starts (c ∷ cs)) (finish_at cs) (start_in n (c ∷ cs)) refl (start_total n (c ∷ cs) le)))

-- ---- what comes next

finish_is : (name : List ℕ) → Finish name ≢ Skipped
finish_is name e = cc

start_is : (name : List ℕ) (attributes : List Attribute) (empty : Bool) → Start name attributes empty ≢ Skipped
start_is name attributes empty e = cc

markup_done : (inside : Bool) (b rest : List ℕ) (left n : ℕ) (r : Result (Markup × List ℕ) Stop) (go : List ℕ → Lead × Markup × ℕ × List ℕ) → lead_at inside b ≡ (lead.Tag, left, rest) → Markups rest r
    → Within (λ x. x.1) n r → ((more : List ℕ) → length more ≤ n → Founds inside more (go more)) → Founds inside b (markup_by left r go)
markup_done inside b rest left n (Err short) go p m h k = lost p m
markup_done inside b rest left n (Err wrong) go p m h k = stray p m
markup_done inside b rest left n (Ok (Skipped, more)) go p m h k = skipped p m (k more h)
markup_done inside b rest left n (Ok (Finish name, more)) go p m h k = marked p m (finish_is name)
markup_done inside b rest left n (Ok (Start name attributes empty, more)) go p m h k = marked p m (start_is name attributes empty)

no_ended : lead.Ended ≢ lead.Tag
no_ended e = cc

no_lost : lead.Lost ≢ lead.Tag
no_lost e = cc

no_stray : lead.Stray ≢ lead.Tag
no_stray e = cc

no_run : lead.Run ≢ lead.Tag
no_run e = cc

lead_done : (inside : Bool) (b : List ℕ) (m n : ℕ) (l : Lead × ℕ × List ℕ) (go : List ℕ → Lead × Markup × ℕ × List ℕ) → lead_at inside b ≡ l → LeadWithin (suc n) l → n ≤ m
    → ((more : List ℕ) → length more ≤ n → Founds inside more (go more)) → Founds inside b (lead_by m l go)
lead_done inside b m n (lead.Tag, left, rest) go p h le k =
    markup_done inside b rest left n (markup_in m rest) go p (markup_total m rest (omega (arith, h, le))) (markup_within m rest n (omega (arith, h))) k
lead_done inside b m n (lead.Ended, left, rest) go p h le k = bare p no_ended
lead_done inside b m n (lead.Lost, left, rest) go p h le k = bare p no_lost
lead_done inside b m n (lead.Stray, left, rest) go p h le k = bare p no_stray
lead_done inside b m n (lead.Run, left, rest) go p h le k = bare p no_run

-- nothing is left, so no tag is either
nothing : (inside : Bool) (b : List ℕ) (n : ℕ) (l : Lead × ℕ × List ℕ) (go : List ℕ → Lead × Markup × ℕ × List ℕ) → lead_at inside b ≡ l → LeadWithin 0 l → Founds inside b (lead_by n l go)
nothing inside b n (lead.Tag, left, rest) go p h = absurd (omega (arith, h))
nothing inside b n (lead.Ended, left, rest) go p h = bare p no_ended
nothing inside b n (lead.Lost, left, rest) go p h = bare p no_lost
nothing inside b n (lead.Stray, left, rest) go p h = bare p no_stray
nothing inside b n (lead.Run, left, rest) go p h = absurd (omega (arith, h))

found_total : (n : ℕ) (inside : Bool) (b : List ℕ) → length b ≤ n → Founds inside b (found_in (suc n) inside b)
unfolding found_in
found_total zero inside b le = nothing inside b 1 (lead_at inside b) (λ more. found_in zero inside more) refl (lead_within inside b 0 le)
found_total (suc n) inside b le =
    lead_done inside b (suc (suc n)) n (lead_at inside b) (λ more. found_in (suc n) inside more) refl (lead_within inside b (suc n) le) (omega arith) (λ more h. found_total n inside more h)

-- a text or a tag that is found takes at least one byte
abbrev FoundWithin : ℕ → Lead × Markup × ℕ × List ℕ → Type 0
FoundWithin n (lead.Tag, m, left, rest) = suc (length rest) ≤ n
FoundWithin n (lead.Run, m, left, rest) = suc (length rest) ≤ n
FoundWithin n (lead.Ended, m, left, rest) = Unit {0}
FoundWithin n (lead.Lost, m, left, rest) = Unit {0}
FoundWithin n (lead.Stray, m, left, rest) = Unit {0}

markup_left : (left n : ℕ) (r : Result (Markup × List ℕ) Stop) (go : List ℕ → Lead × Markup × ℕ × List ℕ) → Within (λ x. x.1) n r
    → ((more : List ℕ) → length more ≤ n → FoundWithin (suc n) (go more)) → FoundWithin (suc n) (markup_by left r go)
markup_left left n (Err short) go h k = tt
markup_left left n (Err wrong) go h k = tt
markup_left left n (Ok (Skipped, more)) go h k = k more h
markup_left left n (Ok (Finish name, more)) go h k = omega (arith, h)
markup_left left n (Ok (Start name attributes empty, more)) go h k = omega (arith, h)

lead_left : (m n : ℕ) (l : Lead × ℕ × List ℕ) (go : List ℕ → Lead × Markup × ℕ × List ℕ) → LeadWithin (suc n) l
    → ((more : List ℕ) → length more ≤ n → FoundWithin (suc n) (go more)) → FoundWithin (suc n) (lead_by m l go)
lead_left m n (lead.Tag, left, rest) go h k = markup_left left n (markup_in m rest) go (markup_within m rest n (omega (arith, h))) k
lead_left m n (lead.Ended, left, rest) go h k = tt
lead_left m n (lead.Lost, left, rest) go h k = tt
lead_left m n (lead.Stray, left, rest) go h k = tt
lead_left m n (lead.Run, left, rest) go h k = h

nothing_left : (m : ℕ) (l : Lead × ℕ × List ℕ) (go : List ℕ → Lead × Markup × ℕ × List ℕ) → LeadWithin 0 l → FoundWithin 0 (lead_by m l go)
nothing_left m (lead.Tag, left, rest) go h = absurd (omega (arith, h))
nothing_left m (lead.Ended, left, rest) go h = tt
nothing_left m (lead.Lost, left, rest) go h = tt
nothing_left m (lead.Stray, left, rest) go h = tt
nothing_left m (lead.Run, left, rest) go h = h

found_within : (m : ℕ) (inside : Bool) (b : List ℕ) (n : ℕ) → length b ≤ n → FoundWithin n (found_in m inside b)
unfolding found_in
found_within zero inside b n le = tt
found_within (suc m) inside b zero le = nothing_left (suc m) (lead_at inside b) (λ more. found_in m inside more) (lead_within inside b 0 le)
found_within (suc m) inside b (suc n) le =
    lead_left (suc m) n (lead_at inside b) (λ more. found_in m inside more) (lead_within inside b (suc n) le) (λ more h. found_within m inside more (suc n) (omega (arith, h)))

-- ---- the next tag

next_made : (n : ℕ) (s : Left) (bad : Option ℕ) → length s.rest ≤ n → whole.continues s (next_from (suc n) s bad) bad
next_made n s (Some at) le = refl
next_made n s None le =
    (found_in (suc n) (not (eqb (length s.open_names) 0)) s.rest, found_total n (not (eqb (length s.open_names) 0)) s.rest le, refl)

next_total : (n : ℕ) (s : Left) → length s.rest ≤ n → Next s (next_in (suc n) s).0 (next_in (suc n) s).1
unfolding next_in
next_total n s le = next_made n s s.bad le

-- a tag that isn't the last takes at least one byte
abbrev Moves : ℕ → Tag × Left → Type 0
Moves n step = is_last step.0 ≡ false → suc (length step.1.rest) ≤ n

no_move : (n : ℕ) (step : Tag × Left) → is_last step.0 ≡ true → Moves n step
no_move n step e f = absurd (true_false (sym e ∙ f))
  where
    true_false : true ≡ false → ⊥
    true_false p = cc

either_moves : (n : ℕ) (b : Bool) (x y : Tag × Left) → Moves n x → Moves n y → Moves n (cond b x y)
either_moves n true x y p q = p
either_moves n false x y p q = q

marks_move : (n : ℕ) (s : Left) (m : Markup) (at : ℕ) (rest : List ℕ) → suc (length rest) ≤ n → Moves n (whole.marks s m at rest)
marks_move n s Skipped at rest h = no_move n (whole.fails s at) refl
marks_move n s (Finish name) at rest h = either_moves n (whole.closes name s.open_names) _ _ (λ e. h) (no_move n (whole.fails s at) refl)
marks_move n s (Start name attributes empty) at rest h = either_moves n _ _ _ (no_move n (whole.fails s at) refl) (λ e. h)

gives_move : (n : ℕ) (s : Left) (f : Lead × Markup × ℕ × List ℕ) → FoundWithin n f → Moves n (next_by s f)
gives_move n s (lead.Tag, m, left, rest) h = marks_move n s m (s.end - left) rest h
gives_move n s (lead.Run, m, left, rest) h = λ e. h
gives_move n s (lead.Ended, m, left, rest) h = either_moves n s.begun _ _ (no_move n (tags.End, s) refl) (no_move n (whole.fails s s.size) refl)
gives_move n s (lead.Lost, m, left, rest) h = no_move n (whole.fails s s.size) refl
gives_move n s (lead.Stray, m, left, rest) h = no_move n (whole.fails s (s.end - left)) refl

next_moves_by : (n : ℕ) (s : Left) (bad : Option ℕ) → length s.rest ≤ n → Moves n (next_from (suc n) s bad)
next_moves_by n s (Some at) le = no_move n (tags.Bad at, s) refl
next_moves_by n s None le =
    gives_move n s (found_in (suc n) (not (eqb (length s.open_names) 0)) s.rest) (found_within (suc n) (not (eqb (length s.open_names) 0)) s.rest n le)

next_moves : (n : ℕ) (s : Left) → length s.rest ≤ n → Moves n (next_in (suc n) s)
unfolding next_in
next_moves n s le = next_moves_by n s s.bad le

-- ---- whole texts

run_done : (s : Left) (tag : Tag) (t : Left) (last : Bool) (tags : List Tag) → Next s tag t → is_last tag ≡ last → (last ≡ false → Runs t tags) → Runs s (run_by last tag tags)
run_done s tag t true tags n e k = ends t n e
run_done s tag t false tags n e k = follows t n e (k refl)

run_total : (n : ℕ) (s : Left) → length s.rest ≤ n → Runs s (tags_in (suc n) s)
unfolding tags_in
run_total zero s le =
    let step = next_in 1 s in
    run_done s step.0 step.1 (is_last step.0) [] (next_total zero s le) refl (λ e. absurd (omega (arith, next_moves zero s le e)))
run_total (suc n) s le =
    let step = next_in (suc (suc n)) s in
    run_done s step.0 step.1 (is_last step.0) (tags_in (suc n) step.1) (next_total (suc n) s le) refl
    (λ e. run_total n step.1 (omega (arith, next_moves (suc n) s le e)))

without_zeros_le : (b : List ℕ) → length (without_zeros b) ≤ length b
without_zeros_le [] = omega arith
without_zeros_le (c ∷ cs) = kept_le (without_zeros cs) (without_zeros_le cs)
  where
    kept_le : (ds : List ℕ) → length ds ≤ length cs → length (whole.kept c ds) ≤ length (c ∷ cs)
    kept_le [] h = zero_le (eqb c 0)
      where
        zero_le : (t : Bool) → length (cond t [] (c ∷ [])) ≤ length (c ∷ cs)
        zero_le true = omega arith
        zero_le false = omega arith
    kept_le (d ∷ ds) h = omega (arith, h)

without_mark_le : (b : List ℕ) → length (without_mark b) ≤ length b
without_mark_le b = by_mark (starts_with nat_eq b (239 ∷ 187 ∷ 191 ∷ []))
  where
    by_mark : (t : Bool) → length (cond t (drop 3 b) b) ≤ length b
    by_mark true = omega (arith, length-drop 3 b)
    by_mark false = omega arith

-- the tags of a text
pub tags_total : (text : List ℕ) → TagsOf text (tags_of text)
unfolding tags_of
tags_total text =
    let n : ℕ = length text + 1 in
    let k : length text + 2 ≡ suc n = omega arith in
    subst (λ (m : ℕ). Runs (begin text) (tags_in m (begin text))) (sym k)
    (run_total n (begin text) (omega (arith, without_mark_le (without_zeros text), without_zeros_le text)))
