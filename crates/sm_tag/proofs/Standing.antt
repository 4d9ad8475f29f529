-- Each tag of a text stands at its place in it.
use Rattle.std.proofs.Common.{◌≡◌, ◌≢◌, inl, inr, ◌+◌, ◌-◌, ℕ, Bool, true, false, not, cond, eqb, List, [], ◌∷◌, ◌++◌, length, drop, Option, Some, None, Ok, refl, ap, sym, ◌∙◌, subst, append_assoc, arith, length-append}
use Rattle.std.specs.Prelude.{nat_eq}
use Rattle.std.specs.List.{list_all, starts_with, AllByRecursion}
use Rattle.std.proofs.lemmas.Bool.{eqb-true}
use Rattle.std.proofs.Math.Seq.{drop-append_seam}
use Rattle.sm_model.specs.declared.tag.Tag.{Tag}
use Rattle.sm_model.specs.declared.tag.Tag.TheVariants as tags
use Rattle.sm_tag.specs.declared.grammar.Markup.{Markup}
use Rattle.sm_tag.specs.declared.grammar.Markup.TheVariants.{Skipped, Finish, Start}
use Rattle.sm_tag.specs.declared.grammar.Lead.{Lead}
use Rattle.sm_tag.specs.declared.grammar.Lead.TheVariants as lead
use Rattle.sm_tag.specs.TagBytes.{is_space, is_text, prefix, remaining}
use Rattle.sm_tag.specs.TagMarkup.{Markups, lead_inside, lead_stray, lead_outside, lead_at}
use Rattle.sm_tag.specs.Tags as whole
use Rattle.sm_tag.specs.Tags.{Left, Founds, bare, lost, stray, marked, skipped, gives, Runs, ends, follows, is_last, begin, without_zeros, without_mark, kept, TagsOf}
use Rattle.sm_tag.proofs.GrammarSound.{MarkupMade, markups_made, split_is, prefix_all, starts_made}
use Rattle.sm_tag.specs.Grammar.{IsRun, StandsIn}

-- ---- where a tag or text between tags begins

pub stops : (p : ℕ → Bool) (b : List ℕ) (c : ℕ) (cs : List ℕ) → remaining p b ≡ c ∷ cs → p c ≡ false
stops p [] c cs e = cc
stops p (x ∷ xs) c cs e = tested (p x) refl e (λ f. stops p xs c cs f)
  where
    tested : (t : Bool) → p x ≡ t → cond t (remaining p xs) (x ∷ xs) ≡ c ∷ cs → (remaining p xs ≡ c ∷ cs → p c ≡ false) → p c ≡ false
    tested true f g h = h g
    tested false f g h = let same : x ≡ c = cc in subst (λ (k : ℕ). p k ≡ false) same f

angle : (c : ℕ) → is_text c ≡ false → c ≡ 60
angle c e = tested (eqb c 60) refl e
  where
    tested : (t : Bool) → eqb c 60 ≡ t → not t ≡ false → c ≡ 60
    tested true f g = eqb-true c 60 f
    tested false f g = cc

-- what a lead says of the bytes that it was read from
abbrev LeadStands : List ℕ → Lead × ℕ × List ℕ → Type 0
LeadStands b (lead.Tag, left, rest) = (front : List ℕ) × (b ≡ front ++ 60 ∷ rest) × (left ≡ length (60 ∷ rest))
LeadStands b (lead.Run, left, rest) = (run : List ℕ) × (more : List ℕ) × IsRun run × (b ≡ run ++ rest) × (rest ≡ 60 ∷ more) × (left ≡ length b)
LeadStands b (lead.Ended, left, rest) = Unit {0}
LeadStands b (lead.Lost, left, rest) = Unit {0}
LeadStands b (lead.Stray, left, rest) = (front : List ℕ) × (more : List ℕ) × (b ≡ front ++ 60 ∷ more) × (left ≡ length (60 ∷ more))

inside_stands : (b run rest : List ℕ) → prefix is_text b ≡ run → remaining is_text b ≡ rest → LeadStands b (lead_inside b run rest)
inside_stands b run [] p r = tt
inside_stands b [] (c ∷ cs) p r =
    let is = angle c (stops is_text b c cs r) in
    let all : b ≡ c ∷ cs = split_is is_text b ∙ (ap (λ (l : List ℕ). l ++ remaining is_text b) p ∙ r) in
    ([], all ∙ ap (λ (k : ℕ). k ∷ cs) is, ap length all)
inside_stands b (x ∷ xs) (c ∷ cs) p r =
    let is = angle c (stops is_text b c cs r) in
    let plain : list_all is_text (x ∷ xs) ≡ true = subst (λ (l : List ℕ). list_all is_text l ≡ true) p (prefix_all is_text b) in
    let all : b ≡ (x ∷ xs) ++ c ∷ cs = split_is is_text b ∙ (ap (λ (l : List ℕ). l ++ remaining is_text b) p ∙ ap (λ (l : List ℕ). (x ∷ xs) ++ l) r) in
    (x ∷ xs, cs, record { some = omega arith; plain = plain }, all, ap (λ (k : ℕ). k ∷ cs) is, refl)

outside_stands : (b rest : List ℕ) → remaining is_space b ≡ rest → LeadStands b (lead_outside rest)
outside_stands b [] r = tt
outside_stands b (c ∷ cs) r = tested (eqb c 60) refl
  where
    stray_stands : (l : List ℕ) → remaining is_text (c ∷ cs) ≡ l → LeadStands b (lead_stray l)
    stray_stands [] e = tt
    stray_stands (x ∷ xs) e =
        let is = angle x (stops is_text (c ∷ cs) x xs e) in
        let plain = prefix is_text (c ∷ cs) in
        let run : c ∷ cs ≡ plain ++ 60 ∷ xs = split_is is_text (c ∷ cs) ∙ ap (λ (l : List ℕ). plain ++ l) (e ∙ ap (λ (k : ℕ). k ∷ xs) is) in
        let all : b ≡ prefix is_space b ++ (plain ++ 60 ∷ xs) = split_is is_space b ∙ ap (λ (l : List ℕ). prefix is_space b ++ l) (r ∙ run) in
        (prefix is_space b ++ plain, xs, all ∙ sym (append_assoc (prefix is_space b) plain (60 ∷ xs)), refl)

    tested : (t : Bool) → eqb c 60 ≡ t → LeadStands b (cond t (lead.Tag, length (c ∷ cs), cs) (lead_stray (remaining is_text (c ∷ cs))))
    tested true e = (prefix is_space b, split_is is_space b ∙ ap (λ (l : List ℕ). prefix is_space b ++ l) (r ∙ ap (λ (k : ℕ). k ∷ cs) (eqb-true c 60 e)), refl)
    tested false e = stray_stands (remaining is_text (c ∷ cs)) refl

lead_stands : (inside : Bool) (b : List ℕ) → LeadStands b (lead_at inside b)
unfolding lead_at
lead_stands true b = inside_stands b (prefix is_text b) (remaining is_text b) refl refl
lead_stands false b = outside_stands b (remaining is_space b) refl

-- ---- what comes next, behind what is passed over

abbrev FoundStands : List ℕ → Lead × Markup × ℕ × List ℕ → Type 0
FoundStands b (lead.Tag, m, left, more) = (front : List ℕ) × (rest : List ℕ) × (b ≡ front ++ 60 ∷ rest) × (left ≡ length (60 ∷ rest)) × Markups rest (Ok (m, more))
FoundStands b (lead.Run, m, left, rest) = (front : List ℕ) × (run : List ℕ) × (more : List ℕ) × IsRun run × (b ≡ front ++ (run ++ rest)) × (rest ≡ 60 ∷ more) × (left ≡ length (run ++ rest))
FoundStands b (lead.Ended, m, left, rest) = Unit {0}
FoundStands b (lead.Lost, m, left, rest) = Unit {0}
FoundStands b (lead.Stray, m, left, rest) = (front : List ℕ) × (more : List ℕ) × (b ≡ front ++ 60 ∷ more) × (left ≡ length (60 ∷ more))

bare_stands : (b : List ℕ) (l : Lead) (left : ℕ) (rest : List ℕ) → LeadStands b (l, left, rest) → l ≢ lead.Tag → FoundStands b (l, Skipped, left, rest)
bare_stands b lead.Tag left rest h no_tag = absurd (no_tag refl)
bare_stands b lead.Run left rest h no_tag = ([], h.0, h.1, h.2, h.3, h.4, h.5 ∙ ap length h.3)
bare_stands b lead.Ended left rest h no_tag = tt
bare_stands b lead.Lost left rest h no_tag = tt
bare_stands b lead.Stray left rest h no_tag = h

-- the same behind more in front
further : (b front more : List ℕ) (f : Lead × Markup × ℕ × List ℕ) → b ≡ front ++ more → FoundStands more f → FoundStands b f
further b front more (lead.Tag, m, left, end) e h = (front ++ h.0, h.1, e ∙ (ap (λ (l : List ℕ). front ++ l) h.2 ∙ sym (append_assoc front h.0 (60 ∷ h.1))), h.3, h.4)
further b front more (lead.Run, m, left, rest) e h = (front ++ h.0, h.1, h.2, h.3, e ∙ (ap (λ (l : List ℕ). front ++ l) h.4 ∙ sym (append_assoc front h.0 (h.1 ++ rest))), h.5, h.6)
further b front more (lead.Ended, m, left, rest) e h = tt
further b front more (lead.Lost, m, left, rest) e h = tt
further b front more (lead.Stray, m, left, rest) e h = (front ++ h.0, h.1, e ∙ (ap (λ (l : List ℕ). front ++ l) h.2 ∙ sym (append_assoc front h.0 (60 ∷ h.1))), h.3)

tag_stands : (inside : Bool) (b rest : List ℕ) (left : ℕ) → lead_at inside b ≡ (lead.Tag, left, rest) → LeadStands b (lead.Tag, left, rest)
tag_stands inside b rest left e = subst (LeadStands b) e (lead_stands inside b)

found_stands : (inside : Bool) {b : List ℕ} {f : Lead × Markup × ℕ × List ℕ} → Founds inside b f → FoundStands b f
found_stands inside {b = b} (bare {rest = rest} {l = l} {left = left} e no_tag) = bare_stands b l left rest (subst (LeadStands b) e (lead_stands inside b)) no_tag
found_stands inside (lost e m) = tt
found_stands inside {b = b} (stray {rest = rest} {left = left} e m) =
    let w = tag_stands inside b rest left e in
    (w.0, rest, w.1, w.2)
found_stands inside {b = b} (marked {rest = rest} {left = left} e m no_skip) =
    let w = tag_stands inside b rest left e in
    (w.0, rest, w.1, w.2, m)
found_stands inside {b = b} (skipped {rest = rest} {more = more} {left = left} {f = f} e m h) =
    let w = tag_stands inside b rest left e in
    let s : MarkupMade rest (Ok (Skipped, more)) = markups_made rest (Ok (Skipped, more)) m in
    let whole : b ≡ (w.0 ++ s.0) ++ more = w.1 ∙ (ap (λ (l : List ℕ). w.0 ++ l) s.2 ∙ sym (append_assoc w.0 s.0 more)) in
    further b (w.0 ++ s.0) more f whole (found_stands inside h)

-- ---- what is left of a text

-- what is left stands behind this front, and zero bytes behind it
pub record Remains (text : List ℕ) (s : Left) : Type 0 where
  pub front : List ℕ
  pub zeros : List ℕ
  pub text_is : text ≡ front ++ (s.rest ++ zeros)
  pub end_is : s.end ≡ length front + length s.rest
  pub size_is : s.size ≡ length text
  pub no_fault : s.bad ≡ None

-- a piece at its place
place_of : (text front b x y zeros : List ℕ) (end left : ℕ) → text ≡ front ++ (b ++ zeros) → end ≡ length front + length b → b ≡ x ++ y → left ≡ length y → drop (end - left) text ≡ y ++ zeros
place_of text front b x y zeros end left is long parts size =
    let at : end - left ≡ length (front ++ x) = omega (arith, long, size, ap length parts, length-append x y, length-append front x) in
    let whole_text : text ≡ (front ++ x) ++ (y ++ zeros) = is ∙ (ap (λ (l : List ℕ). front ++ (l ++ zeros)) parts ∙ regroup front x y zeros) in
    ap (λ (k : ℕ). drop k text) at ∙ (ap (drop (length (front ++ x))) whole_text ∙ drop-append_seam (front ++ x) (y ++ zeros))
  where
    regroup : (f x y z : List ℕ) → f ++ ((x ++ y) ++ z) ≡ (f ++ x) ++ (y ++ z)
    regroup f x y z = simp append_assoc

-- behind a piece
left_behind : (text front b x y more zeros : List ℕ) (end : ℕ) → text ≡ front ++ (b ++ zeros) → end ≡ length front + length b → b ≡ x ++ (y ++ more)
    → (text ≡ (front ++ (x ++ y)) ++ (more ++ zeros)) × (end ≡ length (front ++ (x ++ y)) + length more)
left_behind text front b x y more zeros end is long parts = (
  is ∙ (ap (λ (l : List ℕ). front ++ (l ++ zeros)) parts ∙ regroup front x y more zeros),
  omega (arith, long, ap length parts, length-append x (y ++ more), length-append y more, length-append x y, length-append front (x ++ y)),
)
  where
    regroup : (f x y m z : List ℕ) → f ++ ((x ++ (y ++ m)) ++ z) ≡ (f ++ (x ++ y)) ++ (m ++ z)
    regroup f x y m z = simp append_assoc

-- a step that stands, and leaves what remains
abbrev StepStands : List ℕ → Tag × Left → Type 0
StepStands text step = StandsIn text step.0 × (is_last step.0 ≡ false → Remains text step.1)

fails_stands : (text : List ℕ) (s : Left) (at : ℕ) → StandsIn text (tags.Bad at) → StepStands text (whole.fails s at)
fails_stands text s at place = (place, λ e. cc e)

-- a fault at a `<`
fails_there : (text : List ℕ) (s : Left) (left : ℕ) (front rest : List ℕ) → Remains text s → s.rest ≡ front ++ 60 ∷ rest → left ≡ length (60 ∷ rest) → StepStands text (whole.fails s (s.end - left))
fails_there text s left front rest r is size =
    fails_stands text s (s.end - left) (inr (rest ++ r.zeros, place_of text r.front s.rest front (60 ∷ rest) r.zeros s.end left r.text_is r.end_is is size))

either_stands : (text : List ℕ) (b : Bool) (x y : Tag × Left) → StepStands text x → StepStands text y → StepStands text (cond b x y)
either_stands text true x y h k = h
either_stands text false x y h k = k

mark_stands : (text : List ℕ) (s : Left) (m : Markup) (left : ℕ) (front rest more : List ℕ) → Remains text s → s.rest ≡ front ++ 60 ∷ rest → left ≡ length (60 ∷ rest)
    → Markups rest (Ok (m, more)) → StepStands text (whole.marks s m (s.end - left) more)
mark_stands text s Skipped left front rest more r is size m = fails_there text s left front rest r is size
mark_stands text s (Finish name) left front rest more r is size m =
    let made : MarkupMade rest (Ok (Finish name, more)) = markups_made rest (Ok (Finish name, more)) m in
    let there = place_of text r.front s.rest front (60 ∷ rest) r.zeros s.end left r.text_is r.end_is is size in
    let behind = left_behind text r.front s.rest front made.0 more r.zeros s.end r.text_is r.end_is (is ∙ ap (λ (l : List ℕ). front ++ l) made.2) in
    either_stands text (whole.closes name s.open_names) _ _ (
      (made.0, more ++ r.zeros, made.1, there ∙ (ap (λ (l : List ℕ). l ++ r.zeros) made.2 ∙ append_assoc made.0 more r.zeros)),
      λ e. record { front = r.front ++ (front ++ made.0); zeros = r.zeros; text_is = behind.0; end_is = behind.1; size_is = r.size_is; no_fault = r.no_fault },
    )
    (fails_there text s left front rest r is size)
mark_stands text s (Start name attributes empty) left front rest more r is size m =
    let made : MarkupMade rest (Ok (Start name attributes empty, more)) = markups_made rest (Ok (Start name attributes empty, more)) m in
    let there = place_of text r.front s.rest front (60 ∷ rest) r.zeros s.end left r.text_is r.end_is is size in
    let behind = left_behind text r.front s.rest front made.0 more r.zeros s.end r.text_is r.end_is (is ∙ ap (λ (l : List ℕ). front ++ l) made.2) in
    let next : Left = record s { rest = more; begun = true; open_names = cond empty s.open_names (s.open_names ++ name ∷ []) } in
    let goes : StepStands text (tags.Start name attributes empty (s.end - left), next) = (
      (made.0, more ++ r.zeros, made.1, there ∙ (ap (λ (l : List ℕ). l ++ r.zeros) made.2 ∙ append_assoc made.0 more r.zeros)),
      λ e. record { front = r.front ++ (front ++ made.0); zeros = r.zeros; text_is = behind.0; end_is = behind.1; size_is = r.size_is; no_fault = r.no_fault },
    ) in
    either_stands text _ _ _ (fails_there text s left front rest r is size) goes

gives_stands : (text : List ℕ) (s : Left) (f : Lead × Markup × ℕ × List ℕ) → Remains text s → FoundStands s.rest f → StepStands text (gives s f.0 f.1 f.2 f.3)
gives_stands text s (lead.Ended, m, left, rest) r h = either_stands text s.begun _ _ (tt, λ e. cc e) (fails_stands text s s.size (inl r.size_is))
gives_stands text s (lead.Lost, m, left, rest) r h = fails_stands text s s.size (inl r.size_is)
gives_stands text s (lead.Stray, m, left, rest) r h = fails_there text s left h.0 h.1 r h.2 h.3
gives_stands text s (lead.Run, m, left, rest) r (front, run, more, is, parts, begins, size) =
    let there = place_of text r.front s.rest front (run ++ rest) r.zeros s.end left r.text_is r.end_is parts size in
    let behind = left_behind text r.front s.rest front run rest r.zeros s.end r.text_is r.end_is parts in
    let piece : (run ++ rest) ++ r.zeros ≡ run ++ 60 ∷ (more ++ r.zeros) = append_assoc run rest r.zeros ∙ ap (λ (l : List ℕ). run ++ (l ++ r.zeros)) begins in
    ((run, more ++ r.zeros, is, there ∙ piece), λ e. record { front = r.front ++ (front ++ run); zeros = r.zeros; text_is = behind.0; end_is = behind.1; size_is = r.size_is; no_fault = r.no_fault })
gives_stands text s (lead.Tag, m, left, more) r (front, rest, is, size, made) = mark_stands text s m left front rest more r is size made

no_some : (at : ℕ) → None ≡ Some at → ⊥
no_some at e = cc

step_stands : (text : List ℕ) (s : Left) (step : Tag × Left) (bad : Option ℕ) → s.bad ≡ bad → Remains text s → whole.continues s step bad → StepStands text step
step_stands text s step (Some at) is r e = let none = sym r.no_fault ∙ is in absurd (no_some at none)
step_stands text s step None is r (f, found, e) = subst (StepStands text) (sym e) (gives_stands text s f r (found_stands _ found))

runs_stand : (text : List ℕ) {s : Left} {ts : List Tag} → Remains text s → Runs s ts → AllByRecursion (StandsIn text) ts
runs_stand text {s = s} r (ends {tag = tag} t n l) = ((step_stands text s (tag, t) s.bad refl r n).0, tt)
runs_stand text {s = s} r (follows {tag = tag} t n l more) =
    let here = step_stands text s (tag, t) s.bad refl r n in
    (here.0, runs_stand text (here.1 l) more)

-- ---- the whole text

zeros_behind : (b : List ℕ) → (z : List ℕ) × (b ≡ without_zeros b ++ z)
zeros_behind [] = ([], refl)
zeros_behind (c ∷ cs) =
    let w = zeros_behind cs in
    by_kept (without_zeros cs) w.0 w.1
  where
    last : (t : Bool) (z : List ℕ) → cs ≡ z → (y : List ℕ) × (c ∷ cs ≡ cond t [] (c ∷ []) ++ y)
    last true z e = (c ∷ cs, refl)
    last false z e = (cs, refl)

    by_kept : (ds z : List ℕ) → cs ≡ ds ++ z → (y : List ℕ) × (c ∷ cs ≡ kept c ds ++ y)
    by_kept [] z e = last (eqb c 0) z e
    by_kept (d ∷ ds) z e = (z, ap (λ (l : List ℕ). c ∷ l) e)

mark_before : (b : List ℕ) → (m : List ℕ) × (b ≡ m ++ without_mark b)
mark_before b = tested (starts_with nat_eq b (239 ∷ 187 ∷ 191 ∷ [])) refl
  where
    tested : (t : Bool) → starts_with nat_eq b (239 ∷ 187 ∷ 191 ∷ []) ≡ t → (m : List ℕ) × (b ≡ m ++ cond t (drop 3 b) b)
    tested true e = (239 ∷ 187 ∷ 191 ∷ [], starts_made b (239 ∷ 187 ∷ 191 ∷ []) e)
    tested false e = ([], refl)

all_remains : (text : List ℕ) → Remains text (begin text)
all_remains text =
    let z = zeros_behind text in
    let m = mark_before (without_zeros text) in
    record {
      front = m.0;
      zeros = z.0;
      text_is = z.1 ∙ (ap (λ (l : List ℕ). l ++ z.0) m.1 ∙ append_assoc m.0 (without_mark (without_zeros text)) z.0);
      end_is = ap length m.1 ∙ length-append m.0 (without_mark (without_zeros text));
      size_is = refl;
      no_fault = refl;
    }

pub tags_stand : (text : List ℕ) (ts : List Tag) → TagsOf text ts → AllByRecursion (StandsIn text) ts
tags_stand text ts runs = runs_stand text (all_remains text) runs
