-- Bytes give what their boxes and their rest give.
use Rattle.std.proofs.Common.{◌≡◌, ℕ, zero, suc, ◌+◌, ◌-◌, ◌<◌, ◌≤◌, true, false, ltb, leb, List, [], ◌∷◌, ◌++◌, length, take, drop, refl, sym, ap, subst, ◌∙◌, arith, inl, inr}
use Rattle.std.specs.Prelude.{◌&&◌, is_some, Ok, Err, codes}
use Rattle.std.specs.Option.{option_to_list}
use Rattle.std.specs.List.{AllByRecursion}
use Rattle.std.proofs.lemmas.Bool.{cases_lt, cond_both, lt-ltb, ltb-true, leb-true, and_parts}
use Rattle.std.proofs.lemmas.List.{append_assoc, take-append-drop, length-take}
use Rattle.sm_push.specs.declared.state.PushState.{PushState}
use Rattle.sm_push.specs.declared.state.BoxDecision.{BoxDecision}
use Rattle.sm_push.specs.declared.state.BoxDecision.TheVariants.{Wait, Refuse, Pass, Take}
use Rattle.sm_model.specs.Boxes.{IsOneBox, starts_whole, box_of}
use Rattle.sm_push.specs.PushHeads.{decision, by_kind, user_sort, kind_sort, is as is_kind}
use Rattle.sm_push.specs.PushBoxes.{Step, taken, passed}
use Rattle.sm_push.specs.Body.{Outcome, ended, led_by, stepped, at_box, walk}
use Rattle.sm_model.proofs.BoxLemmas.{is_whole, size_of}
use Rattle.sm_box.specs.Heads.{head_of}
use Rattle.sm_box.specs.declared.head.Head.{Head}
use Rattle.sm_box.specs.declared.head.Head.TheVariants as heads
use Rattle.sm_push.specs.Heads.{by_head}
use Rattle.sm_push.specs.Boxes.{bytes_of, rest_gives, rest_inside, step_gives, box_gives, boxes_give}
use Rattle.sm_push.proofs.HeadLemmas.{decision_is}
use Rattle.sm_push.proofs.Fronts.{IsRead, Tight, head_stable, head_tight, whole_is}
use Rattle.sm_push.proofs.Stable.{decision-nil, ruling_made, IsMade, SizeIs, kind_size}
use Rattle.sm_push.proofs.Walking.{passes, refuses, takes}

-- a whole box's head is read as it is
abbrev pub ReadsWhole : Type 0
ReadsWhole = (b : List ℕ) → starts_whole b ≡ true → head_of b ≡ heads.Whole (box_of b).kind (box_of b).head (box_of b).size

abbrev HasSize : ℕ → Head → Type 0
HasSize count (heads.Whole kind head size) = size ≡ count
HasSize count heads.Short = ⊥
HasSize count heads.Bad = ⊥
HasSize count heads.OpenEnded = ⊥

has_size : ReadsWhole → (box : List ℕ) → IsOneBox box → HasSize (length box) (head_of box)
has_size reads box one = rw (reads box one.whole) (size_of box ∙ one.all)

abbrev IsBeyond : ℕ → Head → Type 0
IsBeyond count (heads.Whole kind head size) = count < size
IsBeyond count heads.Short = Unit {0}
IsBeyond count heads.Bad = Unit {0}
IsBeyond count heads.OpenEnded = Unit {0}

ends_beyond : (rest : List ℕ) (hd : Head) → head_of rest ≡ hd → starts_whole rest ≡ false → IsBeyond (length rest) hd
ends_beyond rest heads.Short e none = tt
ends_beyond rest heads.Bad e none = tt
ends_beyond rest heads.OpenEnded e none = tt
ends_beyond rest (heads.Whole kind head size) e none =
    elim (cases_lt (length rest) size) [
      | inl lt ↦ lt
      | inr ge ↦
          let w = whole_is rest kind head size e in
          let whole : starts_whole rest ≡ true = is_whole rest (record { eight = w.eight; head = omega (arith, w.fits, w.head_is, w.size_is); size = omega (arith, w.size_is, ge) }) in
          absurd cc
    ]

-- on a whole box a decision is made
kind_whole : (s : PushState) (b : List ℕ) (kind : List ℕ) (head size : ℕ) → size ≤ length b → IsMade (by_kind s b kind head size)
kind_whole s b kind head size le =
    cond_both (is_kind kind (codes "uuid") && leb 16 (size - head)) _ _ IsMade
    (λ first. cond_both (ltb (length b) (head + 16)) _ _ IsMade
    (λ lt. absurd (omega (arith, ltb-true _ _ lt, leb-true _ _ (and_parts (is_kind kind (codes "uuid")) (leb 16 (size - head)) first).1)))
    (λ _. ruling_made s (user_sort (take 16 (drop head b))) head size))
    (λ _. ruling_made s (kind_sort kind) head size)

box_at : (s : PushState) (box : List ℕ) (hd : Head) → HasSize (length box) hd → SizeIs (length box) (by_head s box hd) × IsMade (by_head s box hd)
box_at s box heads.Short is = absurd is
box_at s box heads.Bad is = absurd is
box_at s box heads.OpenEnded is = absurd is
box_at s box (heads.Whole kind head size) is =
    (subst (λ (n : ℕ). SizeIs n (by_kind s box kind head size)) is (kind_size s box kind head size), kind_whole s box kind head size (omega arith))

box_decision : (s : PushState) (box : List ℕ) → HasSize (length box) (head_of box) → SizeIs (length box) (decision s box) × IsMade (decision s box)
box_decision s box is = subst (λ (d : BoxDecision). SizeIs (length box) d × IsMade d) (sym (decision_is s box)) (box_at s box (head_of box) is)

-- ---- a rest gives nothing but its head's refusal

abbrev Beyond : ℕ → BoxDecision → Type 0
Beyond count Wait = Unit {0}
Beyond count (Refuse cause) = Unit {0}
Beyond count (Pass n) = count < n
Beyond count (Take sort n) = count < n

sized_beyond : (count size : ℕ) (d : BoxDecision) → count < size → SizeIs size d → Beyond count d
sized_beyond count size Wait lt is = tt
sized_beyond count size (Refuse cause) lt is = tt
sized_beyond count size (Pass n) lt is = omega arith
sized_beyond count size (Take sort n) lt is = omega arith

rest_at : (s : PushState) (rest : List ℕ) (hd : Head) → IsBeyond (length rest) hd → Beyond (length rest) (by_head s rest hd)
rest_at s rest heads.Short lt = tt
rest_at s rest heads.Bad lt = tt
rest_at s rest heads.OpenEnded lt = tt
rest_at s rest (heads.Whole kind head size) lt = sized_beyond (length rest) size (by_kind s rest kind head size) lt (kind_size s rest kind head size)

rest_decision : (s : PushState) (rest : List ℕ) → starts_whole rest ≡ false → Beyond (length rest) (decision s rest)
rest_decision s rest none = subst (Beyond (length rest)) (sym (decision_is s rest)) (rest_at s rest (head_of rest) (ends_beyond rest (head_of rest) refl none))

-- past the end of the bytes
beyond_end : (s : PushState) (k : ℕ) (xs : List ℕ) → length xs < k → walk s k xs ≡ ended s true
unfolding walk
beyond_end s (suc k) [] lt = let some : ltb 0 (suc k) ≡ true = lt-ltb _ _ (omega arith) in rw some refl
beyond_end s (suc k) (x ∷ xs) lt = beyond_end s k xs (omega arith)
beyond_end s zero xs lt = absurd (omega arith)

rest_walk_at : (s : PushState) (x : ℕ) (xs : List ℕ) (d : BoxDecision) → Beyond (length (x ∷ xs)) d → at_box s (x ∷ xs) d (λ next size. walk next (size - 1) xs) ≡ rest_gives s d true
rest_walk_at s x xs Wait lt = refl
rest_walk_at s x xs (Refuse cause) lt = refl
rest_walk_at s x xs (Pass n) lt = beyond_end (passed s n) (n - 1) xs (omega arith)
rest_walk_at s x xs (Take sort n) lt = let short : ltb (length (x ∷ xs)) n ≡ true = lt-ltb _ _ lt in rw short refl

rest_walk : (s : PushState) (rest : List ℕ) → starts_whole rest ≡ false → walk s 0 rest ≡ rest_gives s (decision s rest) (rest_inside rest (is_some s.moof))
unfolding walk
rest_walk s [] none = rw (decision-nil s) refl
rest_walk s (x ∷ xs) none = rest_walk_at s x xs (decision s (x ∷ xs)) (rest_decision s (x ∷ xs) none)

-- ---- boxes

step_walk : (s : PushState) (step : Step) (size : ℕ) (go : PushState → Outcome) (go' : PushState → Outcome) → ((next : PushState) → go next ≡ go' next) → stepped s step size (λ next _. go next) ≡
    step_gives s step go'
step_walk s (Err r) size go go' h = refl
step_walk s (Ok step) size go go' h = ap (led_by (option_to_list step.0)) (h step.1)

box_walk : (s : PushState) (box more : List ℕ) (d : BoxDecision) → decision s box ≡ d → SizeIs (length box) d × IsMade d → (go' : PushState → Outcome) →
    ((next : PushState) → walk next 0 more ≡ go' next)
    → walk s 0 (box ++ more) ≡ box_gives s box d go'
box_walk s box more Wait e is go' h = absurd is.1
box_walk s box more (Refuse cause) e is go' h = refuses s box more cause e
box_walk s box more (Pass n) e is go' h =
    passes s box more n e (omega (arith, is.0)) ∙ ap (λ (k : ℕ). walk (passed s n) k more) (omega (arith, is.0)) ∙ h (passed s n)
box_walk s box more (Take sort n) e is go' h =
    takes s box more sort n e (sym is.0) ∙ step_walk s (taken s sort box) n (λ next. walk next 0 more) go' h

-- what boxes and a rest give is what their bytes give
pub boxes_walk : ReadsWhole → (s : PushState) (boxes : List (List ℕ)) (rest : List ℕ) → AllByRecursion IsOneBox boxes → starts_whole rest ≡ false → walk s 0 (bytes_of boxes ++ rest) ≡ boxes_give s
    boxes rest
boxes_walk reads s [] rest each last = rest_walk s rest last
boxes_walk reads s (box ∷ boxes) rest each last =
    rw (append_assoc box (bytes_of boxes) rest) (box_walk s box (bytes_of boxes ++ rest) (decision s box) refl (box_decision s box (has_size reads box each.0)) (λ next. boxes_give next boxes rest)
    (λ next. boxes_walk reads next boxes rest each.1 last))

-- ---- the box in front of bytes

not_short_read : (hd : Head) → (hd ≡ heads.Short → ⊥) → IsRead hd
not_short_read heads.Short h = h refl
not_short_read heads.Bad h = tt
not_short_read heads.OpenEnded h = tt
not_short_read (heads.Whole kind head size) h = tt

-- a box's head is that of all the bytes
pub head_take : (b : List ℕ) (kind : List ℕ) (head size : ℕ) → head_of b ≡ heads.Whole kind head size → size ≤ length b → head_of (take size b) ≡ heads.Whole kind head size
head_take b kind head size e le =
    let fits = whole_is b kind head size e in
    let joined : take size b ++ drop size b ≡ b = take-append-drop size b in
    let len : length (take size b) ≡ size = omega (arith, length-take size b) in
    let read : IsRead (head_of (take size b)) = not_short_read _ (λ short.
    let t : Tight (size + 1) (heads.Whole kind head size) = rw (joined, e) at (head_tight (take size b) (drop size b) (size + 1) short (omega arith)) in
    omega (arith, t.0, fits.fits)) in
    sym (head_stable (take size b) (drop size b) read) ∙ ap head_of joined ∙ e
