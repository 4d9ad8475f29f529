-- Further bytes change no decision that was made, and none is made beyond the box's end.
use Rattle.std.proofs.Common.{◌≡◌, ℕ, ◌+◌, ◌-◌, ◌<◌, ◌≤◌, Bool, false, ltb, leb, List, [], ◌++◌, length, take, drop, refl, sym, subst, ◌∙◌, arith, inl, inr}
use Rattle.std.proofs.lemmas.Bool.{cases_Bool, cond_both, le-ltb, ltb-true, ltb-false, leb-true, and_parts}
use Rattle.std.proofs.lemmas.List.{length-append}
use Rattle.std.specs.Prelude.{◌&&◌, is_some, None, codes}
use Rattle.sm_push.specs.declared.state.PushState.{PushState}
use Rattle.sm_push.specs.declared.state.HeaderStage.{HeaderStage}
use Rattle.sm_push.specs.declared.state.HeaderStage.TheVariants.{Gathering, Complete}
use Rattle.sm_push.specs.declared.state.TopBox.{TopBox}
use Rattle.sm_push.specs.declared.state.TopBox.TheVariants as sorts
use Rattle.sm_push.specs.declared.state.BoxDecision.{BoxDecision}
use Rattle.sm_push.specs.declared.state.BoxDecision.TheVariants.{Wait, Refuse, Pass, Take}
use Rattle.sm_model.specs.Boxes.{IsOneBox}
use Rattle.sm_push.specs.PushHeads.{decision, by_kind, ruling, at_top, behind_moof, within, user_sort, kind_sort, is}
use Rattle.sm_box.specs.Heads.{head_of}
use Rattle.sm_box.specs.declared.head.Head.{Head}
use Rattle.sm_box.specs.declared.head.Head.TheVariants as heads
use Rattle.sm_push.specs.Heads.{by_head, FitsIn}
use Rattle.sm_push.proofs.HeadLemmas.{decision_is}
use Rattle.sm_push.proofs.Fronts.{part_stable, head_stable, Tight, head_tight, short_tight, one_box}

longer : (n : ℕ) (h t : List ℕ) → n ≤ length h → ltb (length (h ++ t)) n ≡ false
longer n h t le = le-ltb _ _ (omega (arith, length-append h t))

abbrev pub IsMade : BoxDecision → Type 0
IsMade Wait = ⊥
IsMade (Refuse cause) = Unit {0}
IsMade (Pass size) = Unit {0}
IsMade (Take sort size) = Unit {0}

kind_stable : (s : PushState) (h t : List ℕ) (kind : List ℕ) (head size : ℕ) → IsMade (by_kind s h kind head size) → by_kind s (h ++ t) kind head size ≡ by_kind s h kind head size
kind_stable s h t kind head size made =
    elim (cases_Bool (is kind (codes "uuid") && leb 16 (size - head))) [
      | inl first ↦ elim (cases_Bool (ltb (length h) (head + 16))) [
        | inl lt ↦ absurd (rw (first, lt) at made)
        | inr more ↦
            let le : head + 16 ≤ length h = ltb-false _ _ more in
            rw (first, more, longer (head + 16) h t le, part_stable head 16 h t (omega arith)) refl
      ]
      | inr other ↦ rw other refl
    ]

stable_at : (s : PushState) (h t : List ℕ) (hd : Head) → head_of h ≡ hd → IsMade (by_head s h hd) → by_head s (h ++ t) (head_of (h ++ t)) ≡ by_head s h hd
stable_at s h t heads.Short e made = absurd made
stable_at s h t heads.Bad e made =
    let same : head_of (h ++ t) ≡ heads.Bad = head_stable h t (rw e tt) ∙ e in rw same refl
stable_at s h t heads.OpenEnded e made =
    let same : head_of (h ++ t) ≡ heads.OpenEnded = head_stable h t (rw e tt) ∙ e in rw same refl
stable_at s h t (heads.Whole kind head size) e made =
    let same : head_of (h ++ t) ≡ heads.Whole kind head size = head_stable h t (rw e tt) ∙ e in
    rw same (kind_stable s h t kind head size made)

-- what is decided stays decided
pub stable : (s : PushState) (h t : List ℕ) → IsMade (decision s h) → decision s (h ++ t) ≡ decision s h
stable s h t made = decision_is s (h ++ t) ∙ stable_at s h t (head_of h) refl (subst IsMade (decision_is s h) made) ∙ sym (decision_is s h)

-- ---- a decision comes no later than the end of the box

behind_fits : (sort : TopBox) (head size count : ℕ) → count ≤ size → FitsIn count (behind_moof sort head size)
behind_fits sorts.Mdat head size count le = cond_both (ltb 67108864 (size - head)) _ _ (FitsIn count) (λ _. tt) (λ _. le)
behind_fits sorts.Moof head size count le = tt
behind_fits sorts.Moov head size count le = tt
behind_fits sorts.Manifest head size count le = tt
behind_fits sorts.Other head size count le = tt

within_fits : (sort : TopBox) (size counted most count : ℕ) → count ≤ size → FitsIn count (within sort size counted most)
within_fits sort size counted most count le = cond_both (ltb most counted) _ _ (FitsIn count) (λ _. tt) (λ _. le)

top_fits : (headerless : Bool) (stage : HeaderStage) (sort : TopBox) (size count : ℕ) → count ≤ size → FitsIn count (at_top headerless stage sort size)
top_fits headerless (Complete tracks) sorts.Moof size count le = within_fits sorts.Moof size size 2097152 count le
top_fits headerless (Gathering manifest moov) sorts.Moof size count le = cond_both headerless _ _ (FitsIn count) (λ _. within_fits sorts.Moof size size 2097152 count le) (λ _. tt)
top_fits headerless (Gathering manifest None) sorts.Moov size count le = within_fits sorts.Moov size size 1048576 count le
top_fits headerless (Gathering None moov) sorts.Manifest size count le = within_fits sorts.Manifest size size 1048576 count le
top_fits headerless _ _ size count le = le

ruling_fits : (s : PushState) (sort : TopBox) (head size count : ℕ) → count ≤ size → FitsIn count (ruling s sort head size)
ruling_fits s sort head size count le = cond_both (is_some s.moof) _ _ (FitsIn count) (λ _. behind_fits sort head size count le) (λ _. top_fits s.headerless s.stage sort size count le)

-- for a count that the head covers, or that the user type covers where there is room for one
kind_fits : (s : PushState) (b : List ℕ) (kind : List ℕ) (head size count : ℕ) → count ≤ size → FitsIn count (by_kind s b kind head size)
kind_fits s b kind head size count le =
    cond_both (is kind (codes "uuid") && leb 16 (size - head)) _ _ (FitsIn count)
    (λ _. cond_both (ltb (length b) (head + 16)) _ _ (FitsIn count) (λ _. tt) (λ _. ruling_fits s (user_sort (take 16 (drop head b))) head size count le))
    (λ _. ruling_fits s (kind_sort kind) head size count le)

behind_made : (sort : TopBox) (head size : ℕ) → IsMade (behind_moof sort head size)
behind_made sorts.Mdat head size = cond_both (ltb 67108864 (size - head)) _ _ IsMade (λ _. tt) (λ _. tt)
behind_made sorts.Moof head size = tt
behind_made sorts.Moov head size = tt
behind_made sorts.Manifest head size = tt
behind_made sorts.Other head size = tt

within_made : (sort : TopBox) (size counted most : ℕ) → IsMade (within sort size counted most)
within_made sort size counted most = cond_both (ltb most counted) _ _ IsMade (λ _. tt) (λ _. tt)

top_made : (headerless : Bool) (stage : HeaderStage) (sort : TopBox) (size : ℕ) → IsMade (at_top headerless stage sort size)
top_made headerless (Complete tracks) sorts.Moof size = within_made sorts.Moof size size 2097152
top_made headerless (Gathering manifest moov) sorts.Moof size = cond_both headerless _ _ IsMade (λ _. within_made sorts.Moof size size 2097152) (λ _. tt)
top_made headerless (Gathering manifest None) sorts.Moov size = within_made sorts.Moov size size 1048576
top_made headerless (Gathering None moov) sorts.Manifest size = within_made sorts.Manifest size size 1048576
top_made headerless _ _ size = tt

pub ruling_made : (s : PushState) (sort : TopBox) (head size : ℕ) → IsMade (ruling s sort head size)
ruling_made s sort head size = cond_both (is_some s.moof) _ _ IsMade (λ _. behind_made sort head size) (λ _. top_made s.headerless s.stage sort size)

pub wait_made : (d : BoxDecision) → IsMade d → d ≡ Wait → ⊥
wait_made d made e = let wait : IsMade Wait = rw e at made in wait

-- a box that waits for its user type has room for it
pub waits_for_user : (s : PushState) (h : List ℕ) (kind : List ℕ) (head size : ℕ) → by_kind s h kind head size ≡ Wait → (length h < head + 16) × (16 ≤ size - head)
waits_for_user s h kind head size e =
    elim (cases_Bool (is kind (codes "uuid") && leb 16 (size - head))) [
      | inl first ↦ elim (cases_Bool (ltb (length h) (head + 16))) [
        | inl lt ↦ (ltb-true _ _ lt, leb-true _ _ (and_parts (is kind (codes "uuid")) (leb 16 (size - head)) first).1)
        | inr more ↦ absurd (wait_made _ (ruling_made s _ head size) (rw (first, more) at e))
      ]
      | inr other ↦ absurd (wait_made _ (ruling_made s _ head size) (rw other at e))
    ]

tight_fits : (s : PushState) (b : List ℕ) (count : ℕ) (hd : Head) → Tight count hd → FitsIn count (by_head s b hd)
tight_fits s b count heads.Short t = tt
tight_fits s b count heads.Bad t = tt
tight_fits s b count heads.OpenEnded t = tt
tight_fits s b count (heads.Whole kind head size) t = kind_fits s b kind head size count t.1

fits_at : (s : PushState) (h t : List ℕ) (count : ℕ) (hd : Head) → head_of h ≡ hd → by_head s h hd ≡ Wait → count ≤ length h + 1 → FitsIn count (by_head s (h ++ t) (head_of (h ++ t)))
fits_at s h t count heads.Short e waits le = tight_fits s (h ++ t) count (head_of (h ++ t)) (head_tight h t count e le)
fits_at s h t count heads.Bad e waits le = absurd cc
fits_at s h t count heads.OpenEnded e waits le = absurd cc
fits_at s h t count (heads.Whole kind head size) e waits le =
    let same : head_of (h ++ t) ≡ heads.Whole kind head size = head_stable h t (rw e tt) ∙ e in
    let w = waits_for_user s h kind head size waits in
    rw same (kind_fits s (h ++ t) kind head size count (omega (arith, w.0, w.1)))

-- the 8 bytes that each head has are inside the box
pub fits_short : (s : PushState) (b : List ℕ) (count : ℕ) → count ≤ 8 → FitsIn count (decision s b)
fits_short s b count le = subst (FitsIn count) (sym (decision_is s b)) (tight_fits s b count (head_of b) (short_tight b count le))

-- one byte more than an undecided head has is still inside the box
pub fits_more : (s : PushState) (h t : List ℕ) (count : ℕ) → decision s h ≡ Wait → count ≤ length h + 1 → FitsIn count (decision s (h ++ t))
fits_more s h t count waits le = subst (FitsIn count) (sym (decision_is s (h ++ t))) (fits_at s h t count (head_of h) refl (sym (decision_is s h) ∙ waits) le)

pub decision-nil : (s : PushState) → decision s [] ≡ Wait
unfolding decision
decision-nil s = refl

-- ---- a decision is on a box of the head's size

abbrev pub SizeIs : ℕ → BoxDecision → Type 0
SizeIs size Wait = Unit {0}
SizeIs size (Refuse cause) = Unit {0}
SizeIs size (Pass n) = n ≡ size
SizeIs size (Take sort n) = n ≡ size

within_size : (sort : TopBox) (size counted most : ℕ) → SizeIs size (within sort size counted most)
within_size sort size counted most = cond_both (ltb most counted) _ _ (SizeIs size) (λ _. tt) (λ _. refl)

behind_size : (sort : TopBox) (head size : ℕ) → SizeIs size (behind_moof sort head size)
behind_size sorts.Mdat head size = within_size sorts.Mdat size (size - head) 67108864
behind_size sorts.Moof head size = tt
behind_size sorts.Moov head size = tt
behind_size sorts.Manifest head size = tt
behind_size sorts.Other head size = tt

top_size : (headerless : Bool) (stage : HeaderStage) (sort : TopBox) (size : ℕ) → SizeIs size (at_top headerless stage sort size)
top_size headerless (Complete tracks) sorts.Moof size = within_size sorts.Moof size size 2097152
top_size headerless (Gathering manifest moov) sorts.Moof size = cond_both headerless _ _ (SizeIs size) (λ _. within_size sorts.Moof size size 2097152) (λ _. tt)
top_size headerless (Gathering manifest None) sorts.Moov size = within_size sorts.Moov size size 1048576
top_size headerless (Gathering None moov) sorts.Manifest size = within_size sorts.Manifest size size 1048576
top_size headerless _ _ size = refl

ruling_size : (s : PushState) (sort : TopBox) (head size : ℕ) → SizeIs size (ruling s sort head size)
ruling_size s sort head size = cond_both (is_some s.moof) _ _ (SizeIs size) (λ _. behind_size sort head size) (λ _. top_size s.headerless s.stage sort size)

pub kind_size : (s : PushState) (b : List ℕ) (kind : List ℕ) (head size : ℕ) → SizeIs size (by_kind s b kind head size)
kind_size s b kind head size =
    cond_both (is kind (codes "uuid") && leb 16 (size - head)) _ _ (SizeIs size)
    (λ _. cond_both (ltb (length b) (head + 16)) _ _ (SizeIs size) (λ _. tt) (λ _. ruling_size s (user_sort (take 16 (drop head b))) head size))
    (λ _. ruling_size s (kind_sort kind) head size)

whole_at : (s : PushState) (h : List ℕ) (sort : TopBox) (size : ℕ) (hd : Head) → head_of h ≡ hd → by_head s h hd ≡ Take sort size → length h ≡ size → IsOneBox h
whole_at s h sort size heads.Short read e whole = absurd cc
whole_at s h sort size heads.Bad read e whole = absurd cc
whole_at s h sort size heads.OpenEnded read e whole = absurd cc
whole_at s h sort size (heads.Whole kind head n) read e whole =
    let same : size ≡ n = subst (SizeIs n) e (kind_size s h kind head n) in one_box h kind head n read (omega arith)

-- what is taken is one whole box
pub taken_whole : (s : PushState) (h : List ℕ) (sort : TopBox) (size : ℕ) → decision s h ≡ Take sort size → length h ≡ size → IsOneBox h
taken_whole s h sort size e whole = whole_at s h sort size (head_of h) refl (sym (decision_is s h) ∙ e) whole
