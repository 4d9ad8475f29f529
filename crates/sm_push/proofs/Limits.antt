-- What a push holds at the most.
use Rattle.std.proofs.Common.{◌≡◌, ◌≤◌, ◌<◌, ◌+◌, ◌-◌, ℕ, Bool, true, false, cond, eqb, leb, ltb, ◌&&◌, List, length, take, drop, Option, Some, None, refl, sym, subst, ◌∙◌, arith}
use Rattle.std.specs.Prelude.{is_some, codes}
use Rattle.std.proofs.lemmas.Bool.{cond_both, ltb-true, ltb-false}
use Rattle.sm_push.specs.declared.state.PushState.{PushState}
use Rattle.sm_push.specs.declared.state.HeaderStage.{HeaderStage}
use Rattle.sm_push.specs.declared.state.HeaderStage.TheVariants.{Gathering, Complete}
use Rattle.sm_push.specs.declared.state.TopBox.{TopBox}
use Rattle.sm_push.specs.declared.state.TopBox.TheVariants as sorts
use Rattle.sm_push.specs.declared.state.BoxDecision.{BoxDecision}
use Rattle.sm_push.specs.declared.state.BoxDecision.TheVariants.{Wait, Refuse, Pass, Take}
use Rattle.sm_model.specs.Boxes.{head_len, box_len}
use Rattle.sm_model.specs.Numbers.{number32_at}
use Rattle.sm_push.specs.PushHeads.{decision, by_kind, ruling, at_top, behind_moof, within, user_sort, kind_sort, is}
use Rattle.sm_box.specs.Heads.{head_of}
use Rattle.sm_box.specs.declared.head.Head.{Head}
use Rattle.sm_box.specs.declared.head.Head.TheVariants as heads
use Rattle.sm_push.specs.declared.kept.Kept.{Kept}
use Rattle.sm_push.specs.Heads.{by_head, IsOpen}
use Rattle.sm_push.specs.Held.{most_of, box_bytes, gathered_bytes, kept_bytes, lacking}
use Rattle.sm_push.specs.Steps.{IsBoxIn, AreNotBoth, AreGathered}
use Rattle.sm_push.specs.Standing.{IsPartial}
use Rattle.sm_push.proofs.HeadLemmas.{decision_is}
use Rattle.sm_push.proofs.Fronts.{whole_is}
use Rattle.sm_push.proofs.Stable.{waits_for_user}

-- ---- a box that is read is within its limit

abbrev IsLimited : BoxDecision → Type 0
IsLimited Wait = Unit {0}
IsLimited (Refuse cause) = Unit {0}
IsLimited (Pass size) = Unit {0}
IsLimited (Take sort size) = size ≤ most_of sort

within_limited : (sort : TopBox) (size counted most : ℕ) → (counted ≤ most → size ≤ most_of sort) → IsLimited (within sort size counted most)
within_limited sort size counted most le = cond_both (ltb most counted) _ _ IsLimited (λ _. tt) (λ e. le (ltb-false _ _ e))

behind_limited : (sort : TopBox) (head size : ℕ) → head ≤ 16 → IsLimited (behind_moof sort head size)
behind_limited sorts.Mdat head size h = within_limited sorts.Mdat size (size - head) 67108864 (λ le. omega arith)
behind_limited sorts.Moof head size h = tt
behind_limited sorts.Moov head size h = tt
behind_limited sorts.Manifest head size h = tt
behind_limited sorts.Other head size h = tt

top_limited : (headerless : Bool) (stage : HeaderStage) (sort : TopBox) (size : ℕ) → IsLimited (at_top headerless stage sort size)
top_limited headerless (Complete tracks) sorts.Moof size = within_limited sorts.Moof size size 2097152 (λ le. le)
top_limited headerless (Gathering manifest moov) sorts.Moof size = cond_both headerless _ _ IsLimited (λ _. within_limited sorts.Moof size size 2097152 (λ le. le)) (λ _. tt)
top_limited headerless (Gathering manifest None) sorts.Moov size = within_limited sorts.Moov size size 1048576 (λ le. le)
top_limited headerless (Gathering None moov) sorts.Manifest size = within_limited sorts.Manifest size size 1048576 (λ le. le)
top_limited headerless _ _ size = tt

ruling_limited : (s : PushState) (sort : TopBox) (head size : ℕ) → head ≤ 16 → IsLimited (ruling s sort head size)
ruling_limited s sort head size h = cond_both (is_some s.moof) _ _ IsLimited (λ _. behind_limited sort head size h) (λ _. top_limited s.headerless s.stage sort size)

kind_limited : (s : PushState) (b kind : List ℕ) (head size : ℕ) → head ≤ 16 → IsLimited (by_kind s b kind head size)
kind_limited s b kind head size h =
    cond_both (is kind (codes "uuid") && leb 16 (size - head)) _ _ IsLimited
    (λ _. cond_both (ltb (length b) (head + 16)) _ _ IsLimited (λ _. tt) (λ _. ruling_limited s (user_sort (take 16 (drop head b))) head size h))
    (λ _. ruling_limited s (kind_sort kind) head size h)

head_len_short : (b : List ℕ) → head_len b ≤ 16
unfolding head_len
head_len_short b = cond_both (eqb (number32_at 0 b) 1) 16 8 (λ (n : ℕ). n ≤ 16) (λ _. omega arith) (λ _. omega arith)

head_short : (b kind : List ℕ) (head size : ℕ) → head_of b ≡ heads.Whole kind head size → head ≤ 16
head_short b kind head size e = omega (arith, (whole_is b kind head size e).head_is, head_len_short b)

limited_at : (s : PushState) (b : List ℕ) (hd : Head) → head_of b ≡ hd → IsLimited (by_head s b hd)
limited_at s b heads.Short e = tt
limited_at s b heads.Bad e = tt
limited_at s b heads.OpenEnded e = tt
limited_at s b (heads.Whole kind head size) e = kind_limited s b kind head size (head_short b kind head size e)

pub take_limited : (s : PushState) (b : List ℕ) (sort : TopBox) (size : ℕ) → decision s b ≡ Take sort size → size ≤ most_of sort
take_limited s b sort size e = subst IsLimited (sym (decision_is s b) ∙ e) (limited_at s b (head_of b) refl)

-- ---- a head that waits is short

short_by : (b : List ℕ) (kind : List ℕ) (b1 b2 b3 b4 : Bool) → ltb (length b) 8 ≡ b1 → ltb (length b) (head_len b) ≡ b3
    → cond b1 heads.Short (cond b2 heads.OpenEnded (cond b3 heads.Short (cond b4 heads.Bad (heads.Whole kind (head_len b) (box_len b))))) ≡ heads.Short → length b < 16
short_by b kind true b2 b3 b4 p q e = omega (arith, ltb-true _ _ p)
short_by b kind false true b3 b4 p q e = absurd cc
short_by b kind false false true b4 p q e = omega (arith, ltb-true _ _ q, head_len_short b)
short_by b kind false false false true p q e = absurd cc
short_by b kind false false false false p q e = absurd cc

short_is : (b : List ℕ) → head_of b ≡ heads.Short → length b < 16
unfolding head_of
short_is b e = short_by b (take 4 (drop 4 b)) _ _ _ _ refl refl e

wait_at : (s : PushState) (b : List ℕ) (hd : Head) → head_of b ≡ hd → by_head s b hd ≡ Wait → length b < 32
wait_at s b heads.Short e w = omega (arith, short_is b e)
wait_at s b heads.Bad e w = absurd cc
wait_at s b heads.OpenEnded e w = absurd cc
wait_at s b (heads.Whole kind head size) e w = omega (arith, (waits_for_user s b kind head size w).0, head_short b kind head size e)

wait_short : (s : PushState) (b : List ℕ) → decision s b ≡ Wait → length b < 32
wait_short s b e = wait_at s b (head_of b) refl (sym (decision_is s b) ∙ e)

-- ---- all that is held

most_le : (sort : TopBox) → most_of sort ≤ 67108880
most_le sorts.Moof = omega arith
most_le sorts.Mdat = omega arith
most_le sorts.Moov = omega arith
most_le sorts.Manifest = omega arith
most_le sorts.Other = omega arith

begun_at : (s : PushState) (b : List ℕ) (d : BoxDecision) → decision s b ≡ d → IsOpen (length b) d → length b < 67108880
begun_at s b Wait e o = omega (arith, wait_short s b e)
begun_at s b (Refuse cause) e o = absurd o
begun_at s b (Pass size) e o = absurd o
begun_at s b (Take sort size) e o = omega (arith, take_limited s b sort size e, most_le sort, o)

both_gathered : (manifest moov : Option (List ℕ)) → IsBoxIn 1048576 manifest → IsBoxIn 1048576 moov → AreNotBoth manifest moov → box_bytes manifest + box_bytes moov ≤ 1048576
both_gathered None None p q n = omega arith
both_gathered None (Some b) p q n = omega (arith, q.1)
both_gathered (Some a) None p q n = omega (arith, p.1)
both_gathered (Some a) (Some b) p q n = absurd n

gathered_short : (stage : HeaderStage) → AreGathered stage → gathered_bytes stage ≤ 1048576
gathered_short (Gathering manifest moov) h = both_gathered manifest moov h.0 h.1 h.2
gathered_short (Complete tracks) h = omega arith

pub held_is_little : (k : Kept) → IsPartial k → kept_bytes k < 68157456
held_is_little k p =
    omega (arith, begun_at k.state k.held (decision k.state k.held) refl p.due, gathered_short k.state.stage p.boxes.stage)

lacking_at : (s : PushState) (b : List ℕ) (d : BoxDecision) → decision s b ≡ d → lacking (length b) d ≤ 67108880
lacking_at s b Wait e = omega arith
lacking_at s b (Refuse cause) e = omega arith
lacking_at s b (Pass size) e = omega arith
lacking_at s b (Take sort size) e = omega (arith, take_limited s b sort size e, most_le sort)

-- what is missing of a box that is read
pub little_is_lacking : (s : PushState) (b : List ℕ) → lacking (length b) (decision s b) ≤ 67108880
little_is_lacking s b = lacking_at s b (decision s b) refl

-- nothing is missing of a box that is not read
pub nothing_lacks : (held : ℕ) (d : BoxDecision) → ((sort : TopBox) (size : ℕ) → d ≡ Take sort size → ⊥) → lacking held d ≡ 0
nothing_lacks held Wait other = refl
nothing_lacks held (Refuse cause) other = refl
nothing_lacks held (Pass size) other = refl
nothing_lacks held (Take sort size) other = absurd (other sort size refl)
