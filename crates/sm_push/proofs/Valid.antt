-- What a push gives is valid.
use Rattle.std.proofs.Common.{◌≡◌, ◌≤◌, ◌+◌, ◌-◌, ℕ, zero, suc, Bool, true, leb, ltb, List, [], ◌∷◌, ◌++◌, length, take, drop, Option, Some, None, Result, Ok, Err, refl, sym, subst, ◌∙◌, arith}
use Rattle.std.specs.Prelude.{◌&&◌, is_some, codes}
use Rattle.std.specs.Option.{option_to_list}
use Rattle.std.specs.List.{AllByRecursion}
use Rattle.std.proofs.lemmas.Bool.{cond_both, ltb-false}
use Rattle.std.proofs.lemmas.List.{length-take}
use Rattle.sm_model.specs.declared.cause.Cause.{Cause}
use Rattle.sm_model.specs.declared.header.Header.{Header}
use Rattle.sm_push.specs.declared.state.PushState.{PushState}
use Rattle.sm_push.specs.declared.state.PendingMoof.{PendingMoof}
use Rattle.sm_push.specs.declared.state.HeaderStage.{HeaderStage}
use Rattle.sm_push.specs.declared.state.HeaderStage.TheVariants.{Gathering, Complete}
use Rattle.sm_push.specs.declared.state.TopBox.{TopBox}
use Rattle.sm_push.specs.declared.state.TopBox.TheVariants as sorts
use Rattle.sm_push.specs.declared.state.BoxDecision.{BoxDecision}
use Rattle.sm_push.specs.declared.state.BoxDecision.TheVariants.{Wait, Refuse, Pass, Take}
use Rattle.sm_model.specs.Items.{Given}
use Rattle.sm_push.specs.PushHeads.{decision, by_kind, ruling, behind_moof, user_sort, kind_sort, is as is_kind}
use Rattle.sm_push.specs.Body.{Outcome, stepped, at_box, walk, push_start, body}
use Rattle.sm_box.specs.Heads.{head_of}
use Rattle.sm_box.specs.declared.head.Head.{Head}
use Rattle.sm_box.specs.declared.head.Head.TheVariants as heads
use Rattle.sm_push.specs.Heads.{by_head}
use Rattle.sm_push.specs.Validity.{IsValidItem, ItemIsValid}
use Rattle.sm_push.proofs.HeadLemmas.{decision_is}
use Rattle.sm_push.proofs.Fronts.{whole_is}
use Rattle.sm_push.proofs.Stable.{SizeIs, kind_size}
use Rattle.sm_push.proofs.Boxes.{head_take}
use Rattle.sm_model.specs.declared.run.Defaults.{Defaults}
use Rattle.sm_model.specs.declared.run.Run.{Run}
use Rattle.sm_model.specs.declared.run.RawFragment.{RawFragment}
use Rattle.sm_model.specs.declared.header.HeaderTrack.{HeaderTrack}
use Rattle.sm_model.specs.Boxes.{box_of, box_len, head_len}
use Rattle.sm_model.specs.Fragments.{IsValid}
use Rattle.sm_model.specs.Sound.{IsSoundRun, IsSoundFragment}
use Rattle.sm_model.specs.Frag.{moof_run, finish}
use Rattle.sm_model.specs.Moov.{no_defaults}
use Rattle.sm_model.specs.Channels.{IsChannel}
use Rattle.sm_push.specs.Header.{header_of}
use Rattle.sm_push.specs.PushBoxes.{Step, passed, named, manifest_text, track_in, awaited, pending, moof_taken, fragment_taken, mdat_taken, header_taken, moov_taken, manifest_taken, taken}

-- a fragment that is sound, out of an mdat within the limit
sound_valid : (md : List ℕ) (raw : RawFragment) (track : HeaderTrack) → IsSoundFragment md raw → length (box_of md).body ≤ 67108864 → IsValid (named track raw)
sound_valid md raw track s short = record { some = s.some; few = s.few; lasts = s.lasts; ends = s.ends; short = omega (arith, s.inside, short) }

-- ---- the limit on an mdat

abbrev LimitIs : ℕ → BoxDecision → Type 0
LimitIs counted Wait = Unit {0}
LimitIs counted (Refuse cause) = Unit {0}
LimitIs counted (Pass size) = Unit {0}
LimitIs counted (Take sort size) = counted ≤ 67108864

behind_limit : (sort : TopBox) (head size : ℕ) → LimitIs (size - head) (behind_moof sort head size)
behind_limit sorts.Mdat head size = cond_both (ltb 67108864 (size - head)) _ _ (LimitIs (size - head)) (λ _. tt) (λ e. ltb-false _ _ e)
behind_limit sorts.Moof head size = tt
behind_limit sorts.Moov head size = tt
behind_limit sorts.Manifest head size = tt
behind_limit sorts.Other head size = tt

ruling_limit : (s : PushState) (sort : TopBox) (head size : ℕ) → is_some s.moof ≡ true → LimitIs (size - head) (ruling s sort head size)
ruling_limit s sort head size some = rw some (behind_limit sort head size)

kind_limit : (s : PushState) (b kind : List ℕ) (head size : ℕ) → is_some s.moof ≡ true → LimitIs (size - head) (by_kind s b kind head size)
kind_limit s b kind head size some =
    cond_both (is_kind kind (codes "uuid") && leb 16 (size - head)) _ _ (LimitIs (size - head))
    (λ _. cond_both (ltb (length b) (head + 16)) _ _ (LimitIs (size - head)) (λ _. tt) (λ _. ruling_limit s (user_sort (take 16 (drop head b))) head size some))
    (λ _. ruling_limit s (kind_sort kind) head size some)

body_short : (b : List ℕ) → length (box_of b).body ≤ box_len b - head_len b
unfolding box_of
body_short b = omega (arith, length-take (box_len b - head_len b) (drop (head_len b) b))

limit_at : (s : PushState) (b : List ℕ) (sort : TopBox) (size : ℕ) (hd : Head) → head_of b ≡ hd → by_head s b hd ≡ Take sort size → is_some s.moof ≡ true
    → size ≤ length b → length (box_of (take size b)).body ≤ 67108864
limit_at s b sort size heads.Short read e some le = absurd cc
limit_at s b sort size heads.Bad read e some le = absurd cc
limit_at s b sort size heads.OpenEnded read e some le = absurd cc
limit_at s b sort size (heads.Whole kind head n) read e some le =
    let same : size ≡ n = subst (SizeIs n) e (kind_size s b kind head n) in
    let within : n - head ≤ 67108864 = subst (LimitIs (n - head)) e (kind_limit s b kind head n some) in
    let w = whole_is (take size b) kind head n (subst (λ (k : ℕ). head_of (take k b) ≡ heads.Whole kind head n) (sym same) (head_take b kind head n read (omega arith))) in
    omega (arith, body_short (take size b), w.head_is, w.size_is, within)

limit : (s : PushState) (b : List ℕ) (sort : TopBox) (size : ℕ) → decision s b ≡ Take sort size → is_some s.moof ≡ true → size ≤ length b → length (box_of (take size b)).body ≤ 67108864
limit s b sort size e some le = limit_at s b sort size (head_of b) refl (sym (decision_is s b) ∙ e) some le

-- ---- all that a push gives

-- a header that is read has a valid channel, a run that is read is sound, and so is what an mdat makes of a sound run
pub record AreLaws : Type 0 where
  pub headers : (text body : List ℕ) (h : Header) → header_of text body ≡ Ok h → IsChannel h.channel
  pub runs : (d : Defaults) (m : List ℕ) (run : Run) → moof_run d m ≡ Ok run → IsSoundRun run
  pub finish : (size : ℕ) (md : List ℕ) (run : Run) (raw : RawFragment) → IsSoundRun run → finish size md run ≡ Ok raw → IsSoundFragment md raw

abbrev RunIsSound : Option PendingMoof → Type 0
RunIsSound None = Unit {0}
RunIsSound (Some moof) = IsSoundRun moof.run

-- what a step gives is valid, and what it leaves is sound
abbrev StepIsFine : Step → Type 0
StepIsFine (Err r) = Unit {0}
StepIsFine (Ok step) = ItemIsValid step.0 × RunIsSound step.1.moof

header_fine : AreLaws → (s : PushState) (text b : List ℕ) (r : Result Header Cause) (size : ℕ) → RunIsSound s.moof → header_of text b ≡ r → StepIsFine (header_taken r s size)
header_fine laws s text b (Err cause) size sound e = tt
header_fine laws s text b (Ok h) size sound e = (laws.headers text b h e, sound)

awaited_fine : AreLaws → (s : PushState) (b : List ℕ) (t : HeaderTrack) (r : Result Run Cause) → moof_run t.defaults b ≡ r → StepIsFine (awaited r t s b)
awaited_fine laws s b t (Err cause) e = tt
awaited_fine laws s b t (Ok run) e = (tt, laws.runs t.defaults b run e)

pending_fine : AreLaws → (s : PushState) (b : List ℕ) (t : Option HeaderTrack) → StepIsFine (pending t s b)
pending_fine laws s b None = tt
pending_fine laws s b (Some t) = awaited_fine laws s b t (moof_run t.defaults b) refl

moof_fine : AreLaws → (s : PushState) (b : List ℕ) (r : Result Run Cause) → StepIsFine (moof_taken r s b)
moof_fine laws s b (Err cause) = tt
moof_fine laws s b (Ok run) = pending_fine laws s b (track_in s.stage run.id)

moov_fine : AreLaws → (s : PushState) (b : List ℕ) (stage : HeaderStage) → RunIsSound s.moof → StepIsFine (moov_taken stage s b)
moov_fine laws s b (Gathering (Some manifest) moov) sound = header_fine laws s (manifest_text manifest) (box_of b).body _ (length b) sound refl
moov_fine laws s b (Gathering None moov) sound = (tt, sound)
moov_fine laws s b (Complete tracks) sound = (tt, sound)

manifest_fine : AreLaws → (s : PushState) (b : List ℕ) (stage : HeaderStage) → RunIsSound s.moof → StepIsFine (manifest_taken stage s b)
manifest_fine laws s b (Gathering manifest (Some moov)) sound = header_fine laws s (manifest_text b) (box_of moov).body _ (length b) sound refl
manifest_fine laws s b (Gathering manifest None) sound = (tt, sound)
manifest_fine laws s b (Complete tracks) sound = (tt, sound)

fragment_fine : AreLaws → (s : PushState) (b : List ℕ) (moof : PendingMoof) (r : Result RawFragment Cause) (size : ℕ) → IsSoundRun moof.run → length (box_of b).body ≤ 67108864
    → finish moof.size b moof.run ≡ r → StepIsFine (fragment_taken r moof s size)
fragment_fine laws s b moof (Err cause) size sound short e = tt
fragment_fine laws s b moof (Ok raw) size sound short e = (sound_valid b raw moof.track (laws.finish moof.size b moof.run raw sound e) short, tt)

mdat_fine : AreLaws → (s : PushState) (b : List ℕ) (moof : Option PendingMoof) → s.moof ≡ moof → RunIsSound moof → (is_some moof ≡ true → length (box_of b).body ≤ 67108864) → StepIsFine (mdat_taken moof s b)
mdat_fine laws s b None e sound short = rw e (tt, tt)
mdat_fine laws s b (Some moof) e sound short = fragment_fine laws s b moof (finish moof.size b moof.run) (length b) sound (short refl) refl

taken_fine : AreLaws → (s : PushState) (b : List ℕ) (sort : TopBox) → RunIsSound s.moof → (is_some s.moof ≡ true → length (box_of b).body ≤ 67108864) → StepIsFine (taken s sort b)
unfolding taken
taken_fine laws s b sorts.Moof sound short = moof_fine laws s b (moof_run no_defaults b)
taken_fine laws s b sorts.Mdat sound short = mdat_fine laws s b s.moof refl sound short
taken_fine laws s b sorts.Moov sound short = moov_fine laws s b s.stage sound
taken_fine laws s b sorts.Manifest sound short = manifest_fine laws s b s.stage sound
taken_fine laws s b sorts.Other sound short = (tt, sound)

stepped_valid : (s : PushState) (step : Step) (size : ℕ) (go : PushState → ℕ → Outcome) → StepIsFine step
    → ((next : PushState) (k : ℕ) → RunIsSound next.moof → AllByRecursion IsValidItem (go next k).items) → AllByRecursion IsValidItem (stepped s step size go).items
stepped_valid s (Err r) size go v h = tt
stepped_valid s (Ok step) size go v h = by_item step.0 v.0
  where
    by_item : (item : Option Given) → ItemIsValid item → AllByRecursion IsValidItem (option_to_list item ++ (go step.1 size).items)
    by_item None valid = h step.1 size v.1
    by_item (Some g) valid = (valid, h step.1 size v.1)

box_valid : AreLaws → (s : PushState) (b : List ℕ) (d : BoxDecision) → RunIsSound s.moof → decision s b ≡ d → (go : PushState → ℕ → Outcome)
    → ((next : PushState) (k : ℕ) → RunIsSound next.moof → AllByRecursion IsValidItem (go next k).items) → AllByRecursion IsValidItem (at_box s b d go).items
box_valid laws s b Wait sound e go h = tt
box_valid laws s b (Refuse cause) sound e go h = tt
box_valid laws s b (Pass size) sound e go h = h (passed s size) size sound
box_valid laws s b (Take sort size) sound e go h =
    cond_both (ltb (length b) size) _ _ (λ (o : Outcome). AllByRecursion IsValidItem o.items) (λ _. tt)
    (λ ge. stepped_valid s (taken s sort (take size b)) size go (taken_fine laws s (take size b) sort sound (λ some. limit s b sort size e some (ltb-false _ _ ge))) h)

walk_valid : AreLaws → (s : PushState) (k : ℕ) (b : List ℕ) → RunIsSound s.moof → AllByRecursion IsValidItem (walk s k b).items
unfolding walk
walk_valid laws s k [] sound = tt
walk_valid laws s (suc k) (x ∷ b) sound = walk_valid laws s k b sound
walk_valid laws s zero (x ∷ b) sound =
    box_valid laws s (x ∷ b) (decision s (x ∷ b)) sound refl (λ next size. walk next (size - 1) b) (λ next k sound. walk_valid laws next (k - 1) b sound)

pub body_valid : AreLaws → (headerless : Bool) (b : List ℕ) → AllByRecursion IsValidItem (body headerless b).items
body_valid laws headerless b = walk_valid laws (push_start headerless) 0 b tt
