-- The steps of a push, over what it keeps.
use Rattle.std.proofs.Common.{◌≡◌, ◌⊎◌, ℕ, zero, suc, ◌+◌, ◌-◌, ◌<◌, ◌≤◌, ltb, List, [], ◌∷◌, ◌++◌, length, take, drop, refl, sym, ap, ◌∙◌, inl, inr, arith}
use Rattle.std.specs.Prelude.{◌^◌, min, Bool, true, false, ◌||◌, is_some, Option, Some, None, Result, Ok, Err, OnOk, OnErr}
use Rattle.std.specs.Option.{option_to_list}
use Rattle.std.proofs.lemmas.List.{append_assoc, append-nil, take-append-drop, length-take, length-append, drop-drop, drop_all}
use Rattle.std.proofs.lemmas.Bool.{cond_both, lt-ltb}
use Rattle.sm_model.specs.declared.cause.Cause.{Cause}
use Rattle.sm_model.specs.declared.cause.Cause.TheVariants.{CutOff}
use Rattle.sm_model.specs.declared.cause.Refusal.{Refusal}
use Rattle.sm_push.specs.declared.state.PushState.{PushState}
use Rattle.sm_push.specs.declared.state.TopBox.{TopBox}
use Rattle.sm_push.specs.declared.state.TopBox.TheVariants as sorts
use Rattle.sm_push.specs.declared.state.HeaderStage.{HeaderStage}
use Rattle.sm_push.specs.declared.state.HeaderStage.TheVariants.{Gathering, Complete}
use Rattle.sm_push.specs.declared.state.PendingMoof.{PendingMoof}
use Rattle.sm_model.specs.declared.header.Header.{Header}
use Rattle.sm_model.specs.declared.header.HeaderTrack.{HeaderTrack}
use Rattle.sm_model.specs.declared.run.Run.{Run}
use Rattle.sm_model.specs.declared.run.RawFragment.{RawFragment}
use Rattle.sm_push.specs.declared.state.BoxDecision.{BoxDecision}
use Rattle.sm_push.specs.declared.state.BoxDecision.TheVariants.{Wait, Refuse, Pass, Take}
use Rattle.sm_model.specs.Items.{Given}
use Rattle.sm_push.specs.PushHeads.{decision}
use Rattle.sm_model.specs.Boxes.{box_of}
use Rattle.sm_model.specs.Frag.{moof_run, finish}
use Rattle.sm_model.specs.Moov.{no_defaults}
use Rattle.sm_push.specs.Header.{header_of}
use Rattle.sm_push.specs.PushBoxes.{Step, taken, passed, manifest_text, track_in, awaited, pending, moof_taken, fragment_taken, mdat_taken, header_taken, moov_taken, manifest_taken}
use Rattle.sm_push.specs.Body.{Outcome, ended, refused, led_by, stepped, at_box, header_in, walk, push_start, body, body_end}
use Rattle.sm_push.specs.declared.fault.StepFault.{StepFault}
use Rattle.sm_push.specs.declared.fault.StepFault.TheVariants as faults
use Rattle.sm_push.specs.declared.fault.PushFault.TheVariants as pushes
use Rattle.sm_push.specs.declared.step.NewItem.{NewItem}
use Rattle.sm_push.specs.declared.kept.Kept.{Kept}
use Rattle.sm_push.specs.Heads.{FitsIn, IsOpen}
use Rattle.sm_push.specs.Steps.{given_in, Takes, HoldsBoxes}
use Rattle.sm_push.specs.Standing.{rest_of, kept_header, push_header, HeaderStays, IsComplete, StageGrows, Grows, IsPartial, Advances, Settles, StaysInside, PieceGives, Standing, Stands, Answers}
use Rattle.sm_push.proofs.Stable.{decision-nil, fits_short, fits_more, stable}
use Rattle.sm_push.proofs.Walking.{walk-over, passes, refuses, takes}

pub passed_settles : (s : PushState) (h h' more : List ℕ) (k k' size : ℕ) → k ≡ 0 → decision s h ≡ Pass size → FitsIn (length h) (decision s h) → h' ≡ [] → k' ≡ size - length h
    → walk s k (h ++ more) ≡ walk (passed s size) k' (h' ++ more)
passed_settles s h h' more k k' size here e fits empty left =
    let le : length h ≤ size = rw e at fits in
    rw (here, empty, left) (passes s h more size e le)

pub refused_settles : (s : PushState) (h more : List ℕ) (k : ℕ) (cause : Cause) → k ≡ 0 → decision s h ≡ Refuse cause → walk s k (h ++ more) ≡ refused (header_in s.stage)
    (record { at = s.at; cause = cause })
refused_settles s h more k cause here e = rw here (refuses s h more cause e)

pub taken_settles : (s s' : PushState) (h h' more : List ℕ) (k size : ℕ) (sort : TopBox) (item : Option Given) → k ≡ 0 → decision s h ≡ Take sort size → FitsIn (length h) (decision s h) → size ≤
    length h
    → taken s sort h ≡ Ok (item, s') → h' ≡ [] → walk s k (h ++ more) ≡ led_by (option_to_list item) (walk s' k (h' ++ more))
taken_settles s s' h h' more k size sort item here e fits whole step empty =
    let le : length h ≤ size = rw e at fits in
    rw (here, empty) (takes s h more sort size e (omega arith) ∙ rw step refl)

-- a step that failed
pub fault_settles : (old new : Kept) (sort : TopBox) (size : ℕ) (fault : StepFault) → old.skip ≡ 0 → decision old.state old.held ≡ Take sort size → FitsIn (length old.held)
    (decision old.state old.held) → size ≤ length old.held
    → Takes new.state (Err fault) (taken old.state sort old.held) → kept_header new ≡ kept_header old → Settles old new (Err fault)
fault_settles old new sort size (faults.Refused r) here e fits whole step same = λ more.
    let le : length old.held ≤ size = rw e at fits in
    let go : walk old.state 0 (old.held ++ more) ≡ refused (kept_header old) r = takes old.state old.held more sort size e (omega arith) ∙ rw step refl in
    rw here (go ∙ ap (λ (h : List HeaderTrack). refused h r) (sym same))
fault_settles old new sort size faults.NoMemory here e fits whole step same = same

pub empty_partial : (s : PushState) (h : List ℕ) (k : ℕ) → h ≡ [] → HoldsBoxes s → IsPartial (record { state = s; held = h; skip = k })
empty_partial s h k e boxes = record { skipping = λ _. e; due = rw (e, decision-nil s) tt; boxes = boxes }

-- a box that is whole, and read
pub box_settles : (old new : Kept) (sort : TopBox) (size : ℕ) (r : Result (Option NewItem) StepFault) → old.skip ≡ 0 → decision old.state old.held ≡ Take sort size → FitsIn (length old.held)
    (decision old.state old.held) → size ≤ length old.held
    → Takes new.state r (taken old.state sort old.held) → OnErr r (kept_header new ≡ kept_header old) → new.held ≡ [] → new.skip ≡ old.skip → Settles old new r
box_settles old new sort size (Ok item) here e fits whole step header empty same = λ more.
    rw same (taken_settles old.state new.state old.held new.held more old.skip size sort (given_in item) here e fits whole step empty)
box_settles old new sort size (Err fault) here e fits whole step header empty same = fault_settles old new sort size fault here e fits whole step header

pub box_partial : (s : PushState) (h : List ℕ) (k : ℕ) (r : Result (Option NewItem) StepFault) → h ≡ [] → OnOk r (HoldsBoxes s) → OnOk r (IsPartial (record { state = s; held = h; skip = k }))
box_partial s h k (Ok item) e boxes = empty_partial s h k e boxes
box_partial s h k (Err fault) e boxes = tt

-- ---- a part of a piece

pub skip_advances : (k : Kept) (n : ℕ) (piece more : List ℕ) → 0 < k.skip → IsPartial k → n ≤ k.skip → n ≤ length piece
    → walk k.state k.skip (k.held ++ (piece ++ more)) ≡ walk k.state (k.skip - n) (k.held ++ (drop n piece ++ more))
skip_advances k n piece more some p in_skip in_piece =
    let empty : k.held ≡ [] = p.skipping some in
    let split : piece ++ more ≡ take n piece ++ (drop n piece ++ more) = ap (λ (xs : List ℕ). xs ++ more) (sym (take-append-drop n piece)) ∙ append_assoc (take n piece) (drop n piece) more in
    let len : length (take n piece) ≡ n = omega (arith, length-take n piece) in
    rw (empty, split) (walk-over k.state k.skip (take n piece) (drop n piece ++ more) (omega arith) ∙ ap (λ (m : ℕ). walk k.state (k.skip - m) (drop n piece ++ more)) len)

-- what is held with the front of the piece, and then the rest of the piece
pub held_more : (h : List ℕ) (n : ℕ) (piece more : List ℕ) → h ++ (piece ++ more) ≡ (h ++ take n piece) ++ (drop n piece ++ more)
held_more h n piece more =
    ap (λ (xs : List ℕ). h ++ xs) (ap (λ (xs : List ℕ). xs ++ more) (sym (take-append-drop n piece)) ∙ append_assoc (take n piece) (drop n piece) more) ∙ sym
    (append_assoc h (take n piece) (drop n piece ++ more))

pub fault_advances : (old mid new : Kept) (n : ℕ) (piece : List ℕ) (fault : StepFault) → mid.state ≡ old.state → mid.skip ≡ old.skip → mid.held ≡ old.held ++ take n piece
    → Settles mid new (Err fault) → Advances old new piece (Err fault)
fault_advances old mid new n piece (faults.Refused r) seen skip held h = λ more.
    ap (λ (xs : List ℕ). walk old.state old.skip xs) (held_more old.held n piece more) ∙ (rw (seen, skip, held) at (h (drop n piece ++ more)))
fault_advances old mid new n piece faults.NoMemory seen skip held h = h ∙ ap (λ (s : PushState). header_in s.stage) seen

-- ---- how many bytes are wanted

wanted_one : (k : Kept) (n : ℕ) → n ≤ 1 → IsPartial k → ((sort : TopBox) (size : ℕ) → decision k.state k.held ≡ Take sort size → ⊥) → StaysInside k n
wanted_one k n one p other more len = by_decision (decision k.state k.held) refl p.due
  where
    by_decision : (d : BoxDecision) → decision k.state k.held ≡ d → IsOpen (length k.held) d → FitsIn (length (k.held ++ more)) (decision k.state (k.held ++ more))
    by_decision Wait e due = fits_more k.state k.held more (length (k.held ++ more)) e (omega (arith, one, len, length-append k.held more))
    by_decision (Refuse cause) e due = absurd due
    by_decision (Pass size) e due = absurd due
    by_decision (Take sort size) e due = absurd (other sort size e)

wanted_eight : (k : Kept) (n : ℕ) → length k.held + n ≤ 8 → StaysInside k n
wanted_eight k n le more len = fits_short k.state (k.held ++ more) (length (k.held ++ more)) (omega (arith, le, len, length-append k.held more))

pub wanted_head : (k : Kept) (n : ℕ) → (n ≤ 1) ⊎ (length k.held + n ≤ 8) → IsPartial k
    → ((sort : TopBox) (size : ℕ) → decision k.state k.held ≡ Take sort size → ⊥) → StaysInside k n
wanted_head k n (inl one) p other = wanted_one k n one p other
wanted_head k n (inr le) p other = wanted_eight k n le

pub wanted_rest : (k : Kept) (sort : TopBox) (size n : ℕ) → decision k.state k.held ≡ Take sort size → length k.held + n ≤ size → StaysInside k n
wanted_rest k sort size n e le more len =
    rw (stable k.state k.held more (rw e tt) ∙ e) (omega (arith, length-append k.held more))

-- ---- a whole piece

-- what a loop over a piece keeps: done bytes of it are taken
abbrev pub Taking : Kept → Kept → List ℕ → ℕ → List Given → Type 0
Taking old new piece done items = (more : List ℕ) → rest_of old (piece ++ more) ≡ led_by items (rest_of new (drop done piece ++ more))

pub begun : (k : Kept) (piece : List ℕ) (items : List Given) → items ≡ [] → Taking k k piece 0 items
begun k piece items e more = rw e refl

behind-behind : (xs ys : List Given) (o : Outcome) → led_by xs (led_by ys o) ≡ led_by (xs ++ ys) o
behind-behind xs ys o = ap (λ (zs : List Given). record { items = zs; refusal = o.refusal; inside = o.inside; header = o.header }) (sym (append_assoc xs ys o.items))

pub goes_on : (old mid new : Kept) (piece part : List ℕ) (done count : ℕ) (items items' : List Given) (item : Option NewItem)
    → Taking old mid piece done items → part ≡ drop done piece → Advances mid new part (Ok (count, item)) → items' ≡ items ++ option_to_list (given_in item) → Taking old new piece (done + count)
    items'
goes_on old mid new piece part done count items items' item before part_is step items_are more =
    let after : rest_of mid (drop done piece ++ more) ≡ led_by (option_to_list (given_in item)) (rest_of new (drop (done + count) piece ++ more)) =
    (rw (part_is, drop-drop count done piece) at (step more)) in
    rw items_are (before more ∙ ap (led_by items) after ∙ behind-behind items (option_to_list (given_in item)) _)

pub all_taken : (old new : Kept) (piece : List ℕ) (done : ℕ) (items : List Given) → length piece ≤ done → Taking old new piece done items → PieceGives old new piece items (Ok tt)
all_taken old new piece done items le taking more = let none : drop done piece ≡ [] = drop_all done piece le in rw none at (taking more)

-- ---- the header stays

abbrev pub StageStays : List HeaderTrack → Step → Type 0
StageStays tracks (Err r) = Unit {0}
StageStays tracks (Ok step) = step.1.stage ≡ Complete tracks

fragment_stays : (s : PushState) (r : Result RawFragment Cause) (moof : PendingMoof) (size : ℕ) (tracks : List HeaderTrack) → s.stage ≡ Complete tracks → StageStays tracks
    (fragment_taken r moof s size)
fragment_stays s (Err cause) moof size tracks e = tt
fragment_stays s (Ok raw) moof size tracks e = e

mdat_stays : (s : PushState) (b : List ℕ) (moof : Option PendingMoof) (tracks : List HeaderTrack) → s.stage ≡ Complete tracks → StageStays tracks (mdat_taken moof s b)
mdat_stays s b None tracks e = e
mdat_stays s b (Some moof) tracks e = fragment_stays s (finish moof.size b moof.run) moof (length b) tracks e

awaited_stays : (s : PushState) (b : List ℕ) (r : Result Run Cause) (t : HeaderTrack) (tracks : List HeaderTrack) → s.stage ≡ Complete tracks → StageStays tracks (awaited r t s b)
awaited_stays s b (Err cause) t tracks e = tt
awaited_stays s b (Ok run) t tracks e = e

pending_stays : (s : PushState) (b : List ℕ) (t : Option HeaderTrack) (tracks : List HeaderTrack) → s.stage ≡ Complete tracks → StageStays tracks (pending t s b)
pending_stays s b None tracks e = tt
pending_stays s b (Some t) tracks e = awaited_stays s b (moof_run t.defaults b) t tracks e

moof_stays : (s : PushState) (b : List ℕ) (r : Result Run Cause) (tracks : List HeaderTrack) → s.stage ≡ Complete tracks → StageStays tracks (moof_taken r s b)
moof_stays s b (Err cause) tracks e = tt
moof_stays s b (Ok run) tracks e = pending_stays s b (track_in s.stage run.id) tracks e

moov_stays : (s : PushState) (b : List ℕ) (stage : HeaderStage) (tracks : List HeaderTrack) → stage ≡ Complete tracks → s.stage ≡ Complete tracks → StageStays tracks (moov_taken stage s b)
moov_stays s b (Gathering manifest moov) tracks e same = absurd cc
moov_stays s b (Complete t) tracks e same = same

manifest_stays : (s : PushState) (b : List ℕ) (stage : HeaderStage) (tracks : List HeaderTrack) → stage ≡ Complete tracks → s.stage ≡ Complete tracks → StageStays tracks (manifest_taken stage s b)
manifest_stays s b (Gathering manifest moov) tracks e same = absurd cc
manifest_stays s b (Complete t) tracks e same = same

taken_stays : (s : PushState) (sort : TopBox) (b : List ℕ) (tracks : List HeaderTrack) → s.stage ≡ Complete tracks → StageStays tracks (taken s sort b)
unfolding taken
taken_stays s sorts.Moof b tracks e = moof_stays s b (moof_run no_defaults b) tracks e
taken_stays s sorts.Mdat b tracks e = mdat_stays s b s.moof tracks e
taken_stays s sorts.Moov b tracks e = moov_stays s b s.stage tracks e e
taken_stays s sorts.Manifest b tracks e = manifest_stays s b s.stage tracks e e
taken_stays s sorts.Other b tracks e = e

stepped_stays : (s : PushState) (step : Step) (size : ℕ) (tracks : List HeaderTrack) (go : PushState → ℕ → Outcome) → s.stage ≡ Complete tracks → StageStays tracks step
    → ((next : PushState) (k : ℕ) → next.stage ≡ Complete tracks → (go next k).header ≡ tracks) → (stepped s step size go).header ≡ tracks
stepped_stays s (Err r) size tracks go e stays h = ap header_in e
stepped_stays s (Ok step) size tracks go e stays h = h step.1 size stays

box_stays : (s : PushState) (b : List ℕ) (d : BoxDecision) (tracks : List HeaderTrack) (go : PushState → ℕ → Outcome) → s.stage ≡ Complete tracks
    → ((next : PushState) (k : ℕ) → next.stage ≡ Complete tracks → (go next k).header ≡ tracks) → (at_box s b d go).header ≡ tracks
box_stays s b Wait tracks go e h = ap header_in e
box_stays s b (Refuse cause) tracks go e h = ap header_in e
box_stays s b (Pass size) tracks go e h = h (passed s size) size e
box_stays s b (Take sort size) tracks go e h =
    cond_both (ltb (length b) size) _ _ (λ (o : Outcome). o.header ≡ tracks) (λ _. ap header_in e)
    (λ _. stepped_stays s (taken s sort (take size b)) size tracks go e (taken_stays s sort (take size b) tracks e) h)

-- once a header was read it stays
walk_stays : (s : PushState) (k : ℕ) (b : List ℕ) (tracks : List HeaderTrack) → s.stage ≡ Complete tracks → (walk s k b).header ≡ tracks
unfolding walk
walk_stays s k [] tracks e = ap header_in e
walk_stays s (suc k) (x ∷ b) tracks e = walk_stays s k b tracks e
walk_stays s zero (x ∷ b) tracks e =
    box_stays s (x ∷ b) (decision s (x ∷ b)) tracks (λ next size. walk next (size - 1) b) e (λ next k e. walk_stays next (k - 1) b tracks e)

complete_stays : (s : PushState) (k : ℕ) (b : List ℕ) (stage : HeaderStage) → s.stage ≡ stage → IsComplete stage → (walk s k b).header ≡ header_in s.stage
complete_stays s k b (Gathering manifest moov) e complete = absurd complete
complete_stays s k b (Complete tracks) e complete = walk_stays s k b tracks e ∙ sym (ap header_in e)

header_stays : (old mid new : Kept) (piece : List ℕ) (done : ℕ) (items : List Given) → Taking old mid piece done items → Grows old mid → kept_header new ≡ kept_header mid → HeaderStays old new piece
header_stays old mid new piece done items before (inl same) here = inl (here ∙ same.0)
header_stays old mid new piece done items before (inr complete) here =
    inr (λ more. ap (λ (o : Outcome). o.header) (before more) ∙ complete_stays mid.state mid.skip (mid.held ++ (drop done piece ++ more)) mid.state.stage refl complete ∙ sym here)

pub fault_gives : (old mid new : Kept) (piece part : List ℕ) (done : ℕ) (items : List Given) (fault : StepFault)
    → Taking old mid piece done items → Grows old mid → part ≡ drop done piece → Advances mid new part (Err fault) → PieceGives old new piece items (Err fault)
fault_gives old mid new piece part done items (faults.Refused r) before grows part_is step = λ more.
    let after : rest_of mid (drop done piece ++ more) ≡ refused (kept_header new) r = rw part_is at (step more) in
    before more ∙ ap (led_by items) after
fault_gives old mid new piece part done items faults.NoMemory before grows part_is step = header_stays old mid new piece done items before grows step

abbrev pub IsStarved : StepFault → Type 0
IsStarved fault = let got : Result (Unit {0}) StepFault = Err fault in let want : Result (Unit {0}) StepFault = Err faults.NoMemory in got ≡ want

-- an item that finds no room
pub room_gives : (old new : Kept) (piece : List ℕ) (done : ℕ) (items items' : List Given) (fault : StepFault) → Taking old new piece done items → Grows old new → IsStarved fault → PieceGives old new
    piece items' (Err fault)
room_gives old new piece done items items' (faults.Refused r) before grows e = absurd cc
room_gives old new piece done items items' faults.NoMemory before grows e = header_stays old new new piece done items before grows refl

pub grows_on : (old mid new : Kept) → Grows old mid → Grows mid new → Grows old new
grows_on old mid new (inl same) (inl more) = inl (more.0 ∙ same.0, λ c. more.1 (same.1 c))
grows_on old mid new (inr complete) (inl more) = inr (more.1 complete)
grows_on old mid new (inl same) (inr complete) = inr complete
grows_on old mid new (inr before) (inr complete) = inr complete

abbrev pub StepGrows : PushState → Step → Type 0
StepGrows s (Err r) = Unit {0}
StepGrows s (Ok step) = StageGrows s.stage step.1.stage

fragment_grows : (s : PushState) (r : Result RawFragment Cause) (moof : PendingMoof) (size : ℕ) → StepGrows s (fragment_taken r moof s size)
fragment_grows s (Err cause) moof size = tt
fragment_grows s (Ok raw) moof size = inl (refl, λ c. c)

mdat_grows : (s : PushState) (b : List ℕ) (moof : Option PendingMoof) → StepGrows s (mdat_taken moof s b)
mdat_grows s b None = inl (refl, λ c. c)
mdat_grows s b (Some moof) = fragment_grows s (finish moof.size b moof.run) moof (length b)

awaited_grows : (s : PushState) (b : List ℕ) (r : Result Run Cause) (t : HeaderTrack) → StepGrows s (awaited r t s b)
awaited_grows s b (Err cause) t = tt
awaited_grows s b (Ok run) t = inl (refl, λ c. c)

pending_grows : (s : PushState) (b : List ℕ) (t : Option HeaderTrack) → StepGrows s (pending t s b)
pending_grows s b None = tt
pending_grows s b (Some t) = awaited_grows s b (moof_run t.defaults b) t

moof_grows : (s : PushState) (b : List ℕ) (r : Result Run Cause) → StepGrows s (moof_taken r s b)
moof_grows s b (Err cause) = tt
moof_grows s b (Ok run) = pending_grows s b (track_in s.stage run.id)

header_grows : (s : PushState) (r : Result Header Cause) (size : ℕ) → StepGrows s (header_taken r s size)
header_grows s (Err cause) size = tt
header_grows s (Ok h) size = inr tt

gathers : (old : HeaderStage) (m v m' v' : Option (List ℕ)) → old ≡ Gathering m v → StageGrows old (Gathering m' v')
gathers old m v m' v' e = rw e (inl (refl, λ c. c))

moov_grows : (s : PushState) (b : List ℕ) (stage : HeaderStage) → s.stage ≡ stage → StepGrows s (moov_taken stage s b)
moov_grows s b (Gathering (Some manifest) moov) e = header_grows s (header_of (manifest_text manifest) (box_of b).body) (length b)
moov_grows s b (Gathering None moov) e = gathers s.stage None moov None (Some b) e
moov_grows s b (Complete tracks) e = inl (refl, λ c. c)

manifest_grows : (s : PushState) (b : List ℕ) (stage : HeaderStage) → s.stage ≡ stage → StepGrows s (manifest_taken stage s b)
manifest_grows s b (Gathering manifest (Some moov)) e = header_grows s (header_of (manifest_text b) (box_of moov).body) (length b)
manifest_grows s b (Gathering manifest None) e = gathers s.stage manifest None (Some b) None e
manifest_grows s b (Complete tracks) e = inl (refl, λ c. c)

taken_grows : (s : PushState) (sort : TopBox) (b : List ℕ) → StepGrows s (taken s sort b)
unfolding taken
taken_grows s sorts.Moof b = moof_grows s b (moof_run no_defaults b)
taken_grows s sorts.Mdat b = mdat_grows s b s.moof
taken_grows s sorts.Moov b = moov_grows s b s.stage refl
taken_grows s sorts.Manifest b = manifest_grows s b s.stage refl
taken_grows s sorts.Other b = inl (refl, λ c. c)

-- a box that was read leaves the header, or completes it
pub box_grows : (old new : PushState) (sort : TopBox) (b : List ℕ) (r : Result (Option NewItem) StepFault) → Takes new r (taken old sort b) → OnOk r (StageGrows old.stage new.stage)
box_grows old new sort b (Ok item) e = let g : StepGrows old (Ok (given_in item, new)) = rw e at (taken_grows old sort b) in g
box_grows old new sort b (Err fault) e = tt

-- ---- what a push stands for

pub begins : (headerless : Bool) (k : Kept) → k ≡ record { state = push_start headerless; held = []; skip = 0 } → Stands headerless (record { kept = k; count = 0; failed = false }) []
unfolding walk
begins headerless k e = record { works = refl; clear = refl; count = refl; header = rw e refl; later = λ more. rw e refl }

pub begins_partial : (headerless : Bool) (k : Kept) → k ≡ record { state = push_start headerless; held = []; skip = 0 } → IsPartial k
begins_partial headerless k e = rw e (empty_partial (push_start headerless) [] 0 refl (record { stage = (tt, tt, tt); moof = tt }))

inside_at : (s : PushState) (x : ℕ) (h : List ℕ) (d : BoxDecision) (go : PushState → ℕ → Outcome) → IsOpen (length (x ∷ h)) d → at_box s (x ∷ h) d go ≡ ended s true
inside_at s x h Wait go due = refl
inside_at s x h (Refuse cause) go due = absurd due
inside_at s x h (Pass size) go due = absurd due
inside_at s x h (Take sort size) go due = let lt : ltb (length (x ∷ h)) size ≡ true = lt-ltb _ _ due in rw lt refl

nothing_at : (s : PushState) (n : ℕ) (h : List ℕ) → (0 < n → h ≡ []) → IsOpen (length h) (decision s h) → walk s n (h ++ []) ≡ ended s (ltb 0 n || (ltb 0 (length h) || is_some s.moof))
unfolding walk
nothing_at s n [] empty due = refl
nothing_at s (suc n) (x ∷ h) empty due = absurd (let none : x ∷ h ≡ [] = empty (omega arith) in cc)
nothing_at s zero (x ∷ h) empty due =
    let some : ltb 0 (length (x ∷ h)) ≡ true = lt-ltb _ _ (omega arith) in
    rw (some, append-nil h) (inside_at s x h (decision s (x ∷ h)) _ due)

-- what is held gives nothing yet
pub nothing_due : (k : Kept) → IsPartial k → rest_of k [] ≡ ended k.state (ltb 0 k.skip || (ltb 0 (length k.held) || is_some k.state.moof))
nothing_due k p = nothing_at k.state k.skip k.held p.skipping p.due

inside_is : (k : Kept) → IsPartial k → (rest_of k []).inside ≡ (ltb 0 k.skip || (ltb 0 (length k.held) || is_some k.state.moof))
inside_is k p = ap (λ (o : Outcome). o.inside) (nothing_due k p)

pub inside_skip : (k : Kept) → IsPartial k → 0 < k.skip → true ≡ (rest_of k []).inside
inside_skip k p some = let e : ltb 0 k.skip ≡ true = lt-ltb _ _ some in rw (inside_is k p, e) refl

pub inside_held : (k : Kept) → IsPartial k → k.skip ≡ 0 → 0 < length k.held → true ≡ (rest_of k []).inside
inside_held k p none some = let e : ltb 0 (length k.held) ≡ true = lt-ltb _ _ some in rw (inside_is k p, none, e) refl

pub inside_moof : (k : Kept) → IsPartial k → k.skip ≡ 0 → length k.held ≡ 0 → is_some k.state.moof ≡ (rest_of k []).inside
inside_moof k p none empty = rw (inside_is k p, none, empty) refl

pub fed : (headerless : Bool) (old new : Standing) (b piece : List ℕ) (items : List Given) → Stands headerless old b → IsPartial new.kept → PieceGives old.kept new.kept piece items (Ok tt)
    → new.failed ≡ false → new.count ≡ min (old.count + length piece) (2 ^ 64 - 1) → Answers headerless b piece new (Ok items)
fed headerless old new b piece items stands partial gives works counted =
    let none : rest_of new.kept [] ≡ ended new.kept.state _ = nothing_due new.kept partial in
    let whole : body headerless (b ++ piece) ≡ led_by ((body headerless b).items ++ items) (rest_of new.kept []) =
    ap (body headerless) (ap (λ (xs : List ℕ). b ++ xs) (sym (append-nil piece))) ∙ stands.later (piece ++ []) ∙ ap (led_by (body headerless b).items) (gives []) ∙ behind-behind
    (body headerless b).items items (rest_of new.kept []) in
    let now : body headerless (b ++ piece) ≡ led_by ((body headerless b).items ++ items) (ended new.kept.state _) = whole ∙ ap (led_by ((body headerless b).items ++ items)) none in
    let items_are : (body headerless (b ++ piece)).items ≡ (body headerless b).items ++ items = ap (λ (o : Outcome). o.items) now ∙ append-nil _ in (
      record {
        works = works;
        clear = ap (λ (o : Outcome). o.refusal) now;
        count = omega (arith, counted, stands.count, length-append b piece);
        header = sym (ap (λ (o : Outcome). o.header) now);
        later = λ more. ap (body headerless) (append_assoc b piece more) ∙ stands.later (piece ++ more) ∙ ap (led_by (body headerless b).items) (gives more) ∙ behind-behind (body headerless b).items
            items (rest_of new.kept more) ∙ ap (λ (xs : List Given). led_by xs (rest_of new.kept more)) (sym items_are);
      },
      items_are,
    )

-- after a failure the header of what was kept stays
pub fed_refused : (headerless : Bool) (old new : Standing) (mid : Kept) (b piece : List ℕ) (items : List Given) (r : Refusal) → Stands headerless old b → PieceGives old.kept mid piece items
    (Err (faults.Refused r)) → push_header new ≡ kept_header mid
    → body headerless (b ++ piece) ≡ led_by ((body headerless b).items ++ items) (refused (push_header new) r)
fed_refused headerless old new mid b piece items r stands gives same =
    ap (body headerless) (ap (λ (xs : List ℕ). b ++ xs) (sym (append-nil piece))) ∙ stands.later (piece ++ []) ∙ ap (led_by (body headerless b).items) (gives []) ∙ behind-behind
    (body headerless b).items items (refused (kept_header mid) r)
    ∙ ap (λ (h : List HeaderTrack). led_by ((body headerless b).items ++ items) (refused h r)) (sym same)

starved_by : (headerless : Bool) (old new : Standing) (mid : Kept) (b piece : List ℕ) → Stands headerless old b → HeaderStays old.kept mid piece → push_header new ≡ kept_header mid → Answers
    headerless b piece new (Err pushes.NoMemory)
starved_by headerless old new mid b piece stands (inl before) same = inl (same ∙ before ∙ stands.header)
starved_by headerless old new mid b piece stands (inr gives) same =
    inr (same ∙ sym (ap (λ (o : Outcome). o.header) (ap (body headerless) (ap (λ (xs : List ℕ). b ++ xs) (sym (append-nil piece))) ∙ stands.later (piece ++ [])) ∙ gives []))

pub fed_starved : (headerless : Bool) (old new : Standing) (mid : Kept) (b piece : List ℕ) (items : List Given) → Stands headerless old b → PieceGives old.kept mid piece items (Err faults.NoMemory)
    → push_header new ≡ kept_header mid
    → Answers headerless b piece new (Err pushes.NoMemory)
fed_starved headerless old new mid b piece items stands gives same = starved_by headerless old new mid b piece stands gives same

-- ---- how much may come before a second item

passed_none : (s : PushState) (k : ℕ) (xs : List ℕ) → length xs ≤ k → (walk s k xs).items ≡ []
unfolding walk
passed_none s k xs le = ap (λ (o : Outcome). o.items) (ap (walk s k) (sym (append-nil xs)) ∙ walk-over s k xs [] le)

step_one : (s : PushState) (step : Step) (size : ℕ) (xs : List ℕ) → length xs ≤ size - 1 → length (stepped s step size (λ next n. walk next (n - 1) xs)).items ≤ 1
step_one s (Err r) size xs le = omega arith
step_one s (Ok step) size xs le = rw (passed_none step.1 (size - 1) xs le) (by_item step.0)
  where
    by_item : (item : Option Given) → length (option_to_list item ++ []) ≤ 1
    by_item None = omega arith
    by_item (Some g) = omega arith

box_one : (s : PushState) (x : ℕ) (xs : List ℕ) (d : BoxDecision) → FitsIn (suc (length xs)) d → length (at_box s (x ∷ xs) d (λ next n. walk next (n - 1) xs)).items ≤ 1
box_one s x xs Wait fits = omega arith
box_one s x xs (Refuse cause) fits = omega arith
box_one s x xs (Pass size) fits = rw (passed_none (passed s size) (size - 1) xs (omega arith)) (omega arith)
box_one s x xs (Take sort size) fits =
    cond_both (ltb (length (x ∷ xs)) size) _ _ (λ (o : Outcome). length o.items ≤ 1) (λ _. omega arith) (λ _. step_one s (taken s sort (take size (x ∷ xs))) size xs (omega arith))

one_few : (s : PushState) (xs : List ℕ) → FitsIn (length xs) (decision s xs) → length (walk s 0 xs).items ≤ 1
unfolding walk
one_few s [] fits = omega arith
one_few s (x ∷ xs) fits = box_one s x xs (decision s (x ∷ xs)) fits

pub held_few : (k : Kept) (n : ℕ) → k.skip ≡ 0 → StaysInside k n → (piece : List ℕ) → length piece ≤ n → length (rest_of k piece).items ≤ 1
held_few k n here inside piece le = rw here (one_few k.state (k.held ++ piece) (inside piece le))

pub skip_few : (k : Kept) → IsPartial k → 0 < k.skip → (piece : List ℕ) → length piece ≤ k.skip → length (rest_of k piece).items ≤ 1
skip_few k p some piece le = rw (p.skipping some, passed_none k.state k.skip piece le) (omega arith)

pub due_few : (headerless : Bool) (p : Standing) (b piece : List ℕ) → Stands headerless p b → length (rest_of p.kept piece).items ≤ 1 → length (body headerless (b ++ piece)).items ≤ length
    (body headerless b).items + 1
due_few headerless p b piece stands few =
    omega (arith, ap (λ (o : Outcome). length o.items) (stands.later piece), length-append (body headerless b).items (rest_of p.kept piece).items, few)

-- the end, where the bytes may end
pub ends_at : (headerless : Bool) (p : Standing) (b : List ℕ) (inside : Bool) → Stands headerless p b → (rest_of p.kept []).inside ≡ inside → (body headerless b).inside ≡ inside
ends_at headerless p b inside stands e = ap (λ (o : Outcome). o.inside) (ap (body headerless) (sym (append-nil b)) ∙ stands.later []) ∙ e

pub ends_well : (headerless : Bool) (p : Standing) (b : List ℕ) → Stands headerless p b → (rest_of p.kept []).inside ≡ false → body_end headerless b ≡ None
ends_well headerless p b stands e =
    let inside : (body headerless b).inside ≡ false = ends_at headerless p b false stands e in
    let clear : (body headerless b).refusal ≡ None = stands.clear in
    rw (inside, clear) refl

pub ends_badly : (headerless : Bool) (p : Standing) (b : List ℕ) → Stands headerless p b → (rest_of p.kept []).inside ≡ true → body_end headerless b ≡ Some (record { at = p.count; cause = CutOff })
ends_badly headerless p b stands e =
    let inside : (body headerless b).inside ≡ true = ends_at headerless p b true stands e in
    let clear : (body headerless b).refusal ≡ None = stands.clear in
    let count : p.count ≡ min (length b) (2 ^ 64 - 1) = stands.count in
    rw (inside, clear, count) refl
