-- No two tracks of a header share a track_ID.
use Rattle.std.proofs.Common.{◌≡◌, ◌-◌, ℕ, zero, suc, Bool, true, false, cond, ltb, List, [], ◌∷◌, length, take, Option, Some, None, Result, Ok, Err, refl, ap, subst, All, AllPairs, arith}
use Rattle.std.proofs.lemmas.Bool.{cond_both}
use Rattle.std.proofs.lemmas.List.Elements.{All-from_recursion, recursion_from_All}
use Rattle.std.proofs.lemmas.List.Kept.{AllPairs-cons}
use Rattle.std.specs.Option.{option_map_or}
use Rattle.std.specs.List.{AllByRecursion}
use Rattle.sm_model.specs.declared.cause.Cause.{Cause}
use Rattle.sm_model.specs.declared.cause.Cause.TheVariants.{BadMoov, Protected}
use Rattle.sm_model.specs.declared.heads.TrackHead.{TrackHead}
use Rattle.sm_model.specs.declared.smil.SmilTrack.{SmilTrack}
use Rattle.sm_model.specs.declared.header.Header.{Header}
use Rattle.sm_model.specs.declared.header.HeaderTrack.{HeaderTrack}
use Rattle.sm_model.specs.declared.run.Run.{Run}
use Rattle.sm_model.specs.declared.run.RawFragment.{RawFragment}
use Rattle.sm_model.specs.Channels.{Differ, IsSmil}
use Rattle.sm_model.specs.Frag.{moof_run, finish}
use Rattle.sm_model.specs.Moov.{moov, no_defaults}
use Rattle.sm_model.specs.Boxes.{box_of}
use Rattle.sm_smil.specs.LiveRead.{live_manifest}
use Rattle.sm_push.specs.declared.state.PushState.{PushState}
use Rattle.sm_push.specs.declared.state.PendingMoof.{PendingMoof}
use Rattle.sm_push.specs.declared.state.HeaderStage.{HeaderStage}
use Rattle.sm_push.specs.declared.state.HeaderStage.TheVariants.{Gathering, Complete}
use Rattle.sm_push.specs.declared.state.TopBox.{TopBox}
use Rattle.sm_push.specs.declared.state.TopBox.TheVariants as sorts
use Rattle.sm_push.specs.declared.state.BoxDecision.{BoxDecision}
use Rattle.sm_push.specs.declared.state.BoxDecision.TheVariants.{Wait, Refuse, Pass, Take}
use Rattle.sm_push.specs.Header.{heads_for, tracks_of, keys_of, has_two_timescales, names_protected, header_with, header_by, header_of}
use Rattle.sm_push.specs.PushHeads.{decision}
use Rattle.sm_push.specs.PushBoxes.{Step, passed, manifest_text, track_in, awaited, pending, moof_taken, fragment_taken, mdat_taken, header_taken, moov_taken, manifest_taken, taken}
use Rattle.sm_push.specs.Body.{Outcome, header_in, stepped, at_box, walk, push_start, body}
use Rattle.sm_push.specs.Joins.{AreApart, HaveIds}

-- ---- the header

first_pairs : {X : Type 0} (R : X → X → Type 0) (x : X) (xs : List X) → AllPairs R (x ∷ xs) → All (R x) xs
first_pairs {X} R x xs all = λ i d lt. all zero (suc i) d (omega arith) (omega arith)

later_pairs : {X : Type 0} (R : X → X → Type 0) (x : X) (xs : List X) → AllPairs R (x ∷ xs) → AllPairs R xs
later_pairs {X} R x xs all = λ i j d lt within. all (suc i) (suc j) d (omega arith) (omega arith)

apart_from : (t : SmilTrack) (k : HeaderTrack) (ts : List SmilTrack) (hs : List TrackHead) → k.id ≡ t.id → AllByRecursion (Differ t) ts → AllByRecursion (AreApart k) (keys_of ts hs)
apart_from t k [] hs is differ = tt
apart_from t k (u ∷ ts) [] is differ = tt
apart_from t k (u ∷ ts) (h ∷ hs) is differ = (λ same. differ.0.id (let e : t.id ≡ u.id = omega (arith, is, same) in e), apart_from t k ts hs is differ.1)

keys_apart : (ts : List SmilTrack) (hs : List TrackHead) → AllPairs Differ ts → HaveIds (keys_of ts hs)
keys_apart [] hs differ = λ i j d lt within. absurd (omega arith)
keys_apart (t ∷ ts) [] differ = λ i j d lt within. absurd (omega arith)
keys_apart (t ∷ ts) (h ∷ hs) differ =
    let own : HeaderTrack = record { id = t.id; stream = t.track.name; bitrate = t.track.bitrate; defaults = h.defaults } in
    AllPairs-cons AreApart own (keys_of ts hs)
    (All-from_recursion (AreApart own) (keys_of ts hs) (apart_from t own ts hs refl (recursion_from_All (Differ t) ts (first_pairs Differ t ts differ))))
    (keys_apart ts hs (later_pairs Differ t ts differ))

with_apart : (ts : List SmilTrack) (hs : List TrackHead) (h : Header) (two encrypted : Bool) → HaveIds (keys_of ts hs)
    → cond two (Err BadMoov) (cond encrypted (Err Protected) (Ok (record { channel = tracks_of ts hs; tracks = keys_of ts hs }))) ≡ Ok h → HaveIds h.tracks
with_apart ts hs h true encrypted apart e = absurd cc
with_apart ts hs h false true apart e = absurd cc
with_apart ts hs h false false apart e = let same : keys_of ts hs ≡ h.tracks = ap (λ (r : Result Header Cause). tracks_in r) e in subst HaveIds same apart
  where
    tracks_in : Result Header Cause → List HeaderTrack
    tracks_in (Ok h) = h.tracks
    tracks_in (Err cause) = []

heads_apart : (ts : List SmilTrack) (found : Option (List TrackHead)) (h : Header) → IsSmil ts → option_map_or (header_with ts) found (Err BadMoov) ≡ Ok h → HaveIds h.tracks
unfolding header_with
heads_apart ts None h smil e = absurd cc
heads_apart ts (Some hs) h smil e = with_apart ts hs h (has_two_timescales (tracks_of ts hs)) (names_protected hs) (keys_apart ts hs smil.differ) e

parts_apart : (said : Result (List SmilTrack) ℕ) (heads : Option (List TrackHead)) (h : Header) → ((ts : List SmilTrack) → said ≡ Ok ts → IsSmil ts) → header_by said heads ≡ Ok h → HaveIds h.tracks
parts_apart (Err inside) heads h smil e = absurd cc
parts_apart (Ok ts) None h smil e = absurd cc
parts_apart (Ok ts) (Some heads) h smil e = heads_apart ts (heads_for heads ts) h (smil ts refl) e

abbrev HeadersApart : Type 0
HeadersApart = (text b : List ℕ) (h : Header) → header_of text b ≡ Ok h → HaveIds h.tracks

pub headers_apart : ((text : List ℕ) (ts : List SmilTrack) → live_manifest text ≡ Ok ts → IsSmil ts) → HeadersApart
unfolding header_of
headers_apart smil text b h e = parts_apart (live_manifest text) (moov b) h (smil text) e

-- ---- a whole push

abbrev StageApart : PushState → Type 0
StageApart s = HaveIds (header_in s.stage)

abbrev StepApart : Step → Type 0
StepApart (Err r) = Unit {0}
StepApart (Ok step) = StageApart step.1

header_step : HeadersApart → (s : PushState) (text b : List ℕ) (r : Result Header Cause) (size : ℕ) → header_of text b ≡ r → StepApart (header_taken r s size)
header_step laws s text b (Err cause) size e = tt
header_step laws s text b (Ok h) size e = laws text b h e

awaited_step : (s : PushState) (b : List ℕ) (t : HeaderTrack) (r : Result Run Cause) → StageApart s → StepApart (awaited r t s b)
awaited_step s b t (Err cause) apart = tt
awaited_step s b t (Ok run) apart = apart

pending_step : (s : PushState) (b : List ℕ) (t : Option HeaderTrack) → StageApart s → StepApart (pending t s b)
pending_step s b None apart = tt
pending_step s b (Some t) apart = awaited_step s b t (moof_run t.defaults b) apart

moof_step : (s : PushState) (b : List ℕ) (r : Result Run Cause) → StageApart s → StepApart (moof_taken r s b)
moof_step s b (Err cause) apart = tt
moof_step s b (Ok run) apart = pending_step s b (track_in s.stage run.id) apart

none_yet : HaveIds []
none_yet = λ i j d lt within. absurd (omega arith)

moov_step : HeadersApart → (s : PushState) (b : List ℕ) (stage : HeaderStage) → StageApart s → StepApart (moov_taken stage s b)
moov_step laws s b (Gathering (Some manifest) moov) apart = header_step laws s (manifest_text manifest) (box_of b).body _ (length b) refl
moov_step laws s b (Gathering None moov) apart = none_yet
moov_step laws s b (Complete tracks) apart = apart

manifest_step : HeadersApart → (s : PushState) (b : List ℕ) (stage : HeaderStage) → StageApart s → StepApart (manifest_taken stage s b)
manifest_step laws s b (Gathering manifest (Some moov)) apart = header_step laws s (manifest_text b) (box_of moov).body _ (length b) refl
manifest_step laws s b (Gathering manifest None) apart = none_yet
manifest_step laws s b (Complete tracks) apart = apart

fragment_step : (s : PushState) (moof : PendingMoof) (r : Result RawFragment Cause) (size : ℕ) → StageApart s → StepApart (fragment_taken r moof s size)
fragment_step s moof (Err cause) size apart = tt
fragment_step s moof (Ok raw) size apart = apart

mdat_step : (s : PushState) (b : List ℕ) (moof : Option PendingMoof) → StageApart s → StepApart (mdat_taken moof s b)
mdat_step s b None apart = apart
mdat_step s b (Some moof) apart = fragment_step s moof (finish moof.size b moof.run) (length b) apart

taken_step : HeadersApart → (s : PushState) (b : List ℕ) (sort : TopBox) → StageApart s → StepApart (taken s sort b)
unfolding taken
taken_step laws s b sorts.Moof apart = moof_step s b (moof_run no_defaults b) apart
taken_step laws s b sorts.Mdat apart = mdat_step s b s.moof apart
taken_step laws s b sorts.Moov apart = moov_step laws s b s.stage apart
taken_step laws s b sorts.Manifest apart = manifest_step laws s b s.stage apart
taken_step laws s b sorts.Other apart = apart

stepped_apart : (s : PushState) (step : Step) (size : ℕ) (go : PushState → ℕ → Outcome) → StageApart s → StepApart step
    → ((next : PushState) (k : ℕ) → StageApart next → HaveIds (go next k).header) → HaveIds (stepped s step size go).header
stepped_apart s (Err r) size go apart v h = apart
stepped_apart s (Ok step) size go apart v h = h step.1 size v

box_apart : HeadersApart → (s : PushState) (b : List ℕ) (d : BoxDecision) → StageApart s → (go : PushState → ℕ → Outcome)
    → ((next : PushState) (k : ℕ) → StageApart next → HaveIds (go next k).header) → HaveIds (at_box s b d go).header
box_apart laws s b Wait apart go h = apart
box_apart laws s b (Refuse cause) apart go h = apart
box_apart laws s b (Pass size) apart go h = h (passed s size) size apart
box_apart laws s b (Take sort size) apart go h =
    cond_both (ltb (length b) size) _ _ (λ (o : Outcome). HaveIds o.header) (λ _. apart)
    (λ _. stepped_apart s (taken s sort (take size b)) size go apart (taken_step laws s (take size b) sort apart) h)

walk_apart : HeadersApart → (s : PushState) (k : ℕ) (b : List ℕ) → StageApart s → HaveIds (walk s k b).header
unfolding walk
walk_apart laws s k [] apart = apart
walk_apart laws s (suc k) (x ∷ b) apart = walk_apart laws s k b apart
walk_apart laws s zero (x ∷ b) apart =
    box_apart laws s (x ∷ b) (decision s (x ∷ b)) apart (λ next size. walk next (size - 1) b) (λ next k there. walk_apart laws next (k - 1) b there)

pub body_apart : HeadersApart → (headerless : Bool) (b : List ℕ) → HaveIds (body headerless b).header
body_apart laws headerless b = walk_apart laws (push_start headerless) 0 b none_yet
