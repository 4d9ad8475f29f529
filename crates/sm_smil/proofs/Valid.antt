-- A text without a fault names a valid channel.
use Rattle.std.proofs.Common.{◌≡◌, ◌≢◌, ◌<◌, ◌≤◌, ◌%◌, ℕ, Bool, true, false, ◌&&◌, ◌||◌, not, cond, eqb, leb, ltb, List, [], ◌∷◌, ◌++◌, length, map, Option, Some, None, is_none, unwrap_or, refl, sym, ◌∙◌, AllPairs, arith}
use Rattle.std.proofs.lemmas.List.{length-map}
use Rattle.std.specs.List.{AllByRecursion}
use Rattle.std.specs.Result.{result_unwrap_or}
use Rattle.std.proofs.lemmas.Bool.{and_parts, eqb-true, eq-eqb, leb-true, ltb-true}
use Rattle.std.proofs.lemmas.List.Elements.{All-from_recursion}
use Rattle.std.proofs.lemmas.List.Kept.{AllPairs-cons}
use Rattle.std.proofs.lemmas.List.Sums.{AllPass-from_list_all}
use Rattle.std.proofs.lemmas.Slice.Eq.{bytes_eq-Decides}
use Rattle.hex.specs.Hex.{decode_of, is_hex_digit}
use Rattle.hex.proofs.HexLemmas.{decode_of-digits, decode_of-ok}
use Rattle.sm_smil.specs.declared.raw_track.Form.{Form}
use Rattle.sm_smil.specs.declared.raw_track.Form.TheVariants.{Pushed, Ladder}
use Rattle.sm_smil.specs.declared.raw_track.ParamName.TheVariants.{SystemBitrate, TrackId, TimeScale, FourCc, CodecPrivateData}
use Rattle.sm_smil.specs.declared.raw_track.SmilParam.{SmilParam}
use Rattle.sm_smil.specs.declared.raw_track.RawTrack.{RawTrack}
use Rattle.sm_model.specs.declared.track.Kind.{Kind}
use Rattle.sm_model.specs.declared.track.Kind.TheVariants.{Video, Audio, Text}
use Rattle.sm_model.specs.declared.smil.SmilTrack.{SmilTrack}
use Rattle.sm_model.specs.Digits.{is_number, number_of, decimal_from}
use Rattle.sm_model.specs.Channels.{is_fourcc, IsTrack, Agree, IsChannel, IsUntimed, Differ, IsSmil}
use Rattle.sm_model.specs.Same.{is_same}
use Rattle.sm_smil.specs.LiveTracks.{value_of, is_private, is_timescale, is_fit, stream_name, bitrate_text, number_in, bitrate_of, track_id_of, timescale_in, timescale_of, bytes_in, track_of, smil_track, ladder_track}
use Rattle.sm_smil.specs.LiveWalk.{Walk}
use Rattle.sm_smil.specs.LiveFaults.{is_invalid, misfits, inner_faults, are_equal, do_differ, clash, share_id, collide, lacks_id, lacks_part, collides_with, end_faults, tracks_faults, open_faults, text_faults, faults_of}
use Rattle.sm_model.specs.Kinds.{are_one_kind}
use Rattle.sm_model.specs.Places.{least_from}
use Rattle.sm_smil.specs.Answers.{AreFit}
use Rattle.sm_smil.proofs.Fit.{neither, none_least, fits_all}

either_false : (a b : Bool) → (a || b) ≡ false → (a ≡ false) × (b ≡ false)
either_false true b e = cc
either_false false b e = (refl, e)

-- one more of the earlier ones
collides_push : (form : Form) (es : List RawTrack) (e t : RawTrack) → collides_with form (es ++ e ∷ []) t ≡ (collides_with form es t || collide form e t)
collides_push form [] e t = alone (collide form e t)
  where
    alone : (a : Bool) → (a || false) ≡ (false || a)
    alone true = refl
    alone false = refl
collides_push form (x ∷ es) e t = rw (collides_push form es e t) (regroup (collide form x t) (collides_with form es t) (collide form e t))
  where
    regroup : (a b c : Bool) → (a || (b || c)) ≡ ((a || b) || c)
    regroup true b c = refl
    regroup false b c = refl

-- what collides with none of these doesn't collide with this one
abbrev pub IsOneOf : Form → RawTrack → List RawTrack → Type 0
IsOneOf form x es = (t : RawTrack) → collides_with form es t ≡ false → collide form x t ≡ false

last_one : (form : Form) (x : RawTrack) (es : List RawTrack) → IsOneOf form x (es ++ x ∷ [])
last_one form x es t e = (either_false (collides_with form es t) (collide form x t) (sym (collides_push form es x t) ∙ e)).1

still_one : (form : Form) (x y : RawTrack) (es : List RawTrack) → IsOneOf form x es → IsOneOf form x (es ++ y ∷ [])
still_one form x y es one t e = one t (either_false (collides_with form es t) (collide form y t) (sym (collides_push form es y t) ∙ e)).0

none_of : (b : Bool) (at : ℕ) → cond b (at ∷ []) [] ≡ [] → b ≡ false
none_of true at e = cc
none_of false at e = refl

ends_clean : (form : Form) (earlier : List RawTrack) (t : RawTrack) → end_faults form earlier t ≡ [] → (lacks_part form t ≡ false) × (collides_with form earlier t ≡ false)
unfolding end_faults
ends_clean form earlier t e = either_false (lacks_part form t) (collides_with form earlier t) (none_of _ t.at e)

-- a track without a fault of its own
pub record IsClean (form : Form) (t : RawTrack) : Type 0 where
  pub whole : lacks_part form t ≡ false
  pub read : is_invalid t.bitrate ≡ false
  pub fit : AreFit t.params

clean : (form : Form) (t : RawTrack) → inner_faults t ≡ [] → lacks_part form t ≡ false → IsClean form t
clean form t none whole =
    let parts = neither (cond (is_invalid t.bitrate) (t.at ∷ []) []) _ none in record {
      whole = whole;
      read = none_of (is_invalid t.bitrate) t.at parts.0;
      fit = fits_all t.params (neither (misfits t.params) _ parts.1).0;
    }

-- pairs of a list, by recursion
abbrev pub PairsByRecursion : (RawTrack → RawTrack → Type 0) → List RawTrack → Type 0
PairsByRecursion R [] = Unit {0}
PairsByRecursion R (t ∷ ts) = AllByRecursion (R t) ts × PairsByRecursion R ts

abbrev pub StandApart : Form → RawTrack → RawTrack → Type 0
StandApart form a b = collide form a b ≡ false

apart_from : (form : Form) (x : RawTrack) (earlier ts : List RawTrack) → IsOneOf form x earlier → tracks_faults form earlier ts ≡ [] → AllByRecursion (StandApart form x) ts
apart_from form x earlier [] one none = tt
apart_from form x earlier (t ∷ ts) one none =
    let parts = neither (inner_faults t ++ end_faults form earlier t) _ none in
    let own = ends_clean form earlier t (neither (inner_faults t) _ parts.0).1 in
    (one t own.1, apart_from form x (earlier ++ t ∷ []) ts (still_one form x t earlier one) parts.1)

stand_apart : (form : Form) (earlier ts : List RawTrack) → tracks_faults form earlier ts ≡ [] → PairsByRecursion (StandApart form) ts
stand_apart form earlier [] none = tt
stand_apart form earlier (t ∷ ts) none =
    let parts = neither (inner_faults t ++ end_faults form earlier t) _ none in
    (apart_from form t (earlier ++ t ∷ []) ts (last_one form t earlier) parts.1, stand_apart form (earlier ++ t ∷ []) ts parts.1)

are_clean : (form : Form) (earlier ts : List RawTrack) → tracks_faults form earlier ts ≡ [] → AllByRecursion (IsClean form) ts
are_clean form earlier [] none = tt
are_clean form earlier (t ∷ ts) none =
    let parts = neither (inner_faults t ++ end_faults form earlier t) _ none in
    let own = neither (inner_faults t) _ parts.0 in
    (clean form t own.0 (ends_clean form earlier t own.1).0, are_clean form (earlier ++ t ∷ []) ts parts.1)

-- what holds of clean tracks that stand apart holds of what is made of them
pub pairs_of : {X : Type 0} (form : Form) (f : RawTrack → X) (S : X → X → Type 0)
    → ((a b : RawTrack) → IsClean form a → IsClean form b → StandApart form a b → S (f a) (f b)) → (ts : List RawTrack) → AllByRecursion (IsClean form) ts
    → PairsByRecursion (StandApart form) ts → AllPairs S (map f ts)
pairs_of form f S each [] clean apart = λ i j d lt within. absurd (omega arith)
pairs_of form f S each (t ∷ ts) clean apart =
    AllPairs-cons S (f t) (map f ts) (All-from_recursion (S (f t)) (map f ts) (along ts clean.1 apart.0)) (pairs_of form f S each ts clean.1 apart.1)
  where
    along : (us : List RawTrack) → AllByRecursion (IsClean form) us → AllByRecursion (StandApart form t) us → AllByRecursion (S (f t)) (map f us)
    along [] c a = tt
    along (u ∷ us) c a = (each t u clean.0 c.0 a.0, along us c.1 a.1)

pub each_of : {X : Type 0} (form : Form) (f : RawTrack → X) (P : X → Type 0) → ((t : RawTrack) → IsClean form t → P (f t)) → (ts : List RawTrack) → AllByRecursion (IsClean form) ts → AllByRecursion P (map f ts)
each_of form f P each [] good = tt
each_of form f P each (t ∷ ts) good = (each t good.0, each_of form f P each ts good.1)

-- numbers that are there
number_known : (v : List ℕ) → is_number v ≡ true → number_of v ≡ Some (decimal_from 0 v)
unfolding number_of
number_known v e = rw e refl

not_misread : (b : Bool) → not b ≡ false → b ≡ true
not_misread true e = refl
not_misread false e = cc

param_known : (o : Option (List ℕ)) → is_none o ≡ false → ((v : List ℕ) → o ≡ Some v → is_number v ≡ true) → (n : ℕ) × (number_in o ≡ Some n)
param_known None some fit = cc
param_known (Some v) some fit = (decimal_from 0 v, number_known v (fit v refl))

bitrate_text_known : (o : Option (List ℕ)) (ps : List SmilParam) → is_none (bitrate_text o ps) ≡ false → is_invalid o ≡ false → AreFit ps → (n : ℕ) × (number_in (bitrate_text o ps) ≡ Some n)
unfolding is_fit
bitrate_text_known (Some v) ps some read fit = (decimal_from 0 v, number_known v (not_misread (is_number v) read))
bitrate_text_known None ps some read fit = param_known (value_of SystemBitrate ps) some (λ v e. fit SystemBitrate v e)

pub bitrate_known : (form : Form) (t : RawTrack) → IsClean form t → (n : ℕ) × (bitrate_of t ≡ Some n)
unfolding lacks_part
bitrate_known form t clean =
    let parts = either_false (is_none (bitrate_text t.bitrate t.params)) (lacks_id form t.params) clean.whole in
    bitrate_text_known t.bitrate t.params parts.0 clean.read clean.fit

pub id_known : (t : RawTrack) → IsClean Pushed t → (n : ℕ) × (track_id_of t ≡ Some n)
unfolding lacks_part is_fit
id_known t clean =
    let parts = either_false (is_none (bitrate_text t.bitrate t.params)) (lacks_id Pushed t.params) clean.whole in
    param_known (value_of TrackId t.params) parts.1 (λ v e. clean.fit TrackId v e)

pub timescale_known : (form : Form) (t : RawTrack) → IsClean form t → (n : ℕ) × (0 < n) × (timescale_of t ≡ Some n)
unfolding is_fit is_timescale
timescale_known form t clean = said (value_of TimeScale t.params) (λ v e. clean.fit TimeScale v e)
  where
    said : (o : Option (List ℕ)) → ((v : List ℕ) → o ≡ Some v → is_timescale v ≡ true) → (n : ℕ) × (0 < n) × (timescale_in o ≡ Some n)
    said None fit = (10000000, omega arith, refl)
    said (Some v) fit =
        let parts = and_parts (is_number v) (ltb 0 (decimal_from 0 v)) (fit v refl) in
        let good : is_timescale v ≡ true = fit v refl in
        (decimal_from 0 v, ltb-true 0 (decimal_from 0 v) parts.1, rw good (number_known v parts.0))

-- what two clean tracks that stand apart differ and agree in
kinds_equal : (a b : Kind) → not (are_one_kind a b) ≡ false → a ≡ b
kinds_equal Video Video e = refl
kinds_equal Audio Audio e = refl
kinds_equal Text Text e = refl
kinds_equal Video Audio e = cc
kinds_equal Video Text e = cc
kinds_equal Audio Video e = cc
kinds_equal Audio Text e = cc
kinds_equal Text Video e = cc
kinds_equal Text Audio e = cc

differ : (p q : Option ℕ) (x y : ℕ) → p ≡ Some x → q ≡ Some y → are_equal p q ≡ false → x ≢ y
differ p q x y e f apart same =
    let here : eqb x y ≡ false = rw (e, f) at apart in
    let there : eqb x y ≡ true = eq-eqb x y same in
    cc

agree : (p q : Option ℕ) (x y : ℕ) → p ≡ Some x → q ≡ Some y → do_differ p q ≡ false → x ≡ y
agree p q x y e f apart =
    let here : not (eqb x y) ≡ false = rw (e, f) at apart in
    eqb-true x y (not_misread (eqb x y) here)

and_false : (a b : Bool) → a ≡ true → (a && b) ≡ false → b ≡ false
and_false true b goes e = e
and_false false b goes e = cc

-- what tracks of one name that don't clash differ and agree in
pub record AreAlike (a b : RawTrack) : Type 0 where
  pub bitrates : are_equal (bitrate_of a) (bitrate_of b) ≡ false
  pub kinds : not (are_one_kind a.kind b.kind) ≡ false
  pub timescales : do_differ (timescale_of a) (timescale_of b) ≡ false

alike : (a b : RawTrack) → clash a b ≡ false → stream_name a ≡ stream_name b → AreAlike a b
unfolding clash
alike a b apart same =
    let named = (bytes_eq-Decides (stream_name a) (stream_name b)).1 same in
    let rest = and_false (is_same (stream_name a) (stream_name b)) (are_equal (bitrate_of a) (bitrate_of b) || (not (are_one_kind a.kind b.kind) || do_differ (timescale_of a) (timescale_of b))) named apart in
    let first = either_false (are_equal (bitrate_of a) (bitrate_of b)) _ rest in
    let second = either_false (not (are_one_kind a.kind b.kind)) _ first.1 in
    record { bitrates = first.0; kinds = second.0; timescales = second.1 }

-- a number that is there is the track's
given : (o : Option ℕ) (n : ℕ) → o ≡ Some n → unwrap_or o 0 ≡ n
given o n e = rw e refl

fourcc_fits : (ps : List SmilParam) → AreFit ps → is_fourcc (unwrap_or (value_of FourCc ps) []) ≡ true
unfolding is_fit
fourcc_fits ps fit = said (value_of FourCc ps) (λ v e. fit FourCc v e)
  where
    said : (o : Option (List ℕ)) → ((v : List ℕ) → o ≡ Some v → is_fourcc v ≡ true) → is_fourcc (unwrap_or o []) ≡ true
    said None fits = refl
    said (Some v) fits = fits v refl

private_len : (v : List ℕ) → is_private v ≡ true → length (result_unwrap_or (decode_of v) []) ≤ 32768
unfolding is_private
private_len v is =
    let second = and_parts (leb (length v) 65536) _ is in
    let third = and_parts (eqb (length v % 2) 0) _ second.1 in
    let even = eqb-true (length v % 2) 0 third.0 in
    let good = decode_of-digits v even (AllPass-from_list_all is_hex_digit v third.1) in
    let long = (decode_of-ok v good.0 good.1).2 in
    let few : length v ≤ 65536 = leb-true (length v) 65536 second.0 in
    let short : length good.0 ≤ 32768 = omega (arith, long, few) in
    rw good.1 short

private_fits : (ps : List SmilParam) → AreFit ps → length (bytes_in (value_of CodecPrivateData ps)) ≤ 32768
unfolding is_fit
private_fits ps fit = said (value_of CodecPrivateData ps) (λ v e. fit CodecPrivateData v e)
  where
    said : (o : Option (List ℕ)) → ((v : List ℕ) → o ≡ Some v → is_private v ≡ true) → length (bytes_in o) ≤ 32768
    said None fits = omega arith
    said (Some v) fits = private_len v (fits v refl)

ladder_agree : (a b : RawTrack) → IsClean Ladder a → IsClean Ladder b → StandApart Ladder a b → Agree (ladder_track a) (ladder_track b)
unfolding collide track_of
ladder_agree a b ca cb apart =
    let free = (either_false (clash a b) (share_id Ladder a b) apart).0 in
    let x = bitrate_known Ladder a ca in
    let y = bitrate_known Ladder b cb in
    let s = timescale_known Ladder a ca in
    let t = timescale_known Ladder b cb in record {
      apart = λ same e. differ (bitrate_of a) (bitrate_of b) x.0 y.0 x.1 y.1 (alike a b free same).bitrates (sym (given _ _ x.1) ∙ (e ∙ given _ _ y.1));
      kind = λ same. kinds_equal a.kind b.kind (alike a b free same).kinds;
      timescale = λ same. given _ _ s.2 ∙ (agree (timescale_of a) (timescale_of b) s.0 t.0 s.2 t.2 (alike a b free same).timescales ∙ sym (given _ _ t.2));
    }

ladder_fits : (t : RawTrack) → IsClean Ladder t → IsTrack (ladder_track t)
unfolding track_of
ladder_fits t clean =
    let s = timescale_known Ladder t clean in record {
      ticks = rw (given _ _ s.2) s.1;
      fourcc = fourcc_fits t.params clean.fit;
      short = private_fits t.params clean.fit;
    }

smil_differ : (a b : RawTrack) → IsClean Pushed a → IsClean Pushed b → StandApart Pushed a b → Differ (smil_track a) (smil_track b)
unfolding collide track_of
smil_differ a b ca cb apart =
    let free = either_false (clash a b) (share_id Pushed a b) apart in
    let x = bitrate_known Pushed a ca in
    let y = bitrate_known Pushed b cb in
    let s = id_known a ca in
    let t = id_known b cb in record {
      id = λ e. differ (track_id_of a) (track_id_of b) s.0 t.0 s.1 t.1 free.1 (sym (given _ _ s.1) ∙ (e ∙ given _ _ t.1));
      apart = λ same e. differ (bitrate_of a) (bitrate_of b) x.0 y.0 x.1 y.1 (alike a b free.0 same).bitrates (sym (given _ _ x.1) ∙ (e ∙ given _ _ y.1));
      kind = λ same. kinds_equal a.kind b.kind (alike a b free.0 same).kinds;
    }

smil_fits : (t : RawTrack) → IsClean Pushed t → IsUntimed (smil_track t).track
unfolding track_of
smil_fits t clean = record { fourcc = fourcc_fits t.params clean.fit; short = private_fits t.params clean.fit }

some_track : (size : ℕ) (bad : Option ℕ) (done : List RawTrack) → text_faults size bad done ≡ [] → 0 < length done
some_track size (Some at) done e = cc
some_track size None [] e = cc
some_track size None (t ∷ ts) e = omega arith

-- what is left of a text without a fault: its tracks
pub record IsFaultless (form : Form) (done : List RawTrack) : Type 0 where
  pub some : 0 < length done
  pub clean : AllByRecursion (IsClean form) done
  pub apart : PairsByRecursion (StandApart form) done

pub faultless : (form : Form) (size : ℕ) (bad : Option ℕ) (w : Walk) → least_from None (faults_of form size bad w) ≡ None → IsFaultless form w.done
faultless form size bad w none =
    let first = neither (tracks_faults form [] w.done) _ (none_least (faults_of form size bad w) none) in
    let second = neither (open_faults w.current) _ first.1 in
    let third = neither _ _ second.1 in
    let last = neither _ _ third.1 in record {
      some = some_track size bad w.done last.1;
      clean = are_clean form [] w.done first.0;
      apart = stand_apart form [] w.done first.0;
    }

pub is_channel : (done : List RawTrack) → IsFaultless Ladder done → length done ≤ 64 → IsChannel (map ladder_track done)
is_channel done good few = record {
  some = rw (length-map done ladder_track) good.some;
  few = rw (length-map done ladder_track) few;
  each = All-from_recursion IsTrack (map ladder_track done) (each_of Ladder ladder_track IsTrack ladder_fits done good.clean);
  agree = pairs_of Ladder ladder_track Agree ladder_agree done good.clean good.apart;
}

pub is_smil : (done : List RawTrack) → IsFaultless Pushed done → length done ≤ 64 → IsSmil (map smil_track done)
is_smil done good few = record {
  some = rw (length-map done smil_track) good.some;
  few = rw (length-map done smil_track) few;
  each = All-from_recursion (λ (s : SmilTrack). IsUntimed s.track) (map smil_track done) (each_of Pushed smil_track (λ s. IsUntimed s.track) smil_fits done good.clean);
  differ = pairs_of Pushed smil_track Differ smil_differ done good.clean good.apart;
}
