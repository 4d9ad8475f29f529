-- Where nothing is at fault, every value fits.
use Rattle.std.proofs.Common.{◌≡◌, ℕ, ◌%◌, Bool, true, false, cond, eqb, leb, ltb, List, [], ◌∷◌, ◌++◌, length, Option, Some, None, Err, min, refl, ap, sym, ◌∙◌, All, get_or, unwrap_or}
use Rattle.std.specs.List.{list_all, AllByRecursion}
use Rattle.std.specs.Prelude.{IsAscii}
use Rattle.std.specs.Str.Lossy.{utf8_valid_len}
use Rattle.std.proofs.lemmas.Bool.{and_parts, eqb-true, ltb-true}
use Rattle.std.proofs.lemmas.Str.{IsUtf8-from_ascii, utf8_valid_len-IsUtf8}
use Rattle.std.proofs.lemmas.Str.Ascii.{IsAscii-nil, IsAscii-cons}
use Rattle.std.proofs.lemmas.List.Sums.{AllPass-from_list_all}
use Rattle.std.proofs.lemmas.List.Elements.{All-from_recursion}
use Rattle.hex.specs.declared.error.FromHexError.{FromHexError}
use Rattle.hex.specs.Hex.{decode_of, is_hex_digit}
use Rattle.hex.proofs.HexLemmas.{decode_of-digits}
use Rattle.sm_smil.specs.declared.raw_track.Form.{Form}
use Rattle.sm_smil.specs.declared.raw_track.ParamName.{ParamName}
use Rattle.sm_smil.specs.declared.raw_track.ParamName.TheVariants.{SystemBitrate, TrackId, TrackName, TimeScale, FourCc, CodecPrivateData, MaxWidth, MaxHeight, AudioTag, Channels, SamplingRate, BitsPerSample, PacketSize}
use Rattle.sm_smil.specs.declared.raw_track.SmilParam.{SmilParam}
use Rattle.sm_smil.specs.declared.raw_track.RawTrack.{RawTrack}
use Rattle.sm_model.specs.declared.track.Kind.{Kind}
use Rattle.sm_model.specs.declared.track.Kind.TheVariants.{Video, Audio, Text}
use Rattle.sm_model.specs.Names.{is_name, first_wrong}
use Rattle.sm_smil.specs.LiveTracks.{index_of, value_of, is_private, is_fit, stream_name}
use Rattle.sm_model.specs.Kinds.{kind_name}
use Rattle.sm_smil.specs.LiveWalk.{Walk}
use Rattle.sm_smil.specs.LiveFaults.{misfits, inner_faults, is_invalid, end_faults, tracks_faults, faults_of}
use Rattle.sm_model.specs.Places.{least_from}
use Rattle.sm_smil.specs.Answers.{AreFit}

-- digits that are private data decode
pub decodes : (b : List ℕ) (e : FromHexError) → is_private b ≡ true → decode_of b ≡ Err e → ⊥
unfolding is_private
decodes b e is bad =
    let second = and_parts (leb (length b) 65536) _ is in
    let third = and_parts (eqb (length b % 2) 0) _ second.1 in
    let even = eqb-true (length b % 2) 0 third.0 in
    let good = decode_of-digits b even (AllPass-from_list_all is_hex_digit b third.1) in
    cc (good.1, bad)

pub fit_private : (ps : List SmilParam) (v : List ℕ) → AreFit ps → value_of CodecPrivateData ps ≡ Some v → is_private v ≡ true
unfolding is_fit
fit_private ps v fit e = fit CodecPrivateData v e

small : ℕ → Bool
small c = ltb c 128

ascii : (b : List ℕ) → list_all small b ≡ true → IsAscii b
unfolding small
ascii [] e = IsAscii-nil
ascii (c ∷ cs) e =
    let parts = and_parts (ltb c 128) (list_all small cs) e in
    IsAscii-cons c cs (ltb-true c 128 parts.0) (ascii cs parts.1)

plain : (b : List ℕ) → list_all small b ≡ true → utf8_valid_len b ≡ length b
plain b e = utf8_valid_len-IsUtf8 b (IsUtf8-from_ascii b (ascii b e))

kind_names : (k : Kind) → is_name (kind_name k) ≡ true
unfolding is_name first_wrong small
kind_names Video = rw (plain (kind_name Video) refl) refl
kind_names Audio = rw (plain (kind_name Audio) refl) refl
kind_names Text = rw (plain (kind_name Text) refl) refl

-- a track's name is one
pub fit_name : (t : RawTrack) → AreFit t.params → is_name (stream_name t) ≡ true
unfolding is_fit
fit_name t fit = named (value_of TrackName t.params) (λ v e. fit TrackName v e)
  where
    named : (o : Option (List ℕ)) → ((v : List ℕ) → o ≡ Some v → is_name v ≡ true) → is_name (unwrap_or o (kind_name t.kind)) ≡ true
    named None each = kind_names t.kind
    named (Some v) each = each v refl

name_at : ℕ → ParamName
name_at n =
    get_or (SystemBitrate ∷ TrackId ∷ TrackName ∷ TimeScale ∷ FourCc ∷ CodecPrivateData ∷ MaxWidth ∷ MaxHeight ∷ AudioTag ∷ Channels ∷ SamplingRate ∷ BitsPerSample ∷ PacketSize ∷ []) n SystemBitrate

name_at-index_of : (a : ParamName) → name_at (index_of a) ≡ a
unfolding name_at
name_at-index_of SystemBitrate = refl
name_at-index_of TrackId = refl
name_at-index_of TrackName = refl
name_at-index_of TimeScale = refl
name_at-index_of FourCc = refl
name_at-index_of CodecPrivateData = refl
name_at-index_of MaxWidth = refl
name_at-index_of MaxHeight = refl
name_at-index_of AudioTag = refl
name_at-index_of Channels = refl
name_at-index_of SamplingRate = refl
name_at-index_of BitsPerSample = refl
name_at-index_of PacketSize = refl

-- names with one index are one name
pub same_name : (a b : ParamName) → eqb (index_of a) (index_of b) ≡ true → a ≡ b
same_name a b e = sym (name_at-index_of a) ∙ (ap name_at (eqb-true (index_of a) (index_of b) e) ∙ name_at-index_of b)

-- no fault in a list, in either part of it
pub neither : (xs ys : List ℕ) → xs ++ ys ≡ [] → (xs ≡ []) × (ys ≡ [])
neither [] ys e = (refl, e)
neither (x ∷ xs) ys e = cc

never : (f : ℕ) (xs : List ℕ) → least_from (Some f) xs ≡ None → ⊥
never f [] e = cc
never f (x ∷ xs) e = never (min f x) xs e

-- no least place, no place
pub none_least : (xs : List ℕ) → least_from None xs ≡ None → xs ≡ []
none_least [] e = refl
none_least (x ∷ xs) e = absurd (never x xs e)

-- a param that fits, or one behind it
picked : (p : SmilParam) (ps : List SmilParam) (name : ParamName) (v : List ℕ) (here fits : Bool) → eqb (index_of p.name) (index_of name) ≡ here
    → is_fit p.name p.value ≡ fits → cond fits (misfits ps) (p.at ∷ misfits ps) ≡ [] → (misfits ps ≡ [] → value_of name ps ≡ Some v → is_fit name v ≡ true)
    → cond here (Some p.value) (value_of name ps) ≡ Some v → is_fit name v ≡ true
picked p ps name v here false is fit none rest found = cc
picked p ps name v true true is fit none rest found =
    let same = same_name p.name name is in
    let value : p.value ≡ v = cc in
    rw (same, value) at fit
picked p ps name v false true is fit none rest found = rest none found

pub fits_all : (ps : List SmilParam) → misfits ps ≡ [] → AreFit ps
fits_all [] none name v found = cc
fits_all (p ∷ ps) none name v found =
    picked p ps name v (eqb (index_of p.name) (index_of name)) (is_fit p.name p.value) refl refl none (λ rest. fits_all ps rest name v) found

-- a track without an inner fault
pub inner_fit : (t : RawTrack) → inner_faults t ≡ [] → AreFit t.params
inner_fit t none =
    let parts = neither (cond (is_invalid t.bitrate) (t.at ∷ []) []) _ none in
    fits_all t.params (neither (misfits t.params) _ parts.1).0

tracks_fit : (form : Form) (earlier ts : List RawTrack) → tracks_faults form earlier ts ≡ [] → AllByRecursion (λ t. AreFit t.params) ts
tracks_fit form earlier [] none = tt
tracks_fit form earlier (t ∷ ts) none =
    let parts = neither (inner_faults t ++ end_faults form earlier t) _ none in
    let own = neither (inner_faults t) _ parts.0 in
    (inner_fit t own.0, tracks_fit form (earlier ++ t ∷ []) ts parts.1)

-- tracks without a fault
pub whole_fit : (form : Form) (ts : List RawTrack) (others : List ℕ) → tracks_faults form [] ts ++ others ≡ [] → All (λ t. AreFit t.params) ts
whole_fit form ts others none =
    All-from_recursion (λ (t : RawTrack). AreFit t.params) ts (tracks_fit form [] ts (neither (tracks_faults form [] ts) others none).0)

-- a text without a fault
pub all_fit : (form : Form) (size : ℕ) (bad : Option ℕ) (w : Walk) → least_from None (faults_of form size bad w) ≡ None → All (λ t. AreFit t.params) w.done
all_fit form size bad w none =
    whole_fit form w.done _ (none_least (faults_of form size bad w) none)
