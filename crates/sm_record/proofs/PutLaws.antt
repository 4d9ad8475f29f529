-- Lists that grow at the end, and lengths of texts.
use Rattle.std.proofs.Common.{◌≡◌, ℕ, ◌+◌, ◌*◌, ◌<◌, ◌≤◌, ◌^◌, List, [], ◌∷◌, ◌++◌, length, get_or, take, Option, None, Some, true, refl, sym, ap, ◌∙◌, arith, lit≤}
use Rattle.std.specs.Prelude.{IsTrue}
use Rattle.std.specs.List.{flat_map, All, AllByRecursion}
use Rattle.std.proofs.lemmas.List.{take_more, append-nil, length-append}
use Rattle.std.proofs.lemmas.List.Elements.{recursion_from_All}
use Rattle.sm_model.specs.declared.track.Track.{Track}
use Rattle.sm_model.specs.declared.track.Params.{Params}
use Rattle.sm_model.specs.Names.{is_name}
use Rattle.sm_model.specs.Numbers.{number32}
use Rattle.sm_model.specs.Channels.{is_fourcc, IsTrack, IsChannel}
use Rattle.sm_record.specs.Texts.{number16, option_text, params_text, track_text, declare_text, keep_text}
use Rattle.sm_record.specs.Bodies.{FitsTrack, IsSealedBody, sealed, body_len}
use Rattle.sm_record.proofs.Seals.{sealed_len}
use Rattle.sm_record.proofs.SampleLaws.{rows_len}
use Rattle.sm_model.specs.declared.sample.Sample.{Sample}
use Rattle.sm_model.specs.declared.fragment.Fragment.{Fragment}
use Rattle.sm_model.specs.declared.entry.Entry.TheVariants.{Declare, Keep}
use Rattle.sm_model.specs.Fragments.{sample_bytes, IsValid, IsNarrow}
use Rattle.sm_model.specs.Entries.{address_of}
use Rattle.sm_record.specs.Places.{IsPlaceOf}
use Rattle.sm_model.specs.Numbers.{number64}
use Rattle.std.proofs.lemmas.List.Sums.{sum_by-cons}
use Rattle.std.proofs.lemmas.List.Concat.{flat_map-cons, flat_map-append}

pub one_more : {X : Type 0} (xs : List X) (i : ℕ) (x : X) → i < length xs → x ≡ get_or xs i x → take (i + 1) xs ≡ take i xs ++ x ∷ []
one_more {X} xs i x lt is = take_more xs i x lt ∙ ap (λ (y : X). take i xs ++ y ∷ []) (sym is)

pub texts_push : {X : Type 0} (f : X → List ℕ) (xs : List X) (x : X) → flat_map f (xs ++ x ∷ []) ≡ flat_map f xs ++ f x
texts_push f xs x = flat_map-append f xs (x ∷ []) ∙ ap (λ (l : List ℕ). flat_map f xs ++ l) (flat_map-cons f x [] ∙ append-nil (f x))

-- ---- how long a channel's body is

number32_len : (n : ℕ) → length (number32 n) ≡ 4
unfolding number32
number32_len n = refl

option_len : (o : Option ℕ) → length (option_text o) ≤ 5
unfolding number32
option_len None = lit≤ tt
option_len (Some n) = lit≤ tt

params_len : (p : Params) → length (params_text p) ≤ 35
unfolding params_text
params_len p = simp (length-append) (omega (arith, option_len p.width, option_len p.height, option_len p.tag, option_len p.channels, option_len p.rate, option_len p.bits, option_len p.packet))

name_len : (b : List ℕ) → is_name b ≡ true → length b ≤ 64
unfolding is_name
name_len b h = grind (arith, h)

fourcc_len : (b : List ℕ) → IsTrue (is_fourcc b) → length b ≤ 4
fourcc_len b h = grind (arith, h)

track_len : (t : Track) → FitsTrack t → IsTrack t → length (track_text t) ≤ 33000
unfolding track_text
track_len t fits is =
    simp (length-append)
    (omega (arith, name_len t.name fits.name, number32_len t.bitrate, number32_len t.timescale, fourcc_len t.fourcc is.fourcc, number32_len (length t.private), is.short, params_len t.numbers))

tracks_len : (ts : List Track) → AllByRecursion FitsTrack ts → AllByRecursion IsTrack ts → length (flat_map track_text ts) ≤ 33000 * length ts
tracks_len [] fit are = lit≤ tt
tracks_len (t ∷ ts) fit are = omega (arith, ap length (flat_map-cons track_text t ts), length-append (track_text t) (flat_map track_text ts), track_len t fit.0 are.0, tracks_len ts fit.1 are.1)

number16_len : (n : ℕ) → length (number16 n) ≡ 2
unfolding number16
number16_len n = refl

pub declare_len : (ts : List Track) (body : List ℕ) → body ≡ sealed (17 ∷ declare_text ts) → length body ≡ body_len (Declare ts)
declare_len ts body text = omega (arith, ap length text, sealed_len (17 ∷ declare_text ts))

pub declare_short : (ts : List Track) (body : List ℕ) → IsChannel ts → body ≡ sealed (17 ∷ declare_text ts) → All FitsTrack ts → length body < 2 ^ 28
unfolding declare_text
declare_short ts body is text fit =
    let tracks = tracks_len ts (recursion_from_All FitsTrack ts fit) (recursion_from_All IsTrack ts is.each) in
    omega (arith, ap length text, sealed_len (17 ∷ declare_text ts), length-append (number16 (length ts)) (flat_map track_text ts), number16_len (length ts), tracks, is.few)

-- ---- how long a fragment's body is

number64_len : (n : ℕ) → length (number64 n) ≡ 8
unfolding number64
number64_len n = refl

bytes_len : (ss : List Sample) → length (flat_map (λ s. s.bytes) ss) ≡ sample_bytes ss
bytes_len [] = refl
bytes_len (s ∷ ss) = ap length (flat_map-cons (λ (t : Sample). t.bytes) s ss) ∙ length-append s.bytes (flat_map (λ t. t.bytes) ss) ∙ ap (λ (n : ℕ). length s.bytes + n) (bytes_len ss)
    ∙ sym (sum_by-cons (λ (t : Sample). length t.bytes) s ss)

keep_len : (place : ℕ) (f : Fragment) → length (keep_text place f) ≡ 25 + 16 * length f.samples + sample_bytes f.samples
unfolding keep_text
keep_len place f =
    simp (length-append)
    (omega (arith, number32_len place, number64_len f.time, number64_len f.duration, number32_len (length f.samples), rows_len f.samples, bytes_len f.samples))

pub keep_short : (place : ℕ) (f : Fragment) (body : List ℕ) → IsValid f → body ≡ sealed (18 ∷ keep_text place f) → length body < 2 ^ 28
keep_short place f body is text = omega (arith, ap length text, sealed_len (18 ∷ keep_text place f), keep_len place f, is.few, is.short)

pub keep_body_len : (place : ℕ) (f : Fragment) (body : List ℕ) → body ≡ sealed (18 ∷ keep_text place f) → length body ≡ body_len (Keep f)
keep_body_len place f body text = omega (arith, ap length text, sealed_len (18 ∷ keep_text place f), keep_len place f)

pub keep_sealed : (channel : List Track) (place : ℕ) (f : Fragment) (body : List ℕ) → IsPlaceOf channel (address_of f) place → place < 64 → IsValid f → All IsNarrow f.samples → body ≡ sealed (18 ∷ keep_text place f)
    → IsSealedBody (Some channel) (Keep f) body
keep_sealed channel place f body of low is narrow text = record {
  fields = keep_text place f;
  has = record { place = place; of = of; low = omega (arith, low); time = omega (arith, is.ends); duration = omega (arith, is.ends); few = omega (arith, is.few); each = recursion_from_All IsNarrow f.samples narrow; text = refl };
  is = text;
}
