-- What a client of a rehearsal reads where the store only keeps what encoder A pushed.
use Rattle.std.proofs.Common.{◌≡◌, ℕ, zero, suc, ◌+◌, ◌<◌, ◌≤◌, ◌^◌, ◌⊎◌, inl, inr, Bool, true, false, if◌then◌else◌, List, [], ◌∷◌, ◌++◌, filter, length, Option, Some, None, refl, sym, ap, subst, arith, length-append}
use Rattle.std.specs.Prelude.{codes, nat_lt, min, slice_index, IsTrue, ◌==◌}
use Rattle.std.specs.List.{All, AllByRecursion}
use Rattle.std.specs.Str.Lossy.{utf8_valid_len}
use Rattle.std.proofs.lemmas.List.Elements.{All-from_recursion}
use Rattle.std.proofs.lemmas.Str.{utf8_valid_len-IsUtf8, IsUtf8-from_ascii}
use Rattle.httparse.specs.Grammar.{is_value_byte}
use Rattle.sm_model.specs.declared.entry.Entry.{Entry}
use Rattle.sm_model.specs.declared.entry.Entry.TheVariants.{Declare, Keep}
use Rattle.sm_model.specs.declared.track.Track.{Track}
use Rattle.sm_model.specs.Channels.{IsNarrowOption, IsNarrowTrack}
use Rattle.sm_model.specs.Names.{is_name, first_wrong}
use Rattle.sm_model.specs.Same.{is_same}
use Rattle.sm_log.specs.Adds.{Add, is_listed, times_from, times_of}
use Rattle.sm_log.specs.Times.{with_entry}
use Rattle.sm_log.specs.Logs.{channel_of, adds_from, adds_of, listed_by, IsSound}
use Rattle.sm_fetch.specs.declared.dial.Exchange.{Exchange}
use Rattle.sm_fetch.specs.Origins.{AnsweredFrom}
use Rattle.sm_client.specs.Served.{IsMoment, AnsweredBy, IsStream, IsPlace, Serves}
use Rattle.sm_world.specs.Clients.{plan_of}
use Rattle.sm_world.specs.Deeds.{place}
use Rattle.sm_world.specs.Encoders.{channel, video, audio, log_of, entries_after}
use Rattle.sm_world.proofs.Numbers.{length_log, same_log}

-- ---- the place and the channel

-- each byte is below that
small_bytes : (n : ℕ) (xs : List ℕ) → AllByRecursion (λ b. b < n) xs → All (λ b. b < n) xs
small_bytes n xs all = All-from_recursion (λ b. b < n) xs all

low_bytes : (n : ℕ) (xs : List ℕ) → 0 < n → AllByRecursion (λ b. b < n) xs → (i : ℕ) → slice_index xs i < n
low_bytes n [] some all i = some
low_bytes n (x ∷ xs) some all zero = all.0
low_bytes n (x ∷ xs) some all (suc i) = low_bytes n xs some all.1 i

video_bytes : AllByRecursion (λ b. b < 128) (codes "video")
video_bytes = (omega arith, (omega arith, (omega arith, (omega arith, (omega arith, tt)))))

audio_bytes : AllByRecursion (λ b. b < 128) (codes "audio")
audio_bytes = (omega arith, (omega arith, (omega arith, (omega arith, (omega arith, tt)))))

wider : (xs : List ℕ) → AllByRecursion (λ b. b < 128) xs → AllByRecursion (λ b. b < 256) xs
wider [] all = tt
wider (x ∷ xs) all = ((let low = all.0 in omega (arith, low)), wider xs all.1)

place_is : IsPlace place
place_is = record {
  path = record { short = refl; ends = refl };
  bytes = small_bytes 256 (codes "live") (omega arith, (omega arith, (omega arith, (omega arith, tt))));
  host = All-from_recursion (λ b. IsTrue (is_value_byte b)) (codes "rehearsal") (refl, (refl, (refl, (refl, (refl, (refl, (refl, (refl, (refl, tt)))))))));
  few = omega arith;
  port = omega arith;
}

name_by : (b : List ℕ) → AllByRecursion (λ c. c < 128) b → utf8_valid_len b ≡ length b
name_by b all = utf8_valid_len-IsUtf8 b (IsUtf8-from_ascii b (low_bytes 128 b (omega arith) all))

name_video : is_name (codes "video") ≡ true
unfolding is_name first_wrong
name_video = ap (λ (n : ℕ). min 5 n == 5) (name_by (codes "video") video_bytes)

name_audio : is_name (codes "audio") ≡ true
unfolding is_name first_wrong
name_audio = ap (λ (n : ℕ). min 5 n == 5) (name_by (codes "audio") audio_bytes)

some_narrow : (n : ℕ) → n < 2 ^ 32 → IsNarrowOption (Some n)
some_narrow n low x is = let same : n ≡ x = cc in omega (arith, low, same)

none_narrow : IsNarrowOption None
none_narrow x is = absurd (cc)

video_narrow : (bitrate width height : ℕ) → bitrate < 2 ^ 32 → width < 2 ^ 32 → height < 2 ^ 32 → IsNarrowTrack (video bitrate width height)
video_narrow bitrate width height one two three = record {
  name = name_video;
  bitrate = one;
  timescale = omega arith;
  private = low_bytes 256 (0 ∷ 0 ∷ 0 ∷ 1 ∷ 103 ∷ 66 ∷ []) (omega arith) (omega arith, (omega arith, (omega arith, (omega arith, (omega arith, (omega arith, tt))))));
  numbers = record {
    width = some_narrow width two;
    height = some_narrow height three;
    tag = none_narrow;
    channels = none_narrow;
    rate = none_narrow;
    bits = none_narrow;
    packet = none_narrow;
  };
}

audio_narrow : IsNarrowTrack audio
audio_narrow = record {
  name = name_audio;
  bitrate = omega arith;
  timescale = omega arith;
  private = low_bytes 256 (18 ∷ 16 ∷ []) (omega arith) (omega arith, (omega arith, tt));
  numbers = record {
    width = none_narrow;
    height = none_narrow;
    tag = some_narrow 255 (omega arith);
    channels = some_narrow 2 (omega arith);
    rate = some_narrow 44100 (omega arith);
    bits = some_narrow 16 (omega arith);
    packet = some_narrow 4 (omega arith);
  };
}

tracks_narrow : All IsNarrowTrack channel
tracks_narrow = All-from_recursion IsNarrowTrack channel
    (video_narrow 350000 640 360 (omega arith) (omega arith) (omega arith), (video_narrow 700000 1280 720 (omega arith) (omega arith) (omega arith), (audio_narrow, tt)))

is_stream : (name : List ℕ) → (name ≡ codes "video") ⊎ (name ≡ codes "audio") → IsStream channel name
is_stream name (inl is) = subst (IsStream channel) (sym is) (record { bytes = small_bytes 256 (codes "video") (wider (codes "video") video_bytes); track = refl })
is_stream name (inr is) = subst (IsStream channel) (sym is) (record { bytes = small_bytes 256 (codes "audio") (wider (codes "audio") audio_bytes); track = refl })

-- ---- how many times are listed

chosen_short : (b : Bool) (n : ℕ) (xs ys : List (ℕ × ℕ)) → length xs ≤ n → length ys ≤ n → length (if b then xs else ys) ≤ n
chosen_short true n xs ys one two = one
chosen_short false n xs ys one two = two

passing_short : (p : ℕ × ℕ → Bool) (xs : List (ℕ × ℕ)) → length (filter p xs) ≤ length xs
passing_short p [] = omega arith
passing_short p (x ∷ xs) = let rest = passing_short p xs in chosen_short (p x) (suc (length xs)) (x ∷ filter p xs) (filter p xs) (omega arith) (omega arith)

entry_short : (t d : ℕ) (xs : List (ℕ × ℕ)) → length (with_entry t d xs) ≤ suc (length xs)
entry_short t d [] = omega arith
entry_short t d (x ∷ xs) =
    let rest = entry_short t d xs in
    chosen_short (nat_lt t x.0) (suc (suc (length xs))) ((t, d) ∷ x ∷ xs) (if x.0 == t then x ∷ xs else x ∷ with_entry t d xs) (omega arith)
    (chosen_short (x.0 == t) (suc (suc (length xs))) (x ∷ xs) (x ∷ with_entry t d xs) (omega arith) (omega arith))

times_short : (s : List ℕ) (ts : List (ℕ × ℕ)) (adds : List Add) → length (times_from s ts adds) ≤ length ts + length adds
times_short s ts [] = omega arith
times_short s ts (a ∷ adds) =
    let more = if is_same a.address.stream s then with_entry a.address.time a.duration ts else ts in
    let one : length more ≤ suc (length ts) =
    chosen_short (is_same a.address.stream s) (suc (length ts)) (with_entry a.address.time a.duration ts) ts (entry_short a.address.time a.duration ts) (omega arith) in
    omega (arith, times_short s more adds, one)

adds_short : (place : ℕ) (log : List Entry) → length (adds_from place log) ≤ length log
adds_short place [] = omega arith
adds_short place (Declare tracks ∷ log) = omega (arith, adds_short (suc place) log)
adds_short place (Keep f ∷ log) = omega (arith, adds_short (suc place) log)

by_short : (declared : Option (List Track)) (adds : List Add) (s : List ℕ) → length (listed_by declared adds s) ≤ length adds
by_short None adds s = omega arith
by_short (Some tracks) adds s = omega (arith, passing_short (is_listed tracks adds s) (times_of s adds), times_short s [] adds)

-- ---- each moment

moment : (n : ℕ) → 0 < n → n ≤ 2000 → IsSound (log_of n) → IsMoment channel (log_of n)
moment zero some few sound = absurd (omega (arith, some))
moment (suc n) some few sound = record {
  sound = sound;
  channel_is = refl;
  few = λ s. omega (arith, by_short (channel_of (log_of (suc n))) (adds_of (log_of (suc n))) s, adds_short 0 (log_of (suc n)), length_log (suc n), few);
}

grown : (log last : List Entry) (xs : List Exchange) → AnsweredFrom log xs last → length log ≤ length last
grown log last [] (more, is) = let len = length-append log more in let same = ap (λ (l : List Entry). length l) is in omega (arith, len, same)
grown log last (x ∷ xs) (more, from, rest) = let len = length-append log more in omega (arith, len, grown (log ++ more) last xs rest)

-- where nothing is kept meanwhile, each moment is this one
always : (log last : List Entry) (xs : List Exchange) → IsMoment channel log → length last ≤ length log → AnsweredFrom log xs last → AnsweredBy channel log xs last
always log last [] now short (more, is) = (more, is)
always log last (x ∷ xs) now short (more, from, rest) =
    let len = grown (log ++ more) last xs rest in
    let same = same_log log more (omega (arith, len, short)) in
    let again : IsMoment channel (log ++ more) = subst (IsMoment channel) (sym same) now in
    (more, again, from, always (log ++ more) last xs again (let long = length-append log more in omega (arith, long, short)) rest)

-- ---- an origin that serves a client

pub serves_client : (name : List ℕ) (count : ℕ) (last : List Entry) (xs : List Exchange) → (name ≡ codes "video") ⊎ (name ≡ codes "audio") → 0 < count → count ≤ 2000
    → IsSound (log_of count) → length last ≡ entries_after count → AnsweredFrom (log_of count) xs last → Serves (plan_of name count) channel (log_of count) last xs
serves_client name count last xs which some few sound len answered = record {
  place = place_is;
  tracks = tracks_narrow;
  streams = (is_stream name which, tt);
  answered = always (log_of count) last xs (moment count some few sound) (let was = length_log count in omega (arith, was, len)) answered;
}
