-- What is listed is kept, and can be written.
use Rattle.std.proofs.Common.{◌≡◌, ◌<◌, ◌≤◌, ◌+◌, ◌^◌, ◌&&◌, ℕ, zero, suc, Bool, true, false, cond, eqb, ltb, List, [], ◌∷◌, ◌++◌, filter, length, Option, Some, None, is_some, All, refl, sym, ap, subst, ◌∙◌, arith}
use Rattle.std.specs.List.{AllByRecursion, list_all, slice_get}
use Rattle.std.specs.Option.{option_map}
use Rattle.std.proofs.lemmas.Bool.{eqb-true, and_parts}
use Rattle.std.proofs.lemmas.List.Elements.{All-from_recursion}
use Rattle.std.proofs.lemmas.Slice.Eq.{bytes_eq-Decides}
use Rattle.sm_model.specs.declared.address.Address.{Address}
use Rattle.sm_model.specs.declared.entry.Entry.{Entry}
use Rattle.sm_model.specs.declared.entry.Entry.TheVariants.{Declare, Keep}
use Rattle.sm_model.specs.declared.fragment.Fragment.{Fragment}
use Rattle.sm_model.specs.declared.track.Track.{Track}
use Rattle.sm_model.specs.Channels.{IsChannel}
use Rattle.sm_model.specs.Entries.{address_of}
use Rattle.sm_model.specs.Fragments.{IsValid, IsWide}
use Rattle.sm_model.specs.Same.{is_same}
use Rattle.sm_log.specs.Times.{entry_at, with_entry, AreTimes, IsSpan}
use Rattle.sm_log.specs.Adds.{Add, track_at, is_declared, tracks_of, place_of, times_from, times_of, is_kept, is_listed, listed, starting, two_from, behind}
use Rattle.sm_log.specs.Logs.{channel_of, adds_from, adds_of, is_kept_at, kept_from, kept_at, times_in, listed_by, listed_in, ahead_in, IsSound}
use Rattle.sm_log.proofs.Choice.{chosen}
use Rattle.sm_log.proofs.Entries.{entry_has}
use Rattle.sm_log.proofs.Snoc.{sorted_times_from}
use Rattle.sm_log.proofs.AllAdds.{filter_entry}
use Rattle.sm_log.proofs.AllLogs.{listed_sound, kept_place}

-- ---- what is listed is kept

-- each track of the stream is kept at that time, so the declared one is
declared_kept : (channel : List Track) (adds : List Add) (a : Address) → is_some (track_at a.stream a.bitrate channel) ≡ true → list_all (is_kept adds a.stream a.time) (tracks_of a.stream channel) ≡ true
    → is_some (place_of a adds) ≡ true
declared_kept [] adds a declared all = absurd cc
declared_kept (t ∷ ts) adds a declared all = by_test (is_same t.name a.stream) (eqb t.bitrate a.bitrate) refl declared all (λ d k. declared_kept ts adds a d k)
  where
    at_bitrate : ℕ → Bool
    at_bitrate b = is_some (place_of (record { stream = a.stream; bitrate = b; time = a.time }) adds)

    by_test : (b c : Bool) → eqb t.bitrate a.bitrate ≡ c → is_some (cond (b && c) (Some t) (track_at a.stream a.bitrate ts)) ≡ true
        → list_all (is_kept adds a.stream a.time) (cond b (t ∷ tracks_of a.stream ts) (tracks_of a.stream ts)) ≡ true
        → (is_some (track_at a.stream a.bitrate ts) ≡ true → list_all (is_kept adds a.stream a.time) (tracks_of a.stream ts) ≡ true → is_some (place_of a adds) ≡ true)
        → is_some (place_of a adds) ≡ true
    by_test true true is d k rest =
        let parts = and_parts (at_bitrate t.bitrate) (list_all (is_kept adds a.stream a.time) (tracks_of a.stream ts)) k in
        sym (ap at_bitrate (eqb-true t.bitrate a.bitrate is)) ∙ parts.0
    by_test true false is d k rest =
        let parts = and_parts (at_bitrate t.bitrate) (list_all (is_kept adds a.stream a.time) (tracks_of a.stream ts)) k in rest d parts.1
    by_test false c is d k rest = rest d k

some_value : (o : Option ℕ) → is_some o ≡ true → (d : ℕ) × (o ≡ Some d)
some_value None e = absurd cc
some_value (Some d) e = (d, refl)

listed_kept_by : (channel : List Track) (adds : List Add) (a : Address) → is_declared channel a ≡ true → is_some (entry_at a.time (listed channel adds a.stream)) ≡ true → is_some (place_of a adds) ≡ true
listed_kept_by channel adds a declared there =
    let entry = some_value (entry_at a.time (listed channel adds a.stream)) there in
    let was = filter_entry (is_listed channel adds a.stream) a.time entry.0 (times_of a.stream adds) (sorted_times_from a.stream [] adds tt) entry.1 in
    declared_kept channel adds a declared was.1

same_some : (o : Option (ℕ × Fragment)) → is_some (option_map (λ (k : ℕ × Fragment). k.0) o) ≡ is_some o
same_some None = refl
same_some (Some k) = refl

pub listed_kept : (log : List Entry) (channel : List Track) (a : Address) → channel_of log ≡ Some channel → is_declared channel a ≡ true
    → is_some (entry_at a.time (listed_in log a.stream)) ≡ true → is_some (kept_at log a) ≡ true
listed_kept log channel a is declared there =
    let here : is_some (entry_at a.time (listed channel (adds_of log) a.stream)) ≡ true = sym (ap (λ (c : Option (List Track)). is_some (entry_at a.time (listed_by c (adds_of log) a.stream))) is) ∙ there in
    sym (same_some (kept_at log a)) ∙ sym (ap is_some (kept_place a 0 log)) ∙ listed_kept_by channel (adds_of log) a declared here

-- ---- a sound log can be listed

pub channel_sound : (log : List Entry) (channel : List Track) → IsSound log → channel_of log ≡ Some channel → IsChannel channel
channel_sound [] channel sound e = absurd cc
channel_sound (Declare tracks ∷ log) channel sound e =
    let same : tracks ≡ channel = cc in subst IsChannel same (sound.each [] log (Declare tracks) refl).1
channel_sound (Keep f ∷ log) channel sound e = absurd cc

spans_of : (ts : List (ℕ × ℕ)) → AreTimes ts → AllByRecursion IsSpan ts
spans_of [] times = tt
spans_of (x ∷ ts) times = (times.0, spans_of ts times.2)

pub spans_sound : (log : List Entry) (s : List ℕ) → IsSound log → All IsSpan (listed_in log s)
spans_sound log s sound = All-from_recursion IsSpan (listed_in log s) (spans_of (listed_in log s) (listed_sound log s sound))

filter_short : (p : ℕ × ℕ → Bool) (xs : List (ℕ × ℕ)) → length (filter p xs) ≤ length xs
filter_short p [] = omega arith
filter_short p (x ∷ xs) =
    chosen (p x) (λ l. length l ≤ suc (length xs)) (x ∷ filter p xs) (filter p xs) (λ _. omega (arith, filter_short p xs)) (λ _. omega (arith, filter_short p xs))

with_short : (t d : ℕ) (xs : List (ℕ × ℕ)) → length (with_entry t d xs) ≤ suc (length xs)
with_short t d [] = omega arith
with_short t d (x ∷ xs) =
    chosen (ltb t x.0) (λ l. length l ≤ suc (suc (length xs))) ((t, d) ∷ x ∷ xs) (cond (eqb x.0 t) (x ∷ xs) (x ∷ with_entry t d xs)) (λ _. omega arith)
    (λ _. chosen (eqb x.0 t) (λ l. length l ≤ suc (suc (length xs))) (x ∷ xs) (x ∷ with_entry t d xs) (λ _. omega arith) (λ _. omega (arith, with_short t d xs)))

times_short : (s : List ℕ) (ts : List (ℕ × ℕ)) (adds : List Add) → length (times_from s ts adds) ≤ length ts + length adds
times_short s ts [] = omega arith
times_short s ts (a ∷ adds) =
    let more = cond (is_same a.address.stream s) (with_entry a.address.time a.duration ts) ts in
    let one : length more ≤ suc (length ts) = chosen (is_same a.address.stream s) (λ l. length l ≤ suc (length ts)) (with_entry a.address.time a.duration ts) ts (λ _. with_short a.address.time a.duration ts) (λ _. omega arith) in
    omega (arith, times_short s more adds, one)

adds_short : (place : ℕ) (log : List Entry) → length (adds_from place log) ≤ length log
adds_short place [] = omega arith
adds_short place (Declare tracks ∷ log) = omega (arith, adds_short (suc place) log)
adds_short place (Keep f ∷ log) = omega (arith, adds_short (suc place) log)

listed_short : (channel : Option (List Track)) (adds : List Add) (s : List ℕ) → length (listed_by channel adds s) ≤ length adds
listed_short None adds s = omega arith
listed_short (Some channel) adds s = omega (arith, filter_short (is_listed channel adds s) (times_of s adds), times_short s [] adds)

pub few_sound : (log : List Entry) (s : List ℕ) → IsSound log → length (listed_in log s) < 2 ^ 64
few_sound log s sound = omega (arith, listed_short (channel_of log) (adds_of log) s, adds_short 0 log, sound.few)

-- ---- what is ahead is listed

abbrev IsOf : List (ℕ × ℕ) → ℕ × ℕ → Type 0
IsOf times x = entry_at x.0 times ≡ Some x.1

starting_all : (P : ℕ × ℕ → Type 0) (start : ℕ) (o : Option ℕ) (rest : ℕ → List (ℕ × ℕ)) → ((d : ℕ) → o ≡ Some d → P (start, d))
    → ((next : ℕ) → AllByRecursion P (rest next)) → AllByRecursion P (starting start o rest)
starting_all P start None rest first others = tt
starting_all P start (Some d) rest first others = (first d refl, others (start + d))

two_all : (times : List (ℕ × ℕ)) (start : ℕ) → AllByRecursion (IsOf times) (two_from times start)
two_all times start =
    starting_all (IsOf times) start (entry_at start times) (λ next. starting next (entry_at next times) (λ _. [])) (λ d e. e)
    (λ next. starting_all (IsOf times) next (entry_at next times) (λ _. []) (λ d e. e) (λ _. tt))

behind_all : (times : List (ℕ × ℕ)) (start : ℕ) (o : Option ℕ) → AllByRecursion (IsOf times) (behind times start o)
behind_all times start None = tt
behind_all times start (Some d) = two_all times (start + d)

all_at : {X : Type 0} (P : X → Type 0) (xs : List X) (i : ℕ) (x : X) → AllByRecursion P xs → slice_get xs i ≡ Some x → P x
all_at P [] i x all e = absurd cc
all_at P (y ∷ ys) zero x all e = let same : y ≡ x = cc in subst P same all.0
all_at P (y ∷ ys) (suc i) x all e = all_at P ys i x all.1 e

pub ahead_listed : (log : List Entry) (s : List ℕ) (start i t d : ℕ) → slice_get (ahead_in log s start) i ≡ Some (t, d) → entry_at t (listed_in log s) ≡ Some d
ahead_listed log s start i t d e =
    all_at (IsOf (listed_in log s)) (ahead_in log s start) i (t, d) (behind_all (listed_in log s) start (entry_at start (times_in log s))) e

each_of : (P Q : ℕ × ℕ → Type 0) (xs : List (ℕ × ℕ)) → ((x : ℕ × ℕ) → P x → Q x) → AllByRecursion P xs → AllByRecursion Q xs
each_of P Q [] f all = tt
each_of P Q (x ∷ xs) f all = (f x all.0, each_of P Q xs f all.1)

wide_span : (x : ℕ × ℕ) → IsSpan x → IsWide x
wide_span x span = (omega (arith, span.1), omega (arith, span.1))

pub ahead_wide : (log : List Entry) (s : List ℕ) (start : ℕ) → IsSound log → All IsWide (ahead_in log s start)
ahead_wide log s start sound =
    let times = listed_in log s in
    let spans = spans_of times (listed_sound log s sound) in
    All-from_recursion IsWide (ahead_in log s start) (each_of (IsOf times) IsWide (ahead_in log s start) (λ x e. wide_span x (entry_has IsSpan x.0 x.1 times spans e)) (behind_all times start (entry_at start (times_in log s))))

starting_short : (start n : ℕ) (o : Option ℕ) (rest : ℕ → List (ℕ × ℕ)) → ((next : ℕ) → length (rest next) ≤ n) → length (starting start o rest) ≤ suc n
starting_short start n None rest short = omega arith
starting_short start n (Some d) rest short = omega (arith, short (start + d))

two_short : (times : List (ℕ × ℕ)) (start : ℕ) → length (two_from times start) ≤ 2
two_short times start =
    starting_short start 1 (entry_at start times) (λ next. starting next (entry_at next times) (λ _. [])) (λ next. starting_short next 0 (entry_at next times) (λ _. []) (λ _. omega arith))

behind_short : (times : List (ℕ × ℕ)) (start : ℕ) (o : Option ℕ) → length (behind times start o) ≤ 2
behind_short times start None = omega arith
behind_short times start (Some d) = two_short times (start + d)

pub ahead_short : (log : List Entry) (s : List ℕ) (start : ℕ) → length (ahead_in log s start) ≤ 2
ahead_short log s start = behind_short (listed_in log s) start (entry_at start (times_in log s))

-- ---- what is kept is an entry of the log

record Splits (a : Address) (log : List Entry) (f : Fragment) : Type 0 where
  front : List Entry
  back : List Entry
  is : log ≡ front ++ Keep f ∷ back
  at : address_of f ≡ a

at_address : (a : Address) (f : Fragment) → is_kept_at a f ≡ true → address_of f ≡ a
at_address a f e =
    let parts = and_parts (is_same f.stream a.stream) (eqb f.bitrate a.bitrate && eqb f.time a.time) e in
    let more = and_parts (eqb f.bitrate a.bitrate) (eqb f.time a.time) parts.1 in
    let stream : f.stream ≡ a.stream = (bytes_eq-Decides f.stream a.stream).0 parts.0 in
    let bitrate = eqb-true f.bitrate a.bitrate more.0 in
    let time = eqb-true f.time a.time more.1 in
    ap (λ (s : List ℕ). record { stream = s; bitrate = f.bitrate; time = f.time }) stream ∙ ap (λ (b : ℕ). record { stream = a.stream; bitrate = b; time = f.time }) bitrate
    ∙ ap (λ (t : ℕ). record { stream = a.stream; bitrate = a.bitrate; time = t }) time

kept_splits : (a : Address) (place : ℕ) (log : List Entry) (k : ℕ × Fragment) → kept_from a place log ≡ Some k → Splits a log k.1
kept_splits a place [] k e = absurd cc
kept_splits a place (Declare tracks ∷ log) k e =
    let rest = kept_splits a (suc place) log k e in
    record { front = Declare tracks ∷ rest.front; back = rest.back; is = ap (λ (l : List Entry). Declare tracks ∷ l) rest.is; at = rest.at }
kept_splits a place (Keep f ∷ log) k e = by_test (is_kept_at a f) refl e (λ h. kept_splits a (suc place) log k h)
  where
    by_test : (b : Bool) → is_kept_at a f ≡ b → cond b (Some (place, f)) (kept_from a (suc place) log) ≡ Some k → (kept_from a (suc place) log ≡ Some k → Splits a log k.1) → Splits a (Keep f ∷ log) k.1
    by_test true is e rest =
        let pair : (place, f) ≡ k = cc in
        let same : f ≡ k.1 = ap (λ (p : ℕ × Fragment). p.1) pair in
        record { front = []; back = log; is = ap (λ (g : Fragment). Keep g ∷ log) same; at = sym (ap address_of same) ∙ at_address a f is }
    by_test false is e rest =
        let later = rest e in
        record { front = Keep f ∷ later.front; back = later.back; is = ap (λ (l : List Entry). Keep f ∷ l) later.is; at = later.at }

pub kept_valid : (log : List Entry) (a : Address) (place : ℕ) (f : Fragment) → IsSound log → kept_at log a ≡ Some (place, f) → IsValid f
kept_valid log a place f sound e =
    let split = kept_splits a 0 log (place, f) e in (sound.each split.front split.back (Keep f) split.is).0

pub kept_address : (log : List Entry) (a : Address) (place : ℕ) (f : Fragment) → kept_at log a ≡ Some (place, f) → address_of f ≡ a
kept_address log a place f e = (kept_splits a 0 log (place, f) e).at
