-- What holds of logs.
use Rattle.std.proofs.Common.{◌≡◌, ◌<◌, ◌+◌, ◌^◌, ℕ, suc, Bool, true, false, cond, eqb, filter, ◌≤◌, List, [], ◌∷◌, ◌++◌, Contains, if◌then◌else◌}
use Rattle.std.proofs.lemmas.List.Elements.{Contains-append_right}
use Rattle.std.proofs.Common.{length, map, Option, Some, None, refl, sym, ap, subst, ◌∙◌, ◌⊎◌, inl, inr, AllPairs, append_assoc, append-nil, arith}
use Rattle.std.proofs.lemmas.Bool.{eq-eqb, and_from}
use Rattle.std.proofs.lemmas.List.{length-append, map-append}
use Rattle.std.proofs.lemmas.Slice.Eq.{bytes_eq-Decides}
use Rattle.std.specs.Option.{option_map}
use Rattle.sm_model.specs.declared.address.Address.{Address}
use Rattle.sm_model.specs.declared.entry.Entry.{Entry}
use Rattle.sm_model.specs.declared.entry.Entry.TheVariants.{Declare, Keep}
use Rattle.sm_model.specs.declared.fragment.Fragment.{Fragment}
use Rattle.sm_model.specs.declared.track.Track.{Track}
use Rattle.sm_model.specs.Fragments.{IsValid}
use Rattle.sm_model.specs.Same.{is_same}
use Rattle.sm_log.specs.declared.verdict.Judged.TheVariants as judged
use Rattle.sm_log.specs.Times.{entry_at, AreTimes, do_overlap}
use Rattle.sm_log.specs.Adds.{Add, place_of, times_of, is_listed, listed}
use Rattle.sm_model.specs.Entries.{address_of}
use Rattle.sm_log.specs.Logs.{channel_of, adds_from, adds_of, is_kept_at, kept_from, kept_at, times_in, listed_by, listed_in, verdict_by, FitsBehind, IsSound}
use Rattle.sm_log.specs.Older.{older_verdict_by, OlderFitsBehind, IsOlderSound}
use Rattle.sm_log.specs.Digests.{keeps_of, Digest, digest_of, Extends}
use Rattle.std.specs.List.{AllByRecursion}
use Rattle.sm_log.proofs.Choice.{chosen}
use Rattle.sm_log.proofs.Lists.{no_tail, split_last}
use Rattle.sm_log.proofs.New.{is_new}
use Rattle.sm_log.proofs.AllAdds.{new_declared, apart_more, no_overlaps, listed_stay}
use Rattle.sm_log.proofs.OlderAdds.{older_verdict_new}

-- ---- sound logs

same_pair : (front log : List Entry) (x e : Entry) → front ≡ log → x ≡ e → FitsBehind log e → FitsBehind front x
same_pair front log x e a b fits = subst (λ (l : List Entry). FitsBehind l x) (sym a) (subst (λ (y : Entry). FitsBehind log y) (sym b) fits)

pub sound_push : (log : List Entry) (e : Entry) → IsSound log → FitsBehind log e → length log + 1 < 2 ^ 32 → IsSound (log ++ e ∷ [])
sound_push log e sound fits few = record {
  few = omega (arith, few, length-append log (e ∷ []));
  each = λ front back x eq.
      elim (split_last log front e x back eq) [
        | inl last ↦ same_pair front log x e last.0 last.1 fits
        | inr before ↦ sound.each front before.0 x before.1
      ];
}

pub sound_front : (log more : List Entry) → IsSound (log ++ more) → IsSound log
sound_front log more sound = record {
  few = omega (arith, sound.few, length-append log more);
  each = λ front back x eq. sound.each front (back ++ more) x (ap (λ (l : List Entry). l ++ more) eq ∙ append_assoc front (x ∷ back) more);
}

-- ---- entries behind a log

pub adds_join : (place : ℕ) (log more : List Entry) → adds_from place (log ++ more) ≡ adds_from place log ++ adds_from (place + length log) more
adds_join place [] more = ap (λ (n : ℕ). adds_from n more) (omega arith)
adds_join place (Declare tracks ∷ log) more =
    adds_join (suc place) log more ∙ ap (λ (n : ℕ). adds_from (suc place) log ++ adds_from n more) (omega arith)
adds_join place (Keep f ∷ log) more =
    ap (λ (l : List Add). (record { address = address_of f; duration = f.duration; place = place }) ∷ l)
    (adds_join (suc place) log more ∙ ap (λ (n : ℕ). adds_from (suc place) log ++ adds_from n more) (omega arith))

channel_stays : (x : Entry) (log more : List Entry) → channel_of ((x ∷ log) ++ more) ≡ channel_of (x ∷ log)
channel_stays (Declare tracks) log more = refl
channel_stays (Keep f) log more = refl

-- ---- times are apart

one_more_by : (channel : Option (List Track)) (earlier : List Add) (place : ℕ) (f : Fragment) → IsValid f → verdict_by channel earlier (address_of f) f.duration ≡ judged.New → ((s : List ℕ) → AreTimes (times_of s earlier))
    → (s : List ℕ) → AreTimes (times_of s (earlier ++ (record { address = address_of f; duration = f.duration; place = place }) ∷ []))
one_more_by None earlier place f valid new times s = absurd cc
one_more_by (Some channel) earlier place f valid new times s =
    apart_more channel earlier (record { address = address_of f; duration = f.duration; place = place }) new (valid.lasts, valid.ends) times s

one_more : (earlier : List Entry) (e : Entry) → FitsBehind earlier e → ((s : List ℕ) → AreTimes (times_in earlier s)) → (s : List ℕ) → AreTimes (times_in (earlier ++ e ∷ []) s)
one_more earlier (Declare tracks) fits times s =
    subst (λ (l : List Add). AreTimes (times_of s l)) (sym (adds_join 0 earlier (Declare tracks ∷ []) ∙ append-nil (adds_of earlier))) (times s)
one_more earlier (Keep f) fits times s =
    subst (λ (l : List Add). AreTimes (times_of s l)) (sym (adds_join 0 earlier (Keep f ∷ []))) (one_more_by (channel_of earlier) (adds_of earlier) (0 + length earlier) f fits.0 fits.1 times s)

apart_behind : (earlier more : List Entry) → IsSound (earlier ++ more) → ((s : List ℕ) → AreTimes (times_in earlier s)) → (s : List ℕ) → AreTimes (times_in (earlier ++ more) s)
apart_behind earlier [] sound times s = subst (λ (l : List Entry). AreTimes (times_in l s)) (sym (append-nil earlier)) (times s)
apart_behind earlier (e ∷ more) sound times s =
    let joined = append_assoc earlier (e ∷ []) more in
    subst (λ (l : List Entry). AreTimes (times_in l s)) joined (apart_behind (earlier ++ e ∷ []) more (subst IsSound (sym joined) sound) (one_more earlier e (sound.each earlier more e refl) times) s)

pub times_sound : (log : List Entry) (s : List ℕ) → IsSound log → AreTimes (times_in log s)
times_sound log s sound = apart_behind [] log sound (λ _. tt) s

pub apart : (log : List Entry) (s : List ℕ) → IsSound log → AllPairs (λ (a b : ℕ × ℕ). do_overlap a b ≡ false) (times_in log s)
apart log s sound = no_overlaps (times_in log s) (times_sound log s sound)

all_filter : (P : ℕ × ℕ → Type 0) (p : ℕ × ℕ → Bool) (xs : List (ℕ × ℕ)) → AllByRecursion P xs → AllByRecursion P (filter p xs)
all_filter P p [] all = tt
all_filter P p (x ∷ xs) all =
    chosen (p x) (λ l. AllByRecursion P l) (x ∷ filter p xs) (filter p xs) (λ _. (all.0, all_filter P p xs all.1)) (λ _. all_filter P p xs all.1)

times_filter : (p : ℕ × ℕ → Bool) (xs : List (ℕ × ℕ)) → AreTimes xs → AreTimes (filter p xs)
times_filter p [] times = tt
times_filter p (x ∷ xs) times =
    chosen (p x) AreTimes (x ∷ filter p xs) (filter p xs) (λ _. (times.0, all_filter (λ (y : ℕ × ℕ). x.0 + x.1 ≤ y.0) p xs times.1, times_filter p xs times.2)) (λ _. times_filter p xs times.2)

listed_by_times : (channel : Option (List Track)) (adds : List Add) (s : List ℕ) → AreTimes (times_of s adds) → AreTimes (listed_by channel adds s)
listed_by_times None adds s times = tt
listed_by_times (Some channel) adds s times = times_filter (is_listed channel adds s) (times_of s adds) times

pub listed_sound : (log : List Entry) (s : List ℕ) → IsSound log → AreTimes (listed_in log s)
listed_sound log s sound = listed_by_times (channel_of log) (adds_of log) s (times_sound log s sound)

-- ---- older logs

newer_by : (channel : Option (List Track)) (adds : List Add) (x : Address) (d : ℕ) → AreTimes (times_of x.stream adds) → older_verdict_by channel adds x d ≡ judged.New → verdict_by channel adds x d ≡ judged.New
newer_by None adds x d times e = absurd cc
newer_by (Some channel) adds x d times e = older_verdict_new channel adds x d times e

newer : (earlier : List Entry) (e : Entry) → IsSound earlier → OlderFitsBehind earlier e → FitsBehind earlier e
newer earlier (Declare tracks) sound fits = fits
newer earlier (Keep f) sound fits =
    (fits.0, newer_by (channel_of earlier) (adds_of earlier) (address_of f) f.duration (times_sound earlier f.stream sound) fits.1)

older_behind : (earlier more : List Entry) → IsOlderSound (earlier ++ more) → IsSound earlier → IsSound (earlier ++ more)
older_behind earlier [] older sound = subst IsSound (sym (append-nil earlier)) sound
older_behind earlier (e ∷ more) older sound =
    let joined = append_assoc earlier (e ∷ []) more in
    let few : length earlier + 1 < 2 ^ 32 = omega (arith, older.few, length-append earlier (e ∷ more)) in
    let fits = newer earlier e sound (older.each earlier more e refl) in
    subst IsSound joined (older_behind (earlier ++ e ∷ []) more (subst IsOlderSound (sym joined) older) (sound_push earlier e sound fits few))

pub empty_sound : IsSound []
empty_sound = record { few = omega arith; each = λ front back e eq. absurd (no_tail front e back eq) }

pub older_sound : (log : List Entry) → IsOlderSound log → IsSound log
older_sound log older = older_behind [] log older empty_sound

-- ---- nothing is taken back

pub listed_in_stays : (log more : List Entry) (s : List ℕ) (t d : ℕ) → entry_at t (listed_in log s) ≡ Some d → entry_at t (listed_in (log ++ more) s) ≡ Some d
listed_in_stays [] more s t d e = absurd cc
listed_in_stays (Declare tracks ∷ log) more s t d e =
    let joined = adds_join 0 (Declare tracks ∷ log) more in
    subst (λ (l : List Add). entry_at t (listed tracks l s) ≡ Some d) (sym joined) (listed_stay tracks (adds_of (Declare tracks ∷ log)) (adds_from (0 + length (Declare tracks ∷ log)) more) s t d e)
listed_in_stays (Keep f ∷ log) more s t d e = absurd cc

pub kept_stays : (a : Address) (place : ℕ) (log more : List Entry) (k : ℕ × Fragment) → kept_from a place log ≡ Some k → kept_from a place (log ++ more) ≡ Some k
kept_stays a place [] more k e = absurd cc
kept_stays a place (Declare tracks ∷ log) more k e = kept_stays a (suc place) log more k e
kept_stays a place (Keep f ∷ log) more k e = by_test (is_kept_at a f) e (λ h. kept_stays a (suc place) log more k h)
  where
    by_test : (b : Bool) → cond b (Some (place, f)) (kept_from a (suc place) log) ≡ Some k → (kept_from a (suc place) log ≡ Some k → kept_from a (suc place) (log ++ more) ≡ Some k)
        → cond b (Some (place, f)) (kept_from a (suc place) (log ++ more)) ≡ Some k
    by_test true e rest = e
    by_test false e rest = rest e

-- ---- what is kept was added

abbrev place_in : Option (ℕ × Fragment) → Option ℕ
place_in kept = option_map (λ (k : ℕ × Fragment). k.0) kept

pub kept_place : (a : Address) (place : ℕ) (log : List Entry) → place_of a (adds_from place log) ≡ place_in (kept_from a place log)
kept_place a place [] = refl
kept_place a place (Declare tracks ∷ log) = kept_place a (suc place) log
kept_place a place (Keep f ∷ log) = by_test (is_kept_at a f) (kept_place a (suc place) log)
  where
    by_test : (b : Bool) → place_of a (adds_from (suc place) log) ≡ place_in (kept_from a (suc place) log)
        → cond b (Some place) (place_of a (adds_from (suc place) log)) ≡ place_in (cond b (Some (place, f)) (kept_from a (suc place) log))
    by_test true rest = refl
    by_test false rest = rest

none_kept : (o : Option (ℕ × Fragment)) → place_in o ≡ None → o ≡ None
none_kept None e = refl
none_kept (Some k) e = absurd cc

kept_behind : (a : Address) (place : ℕ) (log more : List Entry) → kept_from a place log ≡ None → kept_from a place (log ++ more) ≡ kept_from a (place + length log) more
kept_behind a place [] more e = ap (λ (n : ℕ). kept_from a n more) (omega arith)
kept_behind a place (Declare tracks ∷ log) more e =
    kept_behind a (suc place) log more e ∙ ap (λ (n : ℕ). kept_from a n more) (omega arith)
kept_behind a place (Keep f ∷ log) more e = by_test (is_kept_at a f) e (λ h. kept_behind a (suc place) log more h ∙ ap (λ (n : ℕ). kept_from a n more) (omega arith))
  where
    by_test : (b : Bool) → cond b (Some (place, f)) (kept_from a (suc place) log) ≡ None → (kept_from a (suc place) log ≡ None → kept_from a (suc place) (log ++ more) ≡ kept_from a (place + suc (length log)) more)
        → cond b (Some (place, f)) (kept_from a (suc place) (log ++ more)) ≡ kept_from a (place + suc (length log)) more
    by_test true e rest = absurd cc
    by_test false e rest = rest e

not_yet_by : (channel : Option (List Track)) (adds : List Add) (x : Address) (d : ℕ) → verdict_by channel adds x d ≡ judged.New → place_of x adds ≡ None
not_yet_by None adds x d e = absurd cc
not_yet_by (Some channel) adds x d e = (is_new channel adds x d (new_declared channel adds x d e) e).free

at_itself : (f : Fragment) → is_kept_at (address_of f) f ≡ true
at_itself f = and_from (is_same f.stream f.stream) _ ((bytes_eq-Decides f.stream f.stream).1 refl) (and_from (eqb f.bitrate f.bitrate) _ (eq-eqb f.bitrate f.bitrate refl) (eq-eqb f.time f.time refl))

pub kept_once : (front back : List Entry) (f : Fragment) → IsSound (front ++ Keep f ∷ back) → kept_at (front ++ Keep f ∷ back) (address_of f) ≡ Some (length front, f)
kept_once front back f sound =
    let fits = sound.each front back (Keep f) refl in
    let free = not_yet_by (channel_of front) (adds_of front) (address_of f) f.duration fits.1 in
    let none = none_kept (kept_at front (address_of f)) (sym (kept_place (address_of f) 0 front) ∙ free) in
    kept_behind (address_of f) 0 front (Keep f ∷ back) none ∙ rw at_itself (ap (λ (n : ℕ). Some (n, f)) (omega arith))

-- ---- digests

pub extends_itself : (d : Digest) → Extends d d
extends_itself d = record { channel = inr refl; adds = ([], sym (append-nil d.adds)) }

channels_through : (a b c : Option (List Track)) → (b ≡ None) ⊎ (a ≡ b) → (c ≡ None) ⊎ (b ≡ c) → (c ≡ None) ⊎ (a ≡ c)
channels_through a b c x (inl none) = inl none
channels_through a b c (inl none) (inr e) = inl (sym e ∙ none)
channels_through a b c (inr f) (inr e) = inr (f ∙ e)

pub extends_through : (a b c : Digest) → Extends a b → Extends b c → Extends a c
extends_through a b c x y = record {
  channel = channels_through a.channel b.channel c.channel x.channel y.channel;
  adds = (y.adds.0 ++ x.adds.0, x.adds.1 ∙ ap (λ (l : List (Address × ℕ)). l ++ x.adds.0) y.adds.1 ∙ append_assoc c.adds y.adds.0 x.adds.0);
}

keeps_join : (log more : List Entry) → keeps_of (log ++ more) ≡ keeps_of log ++ keeps_of more
keeps_join [] more = refl
keeps_join (Declare tracks ∷ log) more = keeps_join log more
keeps_join (Keep f ∷ log) more = ap (λ (l : List Fragment). f ∷ l) (keeps_join log more)

channel_grows : (log more : List Entry) → (channel_of log ≡ None) ⊎ (channel_of (log ++ more) ≡ channel_of log)
channel_grows [] more = inl refl
channel_grows (x ∷ log) more = inr (channel_stays x log more)

abbrev told : Fragment → Address × ℕ
told f = (address_of f, f.duration)

pub digest_grows : (log more : List Entry) → Extends (digest_of (log ++ more)) (digest_of log)
digest_grows log more = record {
  channel = channel_grows log more;
  adds = (map told (keeps_of more), ap (map told) (keeps_join log more) ∙ map-append told (keeps_of log) (keeps_of more));
}

-- what is kept at an address stands in the log
behind : (e : Entry) (log : List Entry) (x : Entry) → Contains log x → Contains (e ∷ log) x
behind e log x there = Contains-append_right (e ∷ []) log x there

pub kept_there : (a : Address) (place : ℕ) (log : List Entry) (k : ℕ × Fragment) → kept_from a place log ≡ Some k → Contains log (Keep k.1)
kept_there a place [] k is = absurd (cc)
kept_there a place (Declare tracks ∷ log) k is = behind (Declare tracks) log (Keep k.1) (kept_there a (suc place) log k is)
kept_there a place (Keep f ∷ log) k is = go (is_kept_at a f) (λ e. kept_there a (suc place) log k e) is
  where
    go : (b : Bool) → (kept_from a (suc place) log ≡ Some k → Contains log (Keep k.1)) → (if b then Some (place, f) else kept_from a (suc place) log) ≡ Some k → Contains (Keep f ∷ log) (Keep k.1)
    go true rest e = let same : (let p : ℕ × Fragment = (place, f) in p) ≡ k = cc in (0, omega arith, ap (λ (p : ℕ × Fragment). Keep p.1) same)
    go false rest e = behind (Keep f) log (Keep k.1) (rest e)
