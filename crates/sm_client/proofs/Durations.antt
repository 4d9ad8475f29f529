-- What is kept at an address lasts as long as its listed time says.
use Rattle.std.proofs.Common.{◌≡◌, ◌+◌, ℕ, zero, suc, Bool, true, false, cond, eqb, List, [], ◌∷◌, ◌++◌, length, Option, Some, None, refl, ap, sym, ◌∙◌, subst, arith}
use Rattle.std.specs.Prelude.{Contains}
use Rattle.std.proofs.lemmas.Bool.{eq-eqb}
use Rattle.std.proofs.lemmas.Slice.Eq.{bytes_eq-Decides}
use Rattle.sm_model.specs.declared.address.Address.{Address}
use Rattle.sm_model.specs.declared.entry.Entry.{Entry}
use Rattle.sm_model.specs.declared.entry.Entry.TheVariants.{Keep}
use Rattle.sm_model.specs.declared.fragment.Fragment.{Fragment}
use Rattle.sm_model.specs.declared.track.Track.{Track}
use Rattle.sm_model.specs.Entries.{address_of}
use Rattle.sm_model.specs.Same.{is_same}
use Rattle.sm_log.specs.declared.verdict.Judged.TheVariants as judged
use Rattle.sm_log.specs.Adds.{Add, is_listed, listed, times_of, times_from}
use Rattle.sm_log.specs.Logs.{adds_from, adds_of, channel_of, listed_by, listed_in, times_in, verdict_by, verdict_on, IsSound}
use Rattle.sm_log.specs.Times.{AreSorted, entry_at, with_entry}
use Rattle.sm_log.proofs.AllAdds.{filter_entry, new_declared}
use Rattle.sm_log.proofs.AllLogs.{adds_join}
use Rattle.sm_log.proofs.Choice.{chosen}
use Rattle.sm_log.proofs.Entries.{or_place, entry_with, sorted_with}
use Rattle.sm_log.proofs.New.{IsNew, is_new}
use Rattle.sm_log.proofs.Snoc.{sorted_times_from}

-- ---- times

times_join : (s : List ℕ) (ts : List (ℕ × ℕ)) (adds more : List Add) → times_from s ts (adds ++ more) ≡ times_from s (times_from s ts adds) more
times_join s ts [] more = refl
times_join s ts (a ∷ adds) more = times_join s (cond (is_same a.address.stream s) (with_entry a.address.time a.duration ts) ts) adds more

kept_first : (b : Bool) (d v : ℕ) → cond b (or_place (Some d) (Some v)) (Some d) ≡ Some d
kept_first true d v = refl
kept_first false d v = refl

times_stay : (s : List ℕ) (t d : ℕ) (ts : List (ℕ × ℕ)) (more : List Add) → AreSorted ts → entry_at t ts ≡ Some d → entry_at t (times_from s ts more) ≡ Some d
times_stay s t d ts [] sorted e = e
times_stay s t d ts (a ∷ more) sorted e =
    let next = cond (is_same a.address.stream s) (with_entry a.address.time a.duration ts) ts in
    let sorted' : AreSorted next = chosen (is_same a.address.stream s) AreSorted (with_entry a.address.time a.duration ts) ts (λ _. sorted_with a.address.time a.duration ts sorted) (λ _. sorted) in
    let still : entry_at t next ≡ Some d = chosen (is_same a.address.stream s) (λ (l : List (ℕ × ℕ)). entry_at t l ≡ Some d) (with_entry a.address.time a.duration ts) ts
    (λ _. entry_with t a.address.time a.duration ts sorted ∙ rw e (kept_first (eqb a.address.time t) d a.duration)) (λ _. e) in
    times_stay s t d next more sorted' still

-- the new one's time, which stands there already with its duration, or not at all
new-entry : (t d : ℕ) (ts : List (ℕ × ℕ)) → AreSorted ts → ((w : ℕ) → entry_at t ts ≡ Some w → w ≡ d) → entry_at t (with_entry t d ts) ≡ Some d
new-entry t d ts sorted value = entry_with t t d ts sorted ∙ (ap (λ b. cond b (or_place (entry_at t ts) (Some d)) (entry_at t ts)) (eq-eqb t t refl) ∙ by (entry_at t ts) refl)
  where
    by : (o : Option ℕ) → entry_at t ts ≡ o → or_place o (Some d) ≡ Some d
    by None e = refl
    by (Some w) e = ap (λ n. Some n) (value w e)

-- ---- logs

record Splits (log : List Entry) (e : Entry) : Type 0 where
  front : List Entry
  back : List Entry
  is : log ≡ front ++ e ∷ back

splits : (log : List Entry) (e : Entry) → Contains log e → Splits log e
splits [] e h = absurd (omega (arith, h.1))
splits (x ∷ log) e (zero, fits, is) = record { front = []; back = log; is = ap (λ (y : Entry). y ∷ log) is }
splits (x ∷ log) e (suc i, fits, is) = let rest = splits log e (i, omega (arith, fits), is) in record { front = x ∷ rest.front; back = rest.back; is = ap (λ (l : List Entry). x ∷ l) rest.is }

fits-new : (channel : Option (List Track)) (adds : List Add) (a : Address) (d : ℕ) → verdict_by channel adds a d ≡ judged.New → IsNew adds a d
fits-new None adds a d e = absurd (cc)
fits-new (Some channel) adds a d e = is_new channel adds a d (new_declared channel adds a d e) e

split-duration : (front back : List Entry) (f : Fragment) → verdict_on front f ≡ judged.New → entry_at f.time (times_in (front ++ Keep f ∷ back) f.stream) ≡ Some f.duration
split-duration front back f e =
    let new = fits-new (channel_of front) (adds_of front) (address_of f) f.duration e in
    let ts = times_of f.stream (adds_of front) in
    let sorted = sorted_times_from f.stream [] (adds_of front) tt in
    let more = adds_from (suc (0 + length front)) back in
    let first : entry_at f.time (with_entry f.time f.duration ts) ≡ Some f.duration = new-entry f.time f.duration ts sorted new.value in
    let all : entry_at f.time (times_from f.stream (with_entry f.time f.duration ts) more) ≡ Some f.duration =
    times_stay f.stream f.time f.duration (with_entry f.time f.duration ts) more (sorted_with f.time f.duration ts sorted) first in
    let one : Add = record { address = address_of f; duration = f.duration; place = 0 + length front } in
    let joined : times_in (front ++ Keep f ∷ back) f.stream ≡ times_from f.stream ts (one ∷ more) =
    ap (times_from f.stream []) (adds_join 0 front (Keep f ∷ back)) ∙ times_join f.stream [] (adds_of front) (one ∷ more) in
    let same : is_same f.stream f.stream ≡ true = (bytes_eq-Decides f.stream f.stream).1 refl in
    ap (entry_at f.time) joined ∙ (ap (λ b. entry_at f.time (times_from f.stream (cond b (with_entry f.time f.duration ts) ts) more)) same ∙ all)

kept-duration : (log : List Entry) (a : Address) (f : Fragment) → IsSound log → Contains log (Keep f) → address_of f ≡ a → entry_at a.time (times_in log a.stream) ≡ Some f.duration
kept-duration log a f sound kept at =
    let s = splits log (Keep f) kept in
    let there : entry_at f.time (times_in log f.stream) ≡ Some f.duration =
    ap (λ (l : List Entry). entry_at f.time (times_in l f.stream)) s.is ∙ split-duration s.front s.back f (sound.each s.front s.back (Keep f) s.is).1 in
    subst (λ (b : Address). entry_at b.time (times_in log b.stream) ≡ Some f.duration) at there

-- the duration of a listed time is that of what is kept there
pub listed-duration : (log : List Entry) (channel : List Track) (a : Address) (f : Fragment) (d : ℕ) → IsSound log → channel_of log ≡ Some channel → Contains log (Keep f) → address_of f ≡ a
    → entry_at a.time (listed_in log a.stream) ≡ Some d → f.duration ≡ d
listed-duration log channel a f d sound is kept at there =
    let here : entry_at a.time (listed channel (adds_of log) a.stream) ≡ Some d = sym (ap (λ (c : Option (List Track)). entry_at a.time (listed_by c (adds_of log) a.stream)) is) ∙ there in
    let was = filter_entry (is_listed channel (adds_of log) a.stream) a.time d (times_of a.stream (adds_of log)) (sorted_times_from a.stream [] (adds_of log) tt) here in
    let both : Some f.duration ≡ Some d = sym (kept-duration log a f sound kept at) ∙ was.0 in cc
