-- What another log keeps is new behind a log whose Keeps it keeps too.
use Rattle.std.proofs.Common.{◌≡◌, ◌≤◌, ◌+◌, ℕ, zero, suc, Bool, true, false, cond, eqb, List, [], ◌∷◌, ◌++◌, length, Option, Some, None, refl, ap, sym, ◌∙◌, subst, append_assoc, arith}
use Rattle.std.specs.Prelude.{Contains}
use Rattle.std.specs.List.{AllByRecursion}
use Rattle.std.proofs.lemmas.Bool.{eqb-true, eqb-false, eq-eqb}
use Rattle.std.proofs.lemmas.Slice.Eq.{bytes_eq-Decides}
use Rattle.sm_model.specs.declared.address.Address.{Address}
use Rattle.sm_model.specs.declared.entry.Entry.{Entry}
use Rattle.sm_model.specs.declared.entry.Entry.TheVariants.{Declare, Keep}
use Rattle.sm_model.specs.declared.fragment.Fragment.{Fragment}
use Rattle.sm_model.specs.declared.track.Track.{Track}
use Rattle.sm_model.specs.Entries.{address_of}
use Rattle.sm_model.specs.Same.{is_same}
use Rattle.sm_log.specs.declared.verdict.Judged.TheVariants as judged
use Rattle.sm_log.specs.Times.{entry_at, with_entry, overlapped_end, do_overlap, decided, AreSorted, AreTimes}
use Rattle.sm_log.specs.Adds.{Add, is_declared, place_of, times_from, times_of, judged_by}
use Rattle.sm_log.specs.Logs.{channel_of, adds_from, adds_of, kept_at, times_in, verdict_by, verdict_on, IsSound}
use Rattle.sm_log.proofs.Choice.{chosen}
use Rattle.sm_log.proofs.Entries.{all_with, sorted_with, or_place, entry_with, entry_has}
use Rattle.sm_log.proofs.Apart.{not_before, not_behind, passed}
use Rattle.sm_log.proofs.Snoc.{times_snoc, sorted_times_from}
use Rattle.sm_log.proofs.New.{IsNew, is_new}
use Rattle.sm_log.proofs.AllAdds.{new_declared}
use Rattle.sm_log.proofs.AllLogs.{adds_join, times_sound, kept_place, kept_there}
use Rattle.sm_log.proofs.ListedKept.{kept_address}

by_bool : (b : Bool) (P : Bool → Type 0) → (b ≡ true → P true) → (b ≡ false → P false) → P b
by_bool true P so other = so refl
by_bool false P so other = other refl

-- ---- what is kept has its time

times_join : (s : List ℕ) (ts : List (ℕ × ℕ)) (adds more : List Add) → times_from s ts (adds ++ more) ≡ times_from s (times_from s ts adds) more
times_join s ts [] more = refl
times_join s ts (a ∷ adds) more = times_join s (cond (is_same a.address.stream s) (with_entry a.address.time a.duration ts) ts) adds more

some_or : (d v : ℕ) (b : Bool) → cond b (or_place (Some d) (Some v)) (Some d) ≡ Some d
some_or d v true = refl
some_or d v false = refl

times_stay : (s : List ℕ) (t d : ℕ) (ts : List (ℕ × ℕ)) (more : List Add) → AreSorted ts → entry_at t ts ≡ Some d → entry_at t (times_from s ts more) ≡ Some d
times_stay s t d ts [] sorted e = e
times_stay s t d ts (a ∷ more) sorted e =
    let next = cond (is_same a.address.stream s) (with_entry a.address.time a.duration ts) ts in
    let sorted' : AreSorted next = chosen (is_same a.address.stream s) AreSorted (with_entry a.address.time a.duration ts) ts (λ _. sorted_with a.address.time a.duration ts sorted) (λ _. sorted) in
    let still : entry_at t next ≡ Some d = chosen (is_same a.address.stream s) (λ (l : List (ℕ × ℕ)). entry_at t l ≡ Some d) (with_entry a.address.time a.duration ts) ts
    (λ _. entry_with t a.address.time a.duration ts sorted ∙ rw e (some_or d a.duration (eqb a.address.time t))) (λ _. e) in
    times_stay s t d next more sorted' still

value_or : (o : Option ℕ) (d : ℕ) → ((w : ℕ) → o ≡ Some w → w ≡ d) → or_place o (Some d) ≡ Some d
value_or None d value = refl
value_or (Some w) d value = ap (λ (n : ℕ). Some n) (value w refl)

new_by : (channel : Option (List Track)) (adds : List Add) (x : Address) (d : ℕ) → verdict_by channel adds x d ≡ judged.New → IsNew adds x d
new_by None adds x d e = absurd cc
new_by (Some channel) adds x d e = is_new channel adds x d (new_declared channel adds x d e) e

-- behind one that was new its time is there
time_there : (adds : List Add) (a : Add) → IsNew adds a.address a.duration → entry_at a.address.time (times_of a.address.stream (adds ++ a ∷ [])) ≡ Some a.duration
time_there adds a new =
    let s = a.address.stream in
    let t = a.address.time in
    let sorted = sorted_times_from s [] adds tt in
    let same : is_same s s ≡ true = (bytes_eq-Decides s s).1 refl in
    let here : eqb t t ≡ true = eq-eqb t t refl in
    ap (entry_at t) (times_snoc s [] adds a ∙ ap (λ (b : Bool). cond b (with_entry t a.duration (times_of s adds)) (times_of s adds)) same)
    ∙ entry_with t t a.duration (times_of s adds) sorted
    ∙ ap (λ (b : Bool). cond b (or_place (entry_at t (times_of s adds)) (Some a.duration)) (entry_at t (times_of s adds))) here
    ∙ value_or (entry_at t (times_of s adds)) a.duration new.value

kept_in_time : (up front back : List Entry) (f : Fragment) → IsSound up → up ≡ front ++ Keep f ∷ back → entry_at f.time (times_in up f.stream) ≡ Some f.duration
kept_in_time up front back f sound is =
    let fits = sound.each front back (Keep f) is in
    let a : Add = record { address = address_of f; duration = f.duration; place = 0 + length front } in
    let new = new_by (channel_of front) (adds_of front) (address_of f) f.duration fits.1 in
    let there = time_there (adds_of front) a new in
    let more = adds_from (suc (0 + length front)) back in
    let adds : adds_of up ≡ (adds_of front ++ a ∷ []) ++ more = ap adds_of is ∙ adds_join 0 front (Keep f ∷ back) ∙ sym (append_assoc (adds_of front) (a ∷ []) more) in
    let times : times_in up f.stream ≡ times_from f.stream (times_of f.stream (adds_of front ++ a ∷ [])) more = ap (times_of f.stream) adds ∙ times_join f.stream [] (adds_of front ++ a ∷ []) more in
    ap (entry_at f.time) times ∙ times_stay f.stream f.time f.duration (times_of f.stream (adds_of front ++ a ∷ [])) more (sorted_times_from f.stream [] (adds_of front ++ a ∷ []) tt) there

split_at : {A : Type 0} (xs : List A) (x : A) → Contains xs x → (front : List A) × (back : List A) × (xs ≡ front ++ x ∷ back)
split_at [] x (k, lt, e) = absurd (omega (arith, lt))
split_at (y ∷ ys) x (zero, lt, e) = ([], ys, ap (λ z. z ∷ ys) e)
split_at (y ∷ ys) x (suc k, lt, e) = let r = split_at ys x (k, omega (arith, lt), e) in (y ∷ r.0, r.1, ap (λ zs. y ∷ zs) r.2)

pub kept_time : (up : List Entry) (a : Address) (place : ℕ) (f : Fragment) → IsSound up → kept_at up a ≡ Some (place, f) → entry_at a.time (times_in up a.stream) ≡ Some f.duration
kept_time up a place f sound kept =
    let s = split_at up (Keep f) (kept_there a 0 up (place, f) kept) in
    subst (λ (b : Address). entry_at b.time (times_in up b.stream) ≡ Some f.duration) (kept_address up a place f kept) (kept_in_time up s.0 s.1 f sound s.2)

-- ---- what holds of each time

times_have : (P : ℕ × ℕ → Type 0) (s : List ℕ) (place : ℕ) (es : List Entry) (ts : List (ℕ × ℕ)) → AllByRecursion P ts → ((f : Fragment) → Contains es (Keep f) → f.stream ≡ s → P (f.time, f.duration))
    → AllByRecursion P (times_from s ts (adds_from place es))
times_have P s place [] ts all each = all
times_have P s place (Declare tracks ∷ es) ts all each = times_have P s (suc place) es ts all (λ f there. each f (suc there.0, omega (arith, there.1), there.2))
times_have P s place (Keep g ∷ es) ts all each =
    times_have P s (suc place) es (cond (is_same g.stream s) (with_entry g.time g.duration ts) ts)
    (chosen (is_same g.stream s) (AllByRecursion P) (with_entry g.time g.duration ts) ts
    (λ same. all_with P g.time g.duration ts (each g (0, omega arith, refl) ((bytes_eq-Decides g.stream s).0 same)) all) (λ other. all))
    (λ f there. each f (suc there.0, omega (arith, there.1), there.2))

-- ---- times that are apart

apart_entries : (a d b e : ℕ) (us : List (ℕ × ℕ)) → AreTimes us → entry_at a us ≡ Some d → entry_at b us ≡ Some e → (a ≡ b → ⊥) → do_overlap (a, d) (b, e) ≡ false
apart_entries a d b e [] times f g other = absurd cc
apart_entries a d b e (x ∷ xs) times f g other = by_test (eqb x.0 a) (eqb x.0 b) refl refl f g (λ h k. apart_entries a d b e xs times.2 h k other)
  where
    by_test : (p q : Bool) → eqb x.0 a ≡ p → eqb x.0 b ≡ q → cond p (Some x.1) (entry_at a xs) ≡ Some d → cond q (Some x.1) (entry_at b xs) ≡ Some e
        → (entry_at a xs ≡ Some d → entry_at b xs ≡ Some e → do_overlap (a, d) (b, e) ≡ false) → do_overlap (a, d) (b, e) ≡ false
    by_test true true i j h k rest = absurd (other (sym (eqb-true x.0 a i) ∙ eqb-true x.0 b j))
    by_test true false i j h k rest =
        let value : x.1 ≡ d = cc in
        let behind : x.0 + x.1 ≤ b = entry_has (λ (y : ℕ × ℕ). x.0 + x.1 ≤ y.0) b e xs times.1 k in
        let start = eqb-true x.0 a i in
        not_before (a, d) b e (omega (arith, behind, start, value))
    by_test false true i j h k rest =
        let value : x.1 ≡ e = cc in
        let behind : x.0 + x.1 ≤ a = entry_has (λ (y : ℕ × ℕ). x.0 + x.1 ≤ y.0) a d xs times.1 h in
        let start = eqb-true x.0 b j in
        not_behind (a, d) b e (omega (arith, behind, start, value))
    by_test false false i j h k rest = rest h k

-- ---- the verdict

module _ (us : List (ℕ × ℕ)) (times : AreTimes us) (t d : ℕ) (there : entry_at t us ≡ Some d) where
  none_over : (ts : List (ℕ × ℕ)) → AllByRecursion (λ (x : ℕ × ℕ). entry_at x.0 us ≡ Some x.1) ts → entry_at t ts ≡ None → overlapped_end (t, d) ts ≡ None
  none_over [] all none = refl
  none_over (x ∷ xs) all none =
      by_bool (eqb x.0 t) (λ b. eqb x.0 t ≡ b → ◌≡◌ {A = Option ℕ} (cond b (Some x.1) (entry_at t xs)) None → overlapped_end (t, d) (x ∷ xs) ≡ None)
      (λ yes is e. absurd cc)
      (λ off is e. passed x xs t d (apart_entries x.0 x.1 t d us times all.0 there (eqb-false x.0 t is)) ∙ none_over xs all.1 e) refl none

  same_value : (ts : List (ℕ × ℕ)) (k : ℕ) → AllByRecursion (λ (x : ℕ × ℕ). entry_at x.0 us ≡ Some x.1) ts → entry_at t ts ≡ Some k → k ≡ d
  same_value ts k all e = let both : Some k ≡ Some d = sym (entry_has (λ (x : ℕ × ℕ). entry_at x.0 us ≡ Some x.1) t k ts all e) ∙ there in cc

decided_new : (d : ℕ) (o over : Option ℕ) → ((k : ℕ) → o ≡ Some k → k ≡ d) → (o ≡ None → over ≡ None) → judged_by None (decided d o over) ≡ judged.New
decided_new d None over value none = rw (none refl) refl
decided_new d (Some k) over value none = rw (eq-eqb k d (value k refl)) refl

-- each Keep of the log is kept by the other with equal duration
abbrev pub Lasts : List Entry → List Entry → Type 0
Lasts log up = (g : Fragment) → Contains log (Keep g) → (place : ℕ) × (there : Fragment) × (kept_at up (address_of g) ≡ Some (place, there)) × (there.duration ≡ g.duration)

pub new_upstream : (channel : List Track) (log up : List Entry) (f there : Fragment) (place : ℕ) → Lasts log up → IsSound up → channel_of log ≡ Some channel → is_declared channel (address_of f) ≡ true
    → kept_at log (address_of f) ≡ None → kept_at up (address_of f) ≡ Some (place, there) → there.duration ≡ f.duration → verdict_on log f ≡ judged.New
new_upstream channel log up f there place lasts sound channel_is declared none kept duration =
    let us = times_in up f.stream in
    let times = times_sound up f.stream sound in
    let here : entry_at f.time us ≡ Some f.duration = kept_time up (address_of f) place there sound kept ∙ ap (λ (n : ℕ). Some n) duration in
    let all : AllByRecursion (λ (x : ℕ × ℕ). entry_at x.0 us ≡ Some x.1) (times_in log f.stream) =
    times_have (λ (x : ℕ × ℕ). entry_at x.0 us ≡ Some x.1) f.stream 0 log [] tt
    (λ g held same.
    let k = lasts g held in
    subst (λ (s : List ℕ). entry_at g.time (times_in up s) ≡ Some g.duration) same (kept_time up (address_of g) k.0 k.1 sound k.2 ∙ ap (λ (n : ℕ). Some n) k.3)) in
    let free : place_of (address_of f) (adds_of log) ≡ None = kept_place (address_of f) 0 log ∙ rw none refl in
    let judged_new : judged_by None (decided f.duration (entry_at f.time (times_in log f.stream)) (overlapped_end (f.time, f.duration) (times_in log f.stream))) ≡ judged.New =
    decided_new f.duration (entry_at f.time (times_in log f.stream)) (overlapped_end (f.time, f.duration) (times_in log f.stream))
    (λ k e. same_value us times f.time f.duration here (times_in log f.stream) k all e) (none_over us times f.time f.duration here (times_in log f.stream) all) in
    rw (channel_is, declared, free) judged_new
