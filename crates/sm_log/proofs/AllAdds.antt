-- What holds of all that was added.
use Rattle.std.proofs.Common.{◌≡◌, ◌≤◌, ℕ, Bool, true, false, cond, eqb, ltb, List, [], ◌∷◌, ◌++◌, filter, Option, Some, None, is_some, refl, sym, ap, subst, ◌∙◌, ◌⊎◌, inl, inr, AllPairs, arith}
use Rattle.std.proofs.lemmas.Bool.{eqb-true, le-ltb, and_right, and_parts, and_from}
use Rattle.std.proofs.lemmas.List.Elements.{All-from_recursion}
use Rattle.std.proofs.lemmas.List.Kept.{AllPairs-cons}
use Rattle.std.proofs.lemmas.Slice.Eq.{bytes_eq-Decides}
use Rattle.std.specs.List.{AllByRecursion, list_all}
use Rattle.sm_log.specs.declared.verdict.Decision.TheVariants as decision
use Rattle.sm_log.specs.declared.verdict.Judged.TheVariants as judged
use Rattle.sm_model.specs.declared.address.Address.{Address}
use Rattle.sm_model.specs.declared.track.Track.{Track}
use Rattle.sm_model.specs.Same.{is_same}
use Rattle.sm_log.specs.Times.{entry_at, with_entry, decision, AreSorted, AreTimes, IsSpan, ends, do_overlap}
use Rattle.sm_log.specs.Adds.{Add, is_at, track_at, tracks_of, place_of, times_from, times_of, is_kept, is_listed, listed, judged_by, verdict}
use Rattle.sm_log.proofs.Choice.{chosen}
use Rattle.sm_log.proofs.Entries.{no_later, all_later, stays, sorted_with, or_place, entry_with}
use Rattle.sm_log.proofs.Apart.{sorted_times}
use Rattle.sm_log.proofs.Added.{there_means, apart_added}
use Rattle.sm_log.proofs.Snoc.{times_snoc, sorted_times_from}
use Rattle.sm_log.proofs.New.{is_new}

pub new_declared : (channel : List Track) (adds : List Add) (x : Address) (d : ℕ) → verdict channel adds x d ≡ judged.New → is_some (track_at x.stream x.bitrate channel) ≡ true
new_declared channel adds x d e = by_test (is_some (track_at x.stream x.bitrate channel)) e
  where
    by_test : (b : Bool) → cond b (judged_by (place_of x adds) (decision (times_of x.stream adds) x.time d)) judged.NotDeclared ≡ judged.New → b ≡ true
    by_test true e = refl
    by_test false e = absurd cc

still_apart : (ts : List (ℕ × ℕ)) (t d : ℕ) → IsSpan (t, d) → AreTimes ts → (decision ts t d ≡ decision.New) ⊎ (decision ts t d ≡ decision.There) → AreTimes (with_entry t d ts)
still_apart ts t d span times (inl new) = apart_added ts t d span times new
still_apart ts t d span times (inr there) =
    subst AreTimes (sym (stays t d d ts (sorted_times ts times) (there_means ts t d there))) times

pub apart_more : (channel : List Track) (earlier : List Add) (a : Add) → verdict channel earlier a.address a.duration ≡ judged.New
    → IsSpan (a.address.time, a.duration) → ((s : List ℕ) → AreTimes (times_of s earlier)) → (s : List ℕ)
    → AreTimes (times_of s (earlier ++ a ∷ []))
apart_more channel earlier a new span times s =
    subst AreTimes (sym (times_snoc s [] earlier a)) (chosen (is_same a.address.stream s) AreTimes (with_entry a.address.time a.duration (times_of s earlier)) (times_of s earlier)
    (λ same. let is = is_new channel earlier a.address a.duration (new_declared channel earlier a.address a.duration new) new in
    let name : a.address.stream ≡ s = (bytes_eq-Decides a.address.stream s).0 same in
    subst (λ (n : List ℕ). AreTimes (with_entry a.address.time a.duration (times_of n earlier))) name (still_apart (times_of a.address.stream earlier) a.address.time a.duration span (times a.address.stream) is.decision))
    (λ _. times s))

pub no_overlaps : (ts : List (ℕ × ℕ)) → AreTimes ts → AllPairs (λ (a b : ℕ × ℕ). do_overlap a b ≡ false) ts
no_overlaps [] times = λ i j d h k. absurd (omega (arith, k))
no_overlaps (x ∷ ts) times =
    AllPairs-cons (λ (a b : ℕ × ℕ). do_overlap a b ≡ false) x ts (All-from_recursion (λ (y : ℕ × ℕ). do_overlap x y ≡ false) ts (each ts times.1)) (no_overlaps ts times.2)
  where
    each : (ys : List (ℕ × ℕ)) → AllByRecursion (λ (y : ℕ × ℕ). ends x ≤ y.0) ys → AllByRecursion (λ (y : ℕ × ℕ). do_overlap x y ≡ false) ys
    each [] all = tt
    each (y ∷ ys) all = (and_right (ltb x.0 (ends y)) _ (le-ltb y.0 (ends x) all.0), each ys all.1)

-- ---- nothing is taken back

pub places_stay : (adds more : List Add) (x : Address) (p : ℕ) → place_of x adds ≡ Some p → place_of x (adds ++ more) ≡ Some p
places_stay [] more x p e = absurd cc
places_stay (a ∷ adds) more x p e = by_test (is_at x a) e (λ k. places_stay adds more x p k)
  where
    by_test : (b : Bool) → cond b (Some a.place) (place_of x adds) ≡ Some p → (place_of x adds ≡ Some p → place_of x (adds ++ more) ≡ Some p) → cond b (Some a.place) (place_of x (adds ++ more)) ≡ Some p
    by_test true e rest = e
    by_test false e rest = rest e

times_join : (s : List ℕ) (ts : List (ℕ × ℕ)) (adds more : List Add) → times_from s ts (adds ++ more) ≡ times_from s (times_from s ts adds) more
times_join s ts [] more = refl
times_join s ts (a ∷ adds) more = times_join s (cond (is_same a.address.stream s) (with_entry a.address.time a.duration ts) ts) adds more

times_stay : (s : List ℕ) (t d : ℕ) (ts : List (ℕ × ℕ)) (more : List Add) → AreSorted ts → entry_at t ts ≡ Some d → entry_at t (times_from s ts more) ≡ Some d
times_stay s t d ts [] sorted e = e
times_stay s t d ts (a ∷ more) sorted e =
    let next = cond (is_same a.address.stream s) (with_entry a.address.time a.duration ts) ts in
    let sorted' : AreSorted next = chosen (is_same a.address.stream s) AreSorted (with_entry a.address.time a.duration ts) ts (λ _. sorted_with a.address.time a.duration ts sorted) (λ _. sorted) in
    let still : entry_at t next ≡ Some d = chosen (is_same a.address.stream s) (λ (l : List (ℕ × ℕ)). entry_at t l ≡ Some d) (with_entry a.address.time a.duration ts) ts
    (λ _. entry_with t a.address.time a.duration ts sorted ∙ rw e (by_test (eqb a.address.time t))) (λ _. e) in
    times_stay s t d next more sorted' still
  where
    by_test : (b : Bool) → cond b (or_place (Some d) (Some a.duration)) (Some d) ≡ Some d
    by_test true = refl
    by_test false = refl

pub filter_entry : (p : ℕ × ℕ → Bool) (t d : ℕ) (ts : List (ℕ × ℕ)) → AreSorted ts → entry_at t (filter p ts) ≡ Some d → (entry_at t ts ≡ Some d) × (p (t, d) ≡ true)
filter_entry p t d [] sorted e = absurd cc
filter_entry p t d (x ∷ ts) sorted e = by_test (p x) (eqb x.0 t) refl refl e (λ k. filter_entry p t d ts sorted.1 k)
  where
    pair : eqb x.0 t ≡ true → x.1 ≡ d → x ≡ (t, d)
    pair u v = ap (λ (n : ℕ). (n, x.1)) (eqb-true x.0 t u) ∙ ap (λ (n : ℕ). (t, n)) v

    by_test : (b c : Bool) → p x ≡ b → eqb x.0 t ≡ c → entry_at t (cond b (x ∷ filter p ts) (filter p ts)) ≡ Some d → (entry_at t (filter p ts) ≡ Some d → (entry_at t ts ≡ Some d) × (p (t, d) ≡ true))
        → (cond c (Some x.1) (entry_at t ts) ≡ Some d) × (p (t, d) ≡ true)
    by_test true true is u e rest =
        let here : Some x.1 ≡ Some d = rw u at e in
        let value : x.1 ≡ d = cc in
        (here, ap p (sym (pair u value)) ∙ is)
    by_test true false is u e rest = rest (rw u at e)
    by_test false true is u e rest =
        let later = (rest e).0 in
        let none = no_later t ts (all_later t x.0 ts (omega (arith, eqb-true x.0 t u)) sorted.0) in
        absurd cc
    by_test false false is u e rest = rest e

entry_filter : (p : ℕ × ℕ → Bool) (t d : ℕ) (ts : List (ℕ × ℕ)) → entry_at t ts ≡ Some d → p (t, d) ≡ true → entry_at t (filter p ts) ≡ Some d
entry_filter p t d [] e is = absurd cc
entry_filter p t d (x ∷ ts) e is = by_test (p x) (eqb x.0 t) refl refl e (λ k. entry_filter p t d ts k is)
  where
    by_test : (b c : Bool) → p x ≡ b → eqb x.0 t ≡ c → cond c (Some x.1) (entry_at t ts) ≡ Some d
        → (entry_at t ts ≡ Some d → entry_at t (filter p ts) ≡ Some d) → entry_at t (cond b (x ∷ filter p ts) (filter p ts)) ≡ Some d
    by_test true true px u e rest = rw u e
    by_test true false px u e rest = rw u (rest e)
    by_test false true px u e rest =
        let value : x.1 ≡ d = cc in
        let same : x ≡ (t, d) = ap (λ (n : ℕ). (n, x.1)) (eqb-true x.0 t u) ∙ ap (λ (n : ℕ). (t, n)) value in
        let yes : p x ≡ true = ap p same ∙ is in
        absurd cc
    by_test false false px u e rest = rest e

all_stay : (p q : Track → Bool) (ts : List Track) → ((t : Track) → p t ≡ true → q t ≡ true) → list_all p ts ≡ true → list_all q ts ≡ true
all_stay p q [] more e = refl
all_stay p q (t ∷ ts) more e =
    let parts = and_parts (p t) (list_all p ts) e in and_from (q t) (list_all q ts) (more t parts.0) (all_stay p q ts more parts.1)

some_stays : (o r : Option ℕ) → ((p : ℕ) → o ≡ Some p → r ≡ Some p) → is_some o ≡ true → is_some r ≡ true
some_stays None r more e = absurd cc
some_stays (Some p) r more e = ap is_some (more p refl)

pub listed_stay : (channel : List Track) (adds more : List Add) (s : List ℕ) (t d : ℕ) → entry_at t (listed channel adds s) ≡ Some d → entry_at t (listed channel (adds ++ more) s) ≡ Some d
listed_stay channel adds more s t d e =
    let sorted = sorted_times_from s [] adds tt in
    let was = filter_entry (is_listed channel adds s) t d (times_of s adds) sorted e in
    let there : entry_at t (times_of s (adds ++ more)) ≡ Some d = ap (λ (ts : List (ℕ × ℕ)). entry_at t ts) (times_join s [] adds more) ∙ times_stay s t d (times_of s adds) more sorted was.0 in
    let kept : is_listed channel (adds ++ more) s (t, d) ≡ true = all_stay (is_kept adds s t) (is_kept (adds ++ more) s t) (tracks_of s channel)
    (λ tr k. some_stays (place_of (record { stream = s; bitrate = tr.bitrate; time = t }) adds) (place_of (record { stream = s; bitrate = tr.bitrate; time = t }) (adds ++ more))
    (λ p is. places_stay adds more (record { stream = s; bitrate = tr.bitrate; time = t }) p is) k) was.1 in
    entry_filter (is_listed channel (adds ++ more) s) t d (times_of s (adds ++ more)) there kept
