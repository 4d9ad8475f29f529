-- The fragments of a quality are those that the log keeps of it, in the order of time.
use Rattle.std.proofs.Common.{◌≡◌, ◌&&◌, ◌<◌, ⊎_elim, ℕ, zero, suc, Bool, true, false, cond, eqb, ltb, List, [], ◌∷◌, ◌++◌, length, Option, Some, None, AllPairs, refl, sym, ap, subst, ◌∙◌, arith}
use Rattle.std.specs.Prelude.{is_some, slice_index_or, Contains}
use Rattle.std.specs.List.{AllByRecursion}
use Rattle.std.specs.Option.{option_map}
use Rattle.std.proofs.lemmas.Bool.{eq-eqb, eqb-true}
use Rattle.std.proofs.lemmas.List.Elements.{All-from_recursion, Contains-append_left, Contains-append_right, Contains-append_cases}
use Rattle.std.proofs.lemmas.List.Kept.{AllPairs-cons}
use Rattle.sm_model.specs.declared.address.Address.{Address}
use Rattle.sm_model.specs.declared.entry.Entry.{Entry}
use Rattle.sm_model.specs.declared.entry.Entry.TheVariants.{Keep}
use Rattle.sm_model.specs.declared.fragment.Fragment.{Fragment}
use Rattle.sm_model.specs.Entries.{address_of}
use Rattle.sm_model.specs.Same.{is_same}
use Rattle.sm_log.specs.Adds.{Add, place_of, times_from}
use Rattle.sm_log.specs.Logs.{adds_of, kept_at, times_in, IsSound}
use Rattle.sm_log.specs.Times.{entry_at, with_entry, AreSorted}
use Rattle.sm_export.specs.Qualities.{fragments_in, kept_list, kept_among, quality}

-- ---- what is kept has a time

with_start : (s v : ℕ) (xs : List (ℕ × ℕ)) → is_some (entry_at s (with_entry s v xs)) ≡ true
with_start s v [] = rw (eq-eqb s s refl) refl
with_start s v (x ∷ xs) = by_test (ltb s x.0) (eqb x.0 s) refl (with_start s v xs)
  where
    by_test : (a b : Bool) → eqb x.0 s ≡ b → is_some (entry_at s (with_entry s v xs)) ≡ true
        → is_some (entry_at s (cond a ((s, v) ∷ x ∷ xs) (cond b (x ∷ xs) (x ∷ with_entry s v xs)))) ≡ true
    by_test true b is rest = rw (eq-eqb s s refl) refl
    by_test false true is rest = rw is refl
    by_test false false is rest = rw is rest

keep_start : (t s v : ℕ) (xs : List (ℕ × ℕ)) → is_some (entry_at t xs) ≡ true → is_some (entry_at t (with_entry s v xs)) ≡ true
keep_start t s v [] e = absurd cc
keep_start t s v (x ∷ xs) e = by_test (ltb s x.0) (eqb x.0 s) (eqb s t) (eqb x.0 t) refl refl (keep_start t s v xs) e
  where
    by_test : (a b c d : Bool) → eqb s t ≡ c → eqb x.0 t ≡ d → (is_some (entry_at t xs) ≡ true → is_some (entry_at t (with_entry s v xs)) ≡ true)
        → is_some (cond d (Some x.1) (entry_at t xs)) ≡ true → is_some (entry_at t (cond a ((s, v) ∷ x ∷ xs) (cond b (x ∷ xs) (x ∷ with_entry s v xs)))) ≡ true
    by_test true b true d i j rest e = rw i refl
    by_test true b false true i j rest e = rw (i, j) refl
    by_test true b false false i j rest e = rw (i, j) e
    by_test false true c true i j rest e = rw j refl
    by_test false true c false i j rest e = rw j e
    by_test false false c true i j rest e = rw j refl
    by_test false false c false i j rest e = rw j (rest e)

times_keep : (stream : List ℕ) (t : ℕ) (ts : List (ℕ × ℕ)) (adds : List Add) → is_some (entry_at t ts) ≡ true → is_some (entry_at t (times_from stream ts adds)) ≡ true
times_keep stream t ts [] e = e
times_keep stream t ts (a ∷ adds) e =
    times_keep stream t (cond (is_same a.address.stream stream) (with_entry a.address.time a.duration ts) ts) adds (by_test (is_same a.address.stream stream))
  where
    by_test : (b : Bool) → is_some (entry_at t (cond b (with_entry a.address.time a.duration ts) ts)) ≡ true
    by_test true = keep_start t a.address.time a.duration ts e
    by_test false = e

placed_start : (a : Address) (place : ℕ) (ts : List (ℕ × ℕ)) (adds : List Add) → place_of a adds ≡ Some place → is_some (entry_at a.time (times_from a.stream ts adds)) ≡ true
placed_start a place ts [] e = absurd cc
placed_start a place ts (x ∷ adds) e =
    by_test (is_same x.address.stream a.stream) (eqb x.address.bitrate a.bitrate) (eqb x.address.time a.time) refl
    (placed_start a place (cond (is_same x.address.stream a.stream) (with_entry x.address.time x.duration ts) ts) adds) e
  where
    by_test : (b c f : Bool) → eqb x.address.time a.time ≡ f
        → (place_of a adds ≡ Some place → is_some (entry_at a.time (times_from a.stream (cond b (with_entry x.address.time x.duration ts) ts) adds)) ≡ true)
        → cond (b && (c && f)) (Some x.place) (place_of a adds) ≡ Some place
        → is_some (entry_at a.time (times_from a.stream (cond b (with_entry x.address.time x.duration ts) ts) adds)) ≡ true
    by_test true true true is rest e = times_keep a.stream a.time (with_entry x.address.time x.duration ts) adds
        (subst (λ (t : ℕ). is_some (entry_at t (with_entry x.address.time x.duration ts)) ≡ true) (eqb-true x.address.time a.time is) (with_start x.address.time x.duration ts))
    by_test true true false is rest e = rest e
    by_test true false f is rest e = rest e
    by_test false c f is rest e = rest e

-- ---- every fragment that is kept of it

abbrev at : List ℕ → ℕ → ℕ → Address
at name bitrate time = record { stream = name; bitrate = bitrate; time = time }

among : (log : List Entry) (name : List ℕ) (bitrate t : ℕ) (f : Fragment) (ts : List (ℕ × ℕ)) → is_some (entry_at t ts) ≡ true
    → kept_list log (record { stream = name; bitrate = bitrate; time = t }) ≡ f ∷ [] → Contains (kept_among log name bitrate ts) f
among log name bitrate t f [] e kept = absurd cc
among log name bitrate t f (x ∷ ts) e kept = by_test (eqb x.0 t) refl e (λ rest. among log name bitrate t f ts rest kept)
  where
    by_test : (b : Bool) → eqb x.0 t ≡ b → is_some (cond b (Some x.1) (entry_at t ts)) ≡ true → (is_some (entry_at t ts) ≡ true → Contains (kept_among log name bitrate ts) f)
        → Contains (kept_list log (record { stream = name; bitrate = bitrate; time = x.0 }) ++ kept_among log name bitrate ts) f
    by_test true is e rest =
        let same : kept_list log (record { stream = name; bitrate = bitrate; time = x.0 }) ≡ f ∷ [] =
        ap (λ (u : ℕ). kept_list log (record { stream = name; bitrate = bitrate; time = u })) (eqb-true x.0 t is) ∙ kept in
        Contains-append_left (kept_list log (record { stream = name; bitrate = bitrate; time = x.0 })) (kept_among log name bitrate ts) f
        (subst (λ (fs : List Fragment). Contains fs f) (sym same) (0, omega arith, refl))
    by_test false is e rest = Contains-append_right (kept_list log (record { stream = name; bitrate = bitrate; time = x.0 })) (kept_among log name bitrate ts) f (rest e)

-- an entry with what stands before it and behind it
split_or : (log : List Entry) (k : ℕ) (e : Entry) → k < length log → slice_index_or log k e ≡ e → (front : List Entry) × (back : List Entry) × (log ≡ front ++ e ∷ back)
split_or [] k e lt is = absurd (omega (arith, lt))
split_or (x ∷ log) zero e lt is = ([], log, ap (λ (y : Entry). y ∷ log) is)
split_or (x ∷ log) (suc k) e lt is = let r = split_or log k e (omega (arith, lt)) is in (x ∷ r.0, r.1, ap (λ (l : List Entry). x ∷ l) r.2)

abbrev pub One : Type 0
One = (front back : List Entry) (f : Fragment) → IsSound (front ++ Keep f ∷ back) → kept_at (front ++ Keep f ∷ back) (address_of f) ≡ Some (length front, f)

abbrev pub Placed : Type 0
Placed = (log : List Entry) (address : Address) → place_of address (adds_of log) ≡ option_map (λ (k : ℕ × Fragment). k.0) (kept_at log address)

kept_there : One → (log : List Entry) (f : Fragment) → IsSound log → Contains log (Keep f) → (place : ℕ) × (kept_at log (address_of f) ≡ Some (place, f))
kept_there one log f sound there =
    let s = split_or log there.0 (Keep f) there.1 there.2 in
    (length s.0, subst (λ (l : List Entry). IsSound l → kept_at l (address_of f) ≡ Some (length s.0, f)) (sym s.2) (one s.0 s.1 f) sound)

pub all_kept : One → Placed → (log : List Entry) (name : List ℕ) (bitrate : ℕ) (f : Fragment) → IsSound log → Contains log (Keep f) → f.stream ≡ name → f.bitrate ≡ bitrate → Contains (quality log name bitrate) f
all_kept one place log name bitrate f sound there of_name of_bitrate =
    let kept = kept_there one log f sound there in
    let starts : is_some (entry_at f.time (times_in log f.stream)) ≡ true =
    placed_start (address_of f) kept.0 [] (adds_of log) (place log (address_of f) ∙ ap (option_map (λ (k : ℕ × Fragment). k.0)) kept.1) in
    let mine : Contains (quality log f.stream f.bitrate) f = among log f.stream f.bitrate f.time f (times_in log f.stream) starts (ap fragments_in kept.1) in
    subst (λ (b : ℕ). Contains (quality log name b) f) of_bitrate (subst (λ (n : List ℕ). Contains (quality log n f.bitrate) f) of_name mine)

-- ---- nothing else

abbrev pub There : Type 0
There = (log : List Entry) (address : Address) (kept : ℕ × Fragment) → kept_at log address ≡ Some kept → Contains log (Keep kept.1)

abbrev pub Addressed : Type 0
Addressed = (log : List Entry) (address : Address) (place : ℕ) (f : Fragment) → kept_at log address ≡ Some (place, f) → address_of f ≡ address

single : (x y : Fragment) → Contains (x ∷ []) y → x ≡ y
single x y (zero, lt, is) = is
single x y (suc k, lt, is) = absurd (omega (arith, lt))

one_kept : There → Addressed → (log : List Entry) (a : Address) (f : Fragment) (o : Option (ℕ × Fragment)) → kept_at log a ≡ o → Contains (fragments_in o) f → Contains log (Keep f) × (address_of f ≡ a)
one_kept there address log a f None is c = let lt = c.1 in absurd (omega (arith, lt))
one_kept there address log a f (Some kept) is c =
    let same = single kept.1 f c in
    (subst (λ (g : Fragment). Contains log (Keep g)) same (there log a kept is), subst (λ (g : Fragment). address_of g ≡ a) same (address log a kept.0 kept.1 is))

pub only_kept : There → Addressed → (log : List Entry) (name : List ℕ) (bitrate : ℕ) (ts : List (ℕ × ℕ)) (f : Fragment) → Contains (kept_among log name bitrate ts) f
    → Contains log (Keep f) × (f.stream ≡ name) × (f.bitrate ≡ bitrate)
only_kept there address log name bitrate [] f c = let lt = c.1 in absurd (omega (arith, lt))
only_kept there address log name bitrate (t ∷ ts) f c =
    ⊎_elim
    (λ here. let k = one_kept there address log (at name bitrate t.0) f (kept_at log (at name bitrate t.0)) refl here in (k.0, ap (λ (a : Address). a.stream) k.1, ap (λ (a : Address). a.bitrate) k.1))
    (λ behind. only_kept there address log name bitrate ts f behind)
    (Contains-append_cases (kept_list log (at name bitrate t.0)) (kept_among log name bitrate ts) f c)

-- ---- what holds of each, and their order

pub each_kept : (P : Fragment → Type 0) (log : List Entry) (name : List ℕ) (bitrate : ℕ) (ts : List (ℕ × ℕ))
    → ((t : ℕ) (kept : ℕ × Fragment) → kept_at log (record { stream = name; bitrate = bitrate; time = t }) ≡ Some kept → P kept.1) → AllByRecursion P (kept_among log name bitrate ts)
each_kept P log name bitrate [] so = tt
each_kept P log name bitrate (t ∷ ts) so = by_kept (kept_at log (record { stream = name; bitrate = bitrate; time = t.0 })) refl (each_kept P log name bitrate ts so)
  where
    by_kept : (o : Option (ℕ × Fragment)) → kept_at log (record { stream = name; bitrate = bitrate; time = t.0 }) ≡ o → AllByRecursion P (kept_among log name bitrate ts)
        → AllByRecursion P (fragments_in o ++ kept_among log name bitrate ts)
    by_kept None is rest = rest
    by_kept (Some kept) is rest = (so t.0 kept is, rest)

later : Addressed → (log : List Entry) (name : List ℕ) (bitrate n : ℕ) (ts : List (ℕ × ℕ)) → AllByRecursion (λ (y : ℕ × ℕ). n < y.0) ts
    → AllByRecursion (λ (g : Fragment). n < g.time) (kept_among log name bitrate ts)
later address log name bitrate n [] all = tt
later address log name bitrate n (t ∷ ts) all =
    by_kept (kept_at log (record { stream = name; bitrate = bitrate; time = t.0 })) refl (later address log name bitrate n ts all.1)
  where
    by_kept : (o : Option (ℕ × Fragment)) → kept_at log (record { stream = name; bitrate = bitrate; time = t.0 }) ≡ o
        → AllByRecursion (λ (g : Fragment). n < g.time) (kept_among log name bitrate ts) → AllByRecursion (λ (g : Fragment). n < g.time) (fragments_in o ++ kept_among log name bitrate ts)
    by_kept None is rest = rest
    by_kept (Some kept) is rest =
        let named = ap (λ (a : Address). a.time) (address log (record { stream = name; bitrate = bitrate; time = t.0 }) kept.0 kept.1 is) in
        (subst (λ (u : ℕ). n < u) (sym named) all.0, rest)

pub in_order : Addressed → (log : List Entry) (name : List ℕ) (bitrate : ℕ) (ts : List (ℕ × ℕ)) → AreSorted ts → AllPairs (λ (f g : Fragment). f.time < g.time) (kept_among log name bitrate ts)
in_order address log name bitrate [] sorted = λ i j d lt within. absurd (omega (arith, within))
in_order address log name bitrate (t ∷ ts) sorted =
    by_kept (kept_at log (record { stream = name; bitrate = bitrate; time = t.0 })) refl (in_order address log name bitrate ts sorted.1)
  where
    by_kept : (o : Option (ℕ × Fragment)) → kept_at log (record { stream = name; bitrate = bitrate; time = t.0 }) ≡ o
        → AllPairs (λ (f g : Fragment). f.time < g.time) (kept_among log name bitrate ts) → AllPairs (λ (f g : Fragment). f.time < g.time) (fragments_in o ++ kept_among log name bitrate ts)
    by_kept None is rest = rest
    by_kept (Some kept) is rest =
        let named = ap (λ (a : Address). a.time) (address log (record { stream = name; bitrate = bitrate; time = t.0 }) kept.0 kept.1 is) in
        AllPairs-cons (λ (f g : Fragment). f.time < g.time) kept.1 (kept_among log name bitrate ts)
        (All-from_recursion (λ (g : Fragment). kept.1.time < g.time) (kept_among log name bitrate ts)
        (subst (λ (u : ℕ). AllByRecursion (λ (g : Fragment). u < g.time) (kept_among log name bitrate ts)) (sym named) (later address log name bitrate t.0 ts sorted.0))) rest
