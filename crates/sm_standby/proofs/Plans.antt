-- Rows of candidates.
use Rattle.std.proofs.Common.{◌≡◌, ◌||◌, ◌+◌, ◌-◌, ◌<◌, ◌≤◌, ℕ, zero, suc, List, [], ◌∷◌, ◌++◌, refl, ap, sym, ◌∙◌, Bool, cond, drop, length, map, arith}
use Rattle.std.specs.List.{list_any}
use Rattle.sm_model.specs.Same.{is_same}
use Rattle.sm_log.specs.Adds.{names_from}
use Rattle.sm_model.specs.declared.track.Track.{Track}
use Rattle.sm_standby.specs.Candidates.{Candidates, row, rows, candidates, candidates_by, with_stream}
use Rattle.sm_standby.proofs.Opens.{by_bool}

pub rows_next : (channel : List Track) (all : List Candidates) (j n : ℕ) → j < n → rows channel all j (n - j) ≡ row channel j all ++ rows channel all (j + 1) (n - (j + 1))
rows_next channel all j n lt = ap (rows channel all j) (let e : n - j ≡ suc (n - (j + 1)) = omega (arith, lt) in e)

pub rows_start : (channel : List Track) (all : List Candidates) (n : ℕ) → rows channel all 0 (n - 0) ≡ rows channel all 0 n
rows_start channel all n = ap (rows channel all 0) (let e : n - 0 ≡ n = omega arith in e)

pub rows_end : (channel : List Track) (all : List Candidates) (j n : ℕ) → n ≤ j → rows channel all j (n - j) ≡ []
rows_end channel all j n le = ap (rows channel all j) (let e : n - j ≡ 0 = omega (arith, le) in e)

pub drop_all : {X : Type 0} (xs : List X) (i : ℕ) → length xs ≤ i → drop i xs ≡ []
drop_all [] zero h = refl
drop_all [] (suc i) h = refl
drop_all (x ∷ xs) zero h = absurd (omega (arith, h))
drop_all (x ∷ xs) (suc i) h = drop_all xs i (omega (arith, h))

-- ---- streams

any_names : (name : List ℕ) (cs : List Candidates) → list_any (λ n. is_same n name) (map (λ (c : Candidates). c.name) cs) ≡ list_any (λ c. is_same c.name name) cs
any_names name [] = refl
any_names name (c ∷ cs) = ap (λ (b : Bool). is_same c.name name || b) (any_names name cs)

map_push : (cs : List Candidates) (c : Candidates) → map (λ (d : Candidates). d.name) (cs ++ c ∷ []) ≡ map (λ (d : Candidates). d.name) cs ++ c.name ∷ []
map_push [] c = refl
map_push (d ∷ cs) c = ap (λ (ns : List (List ℕ)). d.name ∷ ns) (map_push cs c)

by_push : (times : List ℕ → List (ℕ × ℕ)) (ns : List (List ℕ)) (n : List ℕ) → candidates_by times (ns ++ n ∷ []) ≡ candidates_by times ns ++ (record { name = n; times = candidates (times n) }) ∷ []
by_push times [] n = refl
by_push times (m ∷ ns) n = ap (λ (cs : List Candidates). (record { name = m; times = candidates (times m) }) ∷ cs) (by_push times ns n)

-- a track's stream is there once, whether it was before or not
pub with_names : (times : List ℕ → List (ℕ × ℕ)) (cs : List Candidates) (t : Track) (ts : List Track)
    → names_from (map (λ (c : Candidates). c.name) (with_stream times cs t)) ts ≡ names_from (map (λ (c : Candidates). c.name) cs) (t ∷ ts)
with_names times cs t ts =
    by_bool (list_any (λ (c : Candidates). is_same c.name t.name) cs)
    (λ b. list_any (λ (c : Candidates). is_same c.name t.name) cs ≡ b
    → names_from (map (λ (c : Candidates). c.name) (cond b cs (cs ++ (record { name = t.name; times = candidates (times t.name) }) ∷ []))) ts ≡ names_from (map (λ (c : Candidates). c.name) cs) (t ∷ ts))
    (λ x is. sym (ap (λ (b : Bool). cond b (names_from (map (λ (c : Candidates). c.name) cs) ts) (names_from (map (λ (c : Candidates). c.name) cs ++ t.name ∷ []) ts)) (any_names t.name cs ∙ is)))
    (λ x is. ap (λ (ns : List (List ℕ)). names_from ns ts) (map_push cs (record { name = t.name; times = candidates (times t.name) }))
    ∙ sym (ap (λ (b : Bool). cond b (names_from (map (λ (c : Candidates). c.name) cs) ts) (names_from (map (λ (c : Candidates). c.name) cs ++ t.name ∷ []) ts)) (any_names t.name cs ∙ is)))
    refl

pub with_times : (times : List ℕ → List (ℕ × ℕ)) (cs : List Candidates) (t : Track) → cs ≡ candidates_by times (map (λ (c : Candidates). c.name) cs)
    → with_stream times cs t ≡ candidates_by times (map (λ (c : Candidates). c.name) (with_stream times cs t))
with_times times cs t are =
    by_bool (list_any (λ (c : Candidates). is_same c.name t.name) cs)
    (λ b. cond b cs (cs ++ (record { name = t.name; times = candidates (times t.name) }) ∷ [])
    ≡ candidates_by times (map (λ (c : Candidates). c.name) (cond b cs (cs ++ (record { name = t.name; times = candidates (times t.name) }) ∷ []))))
    (λ x. are)
    (λ x. sym (ap (candidates_by times) (map_push cs (record { name = t.name; times = candidates (times t.name) }))
    ∙ (by_push times (map (λ (c : Candidates). c.name) cs) t.name ∙ ap (λ (ds : List Candidates). ds ++ (record { name = t.name; times = candidates (times t.name) }) ∷ []) (sym are))))
