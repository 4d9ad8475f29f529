-- What a channel and its times give each line.
use Rattle.std.proofs.Common.{◌≡◌, ℕ, Bool, true, false, cond, eqb, List, [], ◌∷◌, map, Some, refl}
use Rattle.std.specs.Prelude.{is_some}
use Rattle.std.specs.List.{AllByRecursion, flat_map}
use Rattle.sm_model.specs.declared.address.Address.{Address}
use Rattle.std.proofs.lemmas.Bool.{eq-eqb}
use Rattle.sm_log.specs.Times.{entry_at}
use Rattle.sm_manout.specs.Shown.{Open, at_bitrates}
use Rattle.sm_manout.proofs.ShownPieces.{all_join}

-- each start with each bitrate
rates_good : (P : Address → Type 0) (stream : List ℕ) (start : ℕ) (bs : List ℕ) → AllByRecursion (λ (b : ℕ). P (record { stream = stream; bitrate = b; time = start })) bs
    → AllByRecursion P (map (λ (b : ℕ). record { stream = stream; bitrate = b; time = start }) bs)
rates_good P stream start [] all = tt
rates_good P stream start (b ∷ bs) all = (all.0, rates_good P stream start bs all.1)

all_of : (R S : ℕ → Type 0) (bs : List ℕ) → ((b : ℕ) → R b → S b) → AllByRecursion R bs → AllByRecursion S bs
all_of R S [] f all = tt
all_of R S (b ∷ bs) f all = (f b all.0, all_of R S bs f all.1)

pub starts_good : (P : Address → Type 0) (R Q : ℕ → Type 0) (o : Open)
    → ((b start : ℕ) → R b → Q start → P (record { stream = o.stream; bitrate = b; time = start })) → AllByRecursion R o.bitrates → (ss : List ℕ)
    → AllByRecursion Q ss
    → AllByRecursion P (flat_map (at_bitrates o) ss)
starts_good P R Q o both rates [] all = tt
starts_good P R Q o both rates (s ∷ ss) all =
    all_join P (at_bitrates o s) (flat_map (at_bitrates o) ss)
    (rates_good P o.stream s o.bitrates (all_of R (λ (b : ℕ). P (record { stream = o.stream; bitrate = b; time = s })) o.bitrates (λ b r. both b s r all.0) rates)) (starts_good P R Q o both rates ss all.1)

-- each time of a list stands in it
abbrev pub IsThere : List (ℕ × ℕ) → ℕ × ℕ → Type 0
IsThere ts y = is_some (entry_at y.0 ts) ≡ true

there_more : (x : ℕ × ℕ) (ts ys : List (ℕ × ℕ)) → AllByRecursion (IsThere ts) ys → AllByRecursion (IsThere (x ∷ ts)) ys
there_more x ts [] all = tt
there_more x ts (y ∷ ys) all = (by_test (eqb x.0 y.0), there_more x ts ys all.1)
  where
    by_test : (b : Bool) → is_some (cond b (Some x.1) (entry_at y.0 ts)) ≡ true
    by_test true = refl
    by_test false = all.0

pub all_there : (ts : List (ℕ × ℕ)) → AllByRecursion (IsThere ts) ts
all_there [] = tt
all_there (x ∷ ts) = (by_test (eqb x.0 x.0) (eq-eqb x.0 x.0 refl), there_more x ts ts (all_there ts))
  where
    by_test : (b : Bool) → b ≡ true → is_some (cond b (Some x.1) (entry_at x.0 ts)) ≡ true
    by_test true is = refl
    by_test false is = absurd (cc)
