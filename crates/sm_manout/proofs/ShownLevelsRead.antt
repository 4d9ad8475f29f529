-- The lines of a stream's qualities, read one after another.
use Rattle.std.proofs.Common.{◌≡◌, add-one, ◌+◌, ◌<◌, ◌^◌, ℕ, suc, Bool, true, false, cond, List, [], ◌∷◌, ◌++◌, length, refl, sym, subst, append_assoc, arith}
use Rattle.std.specs.Prelude.{decimal, codes}
use Rattle.std.specs.List.{AllByRecursion}
use Rattle.sm_model.specs.declared.address.Address.{Address}
use Rattle.sm_model.specs.declared.track.Track.{Track}
use Rattle.sm_model.specs.Same.{is_same}
use Rattle.sm_manout.specs.ManifestText.{level_line, level_lines}
use Rattle.sm_manout.proofs.ShownPieces.{has_no, decimal_none, both_none, all_join, Good}
use Rattle.sm_manout.proofs.ShownLevels.{level_front, level_more}
use Rattle.sm_manout.proofs.ShownOpening.{level_read}

pub level_front_none : (i b : ℕ) (more : List ℕ) → i < 2 ^ 64 → b < 2 ^ 64 → has_no 10 more ≡ true → has_no 10 (level_front i b more) ≡ true
level_front_none i b more li lb none =
    both_none 10 (decimal i) (34 ∷ codes " Bitrate=\"" ++ (decimal b ++ (34 ∷ more))) (decimal_none 10 i refl li) (both_none 10 (decimal b) (34 ∷ more) (decimal_none 10 b refl lb) none)

-- a track whose line can be written, and whose bitrate R allows where it is one of the stream
abbrev pub IsLine : (List ℕ → ℕ → Type 0) → Track → Type 0
IsLine R t = (t.bitrate < 2 ^ 32) × (has_no 10 (level_more t) ≡ true) × R t.name t.bitrate

pub levels_read : (P : Address → Type 0) (R : List ℕ → ℕ → Type 0) (name : List ℕ) (bs : List ℕ) (i : ℕ) (ts : List Track) (x : List ℕ)
    → ((t : Track) → is_same t.name name ≡ true → R t.name t.bitrate → R name t.bitrate)
    → i + length ts < 2 ^ 64 → AllByRecursion (IsLine R) ts → AllByRecursion (R name) bs → ((rates : List ℕ) → AllByRecursion (R name) rates → Good P (record { stream = name; bitrates = rates }) x)
    → Good P (record { stream = name; bitrates = bs }) (level_lines i name ts ++ x)
levels_read P R name bs i [] x same fits lines rates go = go bs rates
levels_read P R name bs i (t ∷ ts) x same fits lines rates go =
    by_test (is_same t.name name) refl (λ r. levels_read P R name (bs ++ t.bitrate ∷ []) (suc i) ts x same (omega (arith, fits)) lines.1 r go) (levels_read P R name bs i ts x same (omega (arith, fits)) lines.1 rates go)
  where
    by_test : (b : Bool) → is_same t.name name ≡ b → (AllByRecursion (R name) (bs ++ t.bitrate ∷ []) → Good P (record { stream = name; bitrates = bs ++ t.bitrate ∷ [] }) (level_lines (suc i) name ts ++ x))
        → Good P (record { stream = name; bitrates = bs }) (level_lines i name ts ++ x) → Good P (record { stream = name; bitrates = bs }) (cond b (level_line i t ++ level_lines (i + 1) name ts) (level_lines i name ts) ++ x)
    by_test true is more other =
        let T : List ℕ → Type 0 = λ l. Good P (record { stream = name; bitrates = bs }) l in
        let here : R name t.bitrate = same t is lines.0.2 in
        let none = level_front_none i t.bitrate (level_more t) (omega (arith, fits)) (omega (arith, lines.0.0)) lines.0.1 in
        rw add-one
        (subst T (sym (append_assoc (level_line i t) (level_lines (suc i) name ts) x))
        (level_read P (record { stream = name; bitrates = bs }) i t (level_lines (suc i) name ts ++ x) (omega (arith, fits)) lines.0.0 none (more (all_join (R name) bs (t.bitrate ∷ []) rates (here, tt)))))
    by_test false is more other = other
