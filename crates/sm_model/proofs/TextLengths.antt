-- The lengths of the parts of a fragment's text.
use Rattle.std.proofs.Common.{◌≡◌, ◌+◌, ◌*◌, ℕ, Bool, List, [], ◌∷◌, length, arith, refl, length-append}
use Rattle.std.specs.List.{flat_map}
use Rattle.std.proofs.lemmas.List.Sums.{sum_by-cons}
use Rattle.sm_model.specs.declared.fragment.Fragment.{Fragment}
use Rattle.sm_model.specs.declared.sample.Sample.{Sample}
use Rattle.sm_model.specs.Fragments.{sample_bytes}
use Rattle.sm_model.specs.FragText.{row_text, pair, moof, moof_len, mfhd, traf_box, tfhd, trun, tfxd_box, tfrf, ahead_len, mdat}
use Rattle.sm_model.proofs.WrittenBoxes.{len32, len64}

ruleset lens = (length-append, len32, len64)

rows-len : (xs : List Sample) → length (flat_map row_text xs) ≡ 16 * length xs
rows-len [] = refl
rows-len (x ∷ xs) = simp lens (omega (arith, rows-len xs))

pairs-len : (ps : List (ℕ × ℕ)) → length (flat_map pair ps) ≡ 16 * length ps
pairs-len [] = refl
pairs-len (p ∷ ps) = simp lens (omega (arith, pairs-len ps))

bytes-len : (xs : List Sample) → length (flat_map (λ s. s.bytes) xs) ≡ sample_bytes xs
bytes-len [] = refl
bytes-len (x ∷ xs) = simp (lens, sum_by-cons) (omega (arith, bytes-len xs))

pub mfhd-len : (seq : ℕ) → length (mfhd seq) ≡ 16
mfhd-len seq = simp lens

pub tfhd-len : (id : ℕ) → length (tfhd id) ≡ 16
tfhd-len id = simp lens

pub trun-len : (start : ℕ) (signed : Bool) (samples : List Sample) → length (trun start signed samples) ≡ 20 + 16 * length samples
trun-len start signed samples = simp (lens, rows-len) (omega arith)

pub tfxd-len : (time duration : ℕ) → length (tfxd_box time duration) ≡ 44
tfxd-len time duration = simp lens

pub tfrf-len : (ahead : List (ℕ × ℕ)) → length (tfrf ahead) ≡ ahead_len ahead
tfrf-len [] = refl
tfrf-len (p ∷ ps) = simp lens (omega (arith, pairs-len ps))

pub traf-len : (id start : ℕ) (f : Fragment) (ahead : List (ℕ × ℕ)) → length (traf_box id start f ahead) ≡ 88 + 16 * length f.samples + ahead_len ahead
traf-len id start f ahead = simp (lens, rows-len, tfrf-len) (omega arith)

pub moof-len : (seq id : ℕ) (f : Fragment) (ahead : List (ℕ × ℕ)) → length (moof seq id f ahead) ≡ moof_len f.samples ahead
moof-len seq id f ahead = simp (lens, rows-len, tfrf-len) (omega arith)

pub mdat-len : (samples : List Sample) → length (mdat samples) ≡ 8 + sample_bytes samples
mdat-len samples = simp (lens, bytes-len) (omega arith)
