-- The steps, for the digests.
use Rattle.std.proofs.Common.{◌≡◌, ℕ, [], ◌∷◌, sym, subst, ◌∙◌}
use Rattle.crossbeam_utils.specs.Register.{Admits, TurnsAt, Forks, Merges}
use Rattle.sm_log.specs.Digests.{Digest, Extends}
use Rattle.sm_shelf.specs.Laying.{nothing}
use Rattle.sm_shelf.specs.Shelf.{Keeps, Sees}
use Rattle.sm_shelf.proofs.Grows.{extends_refl, extends_trans, least}
use Rattle.sm_shelf.proofs.Rises as rule

pub admits : Admits Keeps nothing
admits = rule.admits Extends extends_refl extends_trans nothing least

pub opens : (d : Digest) → Keeps d (nothing ∷ [])
opens = rule.opens Extends extends_refl extends_trans nothing least

pub turns : (seat : ℕ) (v d d' : Digest) → Extends d' d → TurnsAt Keeps seat v d d' Sees
turns = rule.turns Extends extends_refl extends_trans nothing least

pub forks : (seat : ℕ) (v : Digest) → Forks Keeps seat v v v
forks = rule.forks Extends extends_refl extends_trans nothing least

pub merges : (seat : ℕ) (v : Digest) (other : ℕ) (w : Digest) → Merges Keeps seat v other w w nothing
merges = rule.merges Extends extends_refl extends_trans nothing least

-- a look goes on from what was seen
pub looked_on : (v w w' y : Digest) → Sees v y y w → w' ≡ w → Extends w' v
looked_on v w w' y sees same = subst (λ (d : Digest). Extends d v) (sym (same ∙ sees.1)) sees.0

-- what holds of the digest that was looked at holds of the one seen
pub looked_at : (P : Digest → Type 0) (v w w' x y : Digest) → Sees v y y w → w' ≡ w → x ≡ y → P x → P w'
looked_at P v w w' x y sees same now is = subst P (sym (same ∙ sees.1)) (subst P now is)
