-- A box that was written is read again.
use Rattle.std.proofs.Common.{◌≡◌, ◌<◌, ◌+◌, ◌^◌, ℕ, true, List, ◌++◌, length, refl, ap, ◌∙◌}
use Rattle.sm_model.specs.Boxes.{Box, box_of, starts_whole}
use Rattle.sm_model.specs.FragText.{box}
use Rattle.sm_model.proofs.WrittenBoxes.{IsText, one_whole, box_is}
use Rattle.sm_box.specs.declared.head.Head.TheVariants.{Whole}
use Rattle.sm_box.specs.Heads.{head_of}
use Rattle.sm_box.proofs.HeadLemmas.{whole_head}
use Rattle.sm_box.proofs.StayLemmas.{whole_stays, box_stays}

-- these make a box whose size has 32 bits
pub is_text : (kind body : List ℕ) → length kind ≡ 4 → 8 + length body < 2 ^ 32 → IsText (8 + length body) kind body
is_text kind body k f = record { size_is = refl; fits = f; kind_is = k }

pub written_whole : (size : ℕ) (kind body rest : List ℕ) → IsText size kind body → starts_whole (box size kind body ++ rest) ≡ true
written_whole size kind body rest t = whole_stays (box size kind body) rest (one_whole size kind body t).whole

pub written_head : (size : ℕ) (kind body rest : List ℕ) → IsText size kind body → head_of (box size kind body ++ rest) ≡ Whole kind 8 size
unfolding box_of
written_head size kind body rest t =
    whole_head (box size kind body ++ rest) (written_whole size kind body rest t)
    ∙ ap (λ (x : Box). Whole x.kind x.head x.size) (box_stays (box size kind body) rest (one_whole size kind body t).whole ∙ box_is size kind body t)
