use Rattle.std.proofs.Common.{length, sym, ◌∙◌}
use Rattle.sm_smil.specs.declared.raw_track.Form.TheVariants.{Pushed}
use Rattle.sm_smil.proofs.Fit.{all_fit}
use Rattle.sm_smil.proofs.Valid.{faultless, is_smil}
use Rattle.sm_smil.proofs.WalkLemmas.{few_tracks}
use Rattle.sm_smil.proofs.read.read_live_manifest.Goals as goal

pub smil_tracks-requires : goal.smil_tracks-requires
smil_tracks-requires c =
    rw c.done.ensures (all_fit Pushed (length c.args.text.now) c.in_ok-walk.bad c.in_ok-walk.walk (sym c.fault_of.ensures ∙ c.in_default.is))

pub returns-clause-valid : goal.returns-clause-valid
returns-clause-valid c =
    let good = faultless Pushed (length c.args.text.now) c.in_ok-walk.bad c.in_ok-walk.walk (sym c.fault_of.ensures ∙ c.in_default.is) in
    let few = few_tracks Pushed c.in_ok-walk.ensures.0 c.in_ok-walk.walk c.in_ok-walk.ensures.2 in
    rw (c.from_vec.ensures, c.in_ok-smil_tracks.ensures, c.done.ensures) (is_smil c.in_ok-walk.walk.done good few)
