-- What a site is selected with after a call that chose it.
use Rattle.std.proofs.Common.{◌≡◌, inl, Some, Result, Ok, Err, ◌∙◌}
use Rattle.sm_site.specs.Meanings.{Chosen, View, asked}
use Rattle.sm_command.specs.declared.fault.StoreFault.{StoreFault}
use Rattle.sm_command.specs.Choosing.{IsChosen}

-- a later part leaves what was chosen
pub chosen_still : {T : Type 0} (r : Result T StoreFault) (chosen : Chosen) (u v w : View) → v.chosen ≡ asked u.chosen (Some chosen) → w.chosen ≡ v.chosen → IsChosen r chosen u w
chosen_still (Ok x) chosen u v w is same = same ∙ is
chosen_still (Err why) chosen u v w is same = inl (same ∙ is)
