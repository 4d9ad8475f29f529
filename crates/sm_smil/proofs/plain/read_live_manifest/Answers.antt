use Rattle.sm_smil.specs.declared.raw_track.Form.TheVariants.{Pushed}
use Rattle.sm_smil.proofs.PlainLemmas.{faultless_fit}
use Rattle.sm_smil.proofs.plain.read_live_manifest.Goals as goal

pub smil_tracks-requires : goal.smil_tracks-requires
smil_tracks-requires c =
    faultless_fit Pushed _ _ _ _ _ _ _ _ c.deref.ensures.value c.deref-in-None.ensures.value c.in_ok-places.ensures c.deref-2.ensures.value
    (rw c.in-None.is at c.least.ensures) c.in_ok-tracks-in-None.ensures c.deref-in-None-2.ensures.value
