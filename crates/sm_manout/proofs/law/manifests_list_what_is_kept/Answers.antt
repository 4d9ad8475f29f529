use Rattle.std.proofs.Common.{◌≡◌, List, Option, sym, ap, ◌∙◌}
use Rattle.sm_model.specs.declared.track.Track.{Track}
use Rattle.sm_log.specs.Adds.{listed}
use Rattle.sm_log.specs.Logs.{adds_of, listed_by, listed_in}
use Rattle.sm_manout.specs.ManifestText.{manifest}
use Rattle.sm_manout.proofs.law.manifests_list_what_is_kept.Goals as goal

pub returns : goal.returns
returns c = λ log channel part more a sound is fits text shown.
    let log_says = c.sound_logs_can_be_listed.ensures in
    let same : manifest channel (listed channel (adds_of log)) ≡ manifest channel (listed_in log) = sym (ap (λ (o : Option (List Track)). manifest channel (listed_by o (adds_of log))) is) in
    let listed_there = c.manifests_list_what_is_listed.ensures channel (listed_in log) part more a (log_says.channel log channel sound is) fits
    (λ name. log_says.spans log name sound) (λ name. log_says.few log name sound) (text ∙ same) shown in
    c.what_is_listed_is_kept.ensures log channel a is listed_there.0 listed_there.1
