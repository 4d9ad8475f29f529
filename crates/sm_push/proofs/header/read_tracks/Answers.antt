use Rattle.std.proofs.Common.{refl, sym}
use Rattle.sm_push.proofs.header.read_tracks.Goals as goal

pub returns-in-Ok : goal.returns-in-Ok
returns-in-Ok c = sym (c.live_manifest_has_one_answer.ensures.one c.args.text.now _ c.in-Ok.ensures.read)

pub returns-in-Err-Bad : goal.returns-in-Err-Bad
returns-in-Err-Bad c = (c.in-Err-Bad.at, refl, sym (c.live_manifest_has_one_answer.ensures.one c.args.text.now _ (rw c.in-Err-Bad.field-0-is at c.in-Err-Bad.ensures.read)))
