use Rattle.std.proofs.Common.{◌≡◌, Some, None}
use Rattle.std.specs.List.{position}
use Rattle.sm_catalog.proofs.Lookups.{is_the, lacks_is}
use Rattle.sm_catalog.proofs.checked.lacks.Goals as goal

pub returns-in-None : goal.returns-in-None
returns-in-None c =
    let t = c.args.track.now in
    let e : None ≡ position (is_the t.name t.bitrate) c.args.channel.now = rw c.as_bytes.ensures.same at c.in-None.ensures in
    lacks_is t.name t.bitrate c.args.channel.now None e

pub returns-in-Some : goal.returns-in-Some
returns-in-Some c =
    let t = c.args.track.now in
    let e : Some c.in-Some.field-0 ≡ position (is_the t.name t.bitrate) c.args.channel.now = rw c.as_bytes.ensures.same at c.in-Some.ensures in
    lacks_is t.name t.bitrate c.args.channel.now (Some c.in-Some.field-0) e
