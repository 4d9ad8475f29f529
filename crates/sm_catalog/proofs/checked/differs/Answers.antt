use Rattle.std.proofs.Common.{◌≡◌, Some, None, not, sym, ap, ◌∙◌}
use Rattle.std.specs.List.{position}
use Rattle.sm_model.specs.declared.track.Track.{Track}
use Rattle.sm_log.specs.Adds.{track_at}
use Rattle.sm_log.specs.Headers.{differs, is_same_track}
use Rattle.sm_catalog.proofs.Lookups.{is_the, no_track, none_is, track_is}
use Rattle.sm_catalog.proofs.checked.differs.Goals as goal

pub returns-in-None : goal.returns-in-None
returns-in-None c =
    let t = c.args.track.now in
    let e : position (is_the t.name t.bitrate) c.args.channel.now ≡ None = sym (rw c.as_bytes.ensures.same at c.in-None.ensures) in
    ap (differs t) (sym (none_is (track_at t.name t.bitrate c.args.channel.now) (no_track t.name t.bitrate c.args.channel.now e)))

pub returns-in-Some : goal.returns-in-Some
returns-in-Some c =
    let t = c.args.track.now in
    let e : position (is_the t.name t.bitrate) c.args.channel.now ≡ Some c.in-Some.place = sym (rw c.as_bytes.ensures.same at c.in-Some.ensures) in
    let d = c.index-channel-place.result in
    ap not c.is_same_track.ensures ∙ ap (λ (u : Track). not (is_same_track u t)) c.index-channel-place.is ∙ ap (differs t) (sym (track_is t.name t.bitrate c.args.channel.now c.in-Some.place d e))
