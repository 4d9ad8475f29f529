use Rattle.std.proofs.Common.{◌<◌, List, length, sym, subst}
use Rattle.sm_model.specs.declared.track.Track.{Track}
use Rattle.sm_archive.proofs.Declarings.{lacks_there, clash_there, refused_lack, refused_differ}
use Rattle.sm_archive.proofs.archive.Archive.compare.Goals as goal

pub track_at-track-requires : goal.track_at-track-requires
track_at-track-requires c = subst (λ (l : List Track). c.in-NotDeclared.index < length l) (sym c.requires) (lacks_there c.args.index.now.catalog.channel c.args.channel.now c.in-NotDeclared.index (sym c.in-NotDeclared.ensures))

pub track_at-track-requires-in-Clash : goal.track_at-track-requires-in-Clash
track_at-track-requires-in-Clash c = subst (λ (l : List Track). c.in-Clash.index < length l) (sym c.requires) (clash_there c.args.index.now.catalog.channel c.args.channel.now c.in-Clash.index (sym c.in-Clash.ensures))

pub returns-in-NotDeclared : goal.returns-in-NotDeclared
returns-in-NotDeclared c = refused_lack c.args.index.now.catalog.channel c.args.channel.now c.args.tracks c.in-NotDeclared.index c.track_at-track.result (sym c.in-NotDeclared.ensures) c.requires c.track_at-track.ensures

pub returns-in-Clash : goal.returns-in-Clash
returns-in-Clash c = refused_differ c.args.index.now.catalog.channel c.args.channel.now c.args.tracks c.in-Clash.index c.track_at-track-in-Clash.result (sym c.in-Clash.ensures) c.requires c.track_at-track-in-Clash.ensures
