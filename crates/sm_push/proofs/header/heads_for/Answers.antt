use Rattle.std.proofs.Common.{◌≡◌, ◌∙◌, List, ap, arith}
use Rattle.std.specs.Prelude.{Some, None}
use Rattle.sm_push.specs.Header.{heads_for, head_for}
use Rattle.sm_model.specs.declared.heads.TrackHead.{TrackHead}
use Rattle.sm_push.proofs.HeaderLemmas.{heads_on, heads_none, heads_all}
use Rattle.sm_push.proofs.header.heads_for.Goals as goal

pub returns-in-None : goal.returns-in-None
returns-in-None c =
    let none : None ≡ head_for c.track-item.result.id c.args.heads.now = cc in
    heads_none c.args.heads.now c.args.tracks.now c.loop-track.track-index c.track-item.result c.loop-track.found.items (omega arith) c.track-item.is none c.loop-track.invariant

pub loop-track-preserved : goal.loop-track-preserved
loop-track-preserved c =
    let some : Some c.in-Some.head ≡ head_for c.track-item.result.id c.args.heads.now = cc in
    heads_on c.args.heads.now c.args.tracks.now c.loop-track.track-index c.track-item.result c.in-Some.head c.loop-track.found.items _ (omega arith) c.track-item.is some c.loop-track.invariant c.in_ok-push-in-Some.ensures.items

pub returns : goal.returns
returns c =
    let all : Some c.loop-track.found.items ≡ heads_for c.args.heads.now c.args.tracks.now = heads_all c.args.heads.now c.args.tracks.now c.loop-track.track-index c.loop-track.found.items (omega arith) c.loop-track.invariant in
    ap (λ (hs : List TrackHead). Some hs) c.from_vec.ensures ∙ all
