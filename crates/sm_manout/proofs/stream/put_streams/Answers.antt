use Rattle.std.proofs.Common.{◌+◌, ◌++◌, ℕ, List, take, drop, ◌∙◌, ap, arith}
use Rattle.sm_log.specs.Adds.{listed}
use Rattle.sm_manout.specs.ManifestText.{streams_lines}
use Rattle.sm_manout.proofs.StreamLemmas.{streams_more}
use Rattle.sm_manout.proofs.stream.put_streams.Goals as goal

pub loop-i-preserved : goal.loop-i-preserved
loop-i-preserved c =
    let channel = c.args.catalog.now.channel in
    let times : List ℕ → List (ℕ × ℕ) = listed channel c.args.catalog.now.adds in
    let ts = c.as_slice-channel.result.now in
    let i = c.loop-i.i in
    let t = c.index-channel-i.result in
    ap (λ (l : List ℕ). l ++ streams_lines channel times (take (i + 1) ts) (drop (i + 1) ts)) c.in_ok-put_first.ensures
    ∙ streams_more channel times ts c.loop-i.out.items i t (omega arith) c.index-channel-i.is ∙ c.loop-i.invariant
