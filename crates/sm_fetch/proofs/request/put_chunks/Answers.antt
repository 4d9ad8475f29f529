use Rattle.std.proofs.Common.{◌≡◌, ◌++◌, ◌+◌, ◌-◌, take, drop, ap, ◌∙◌, arith}
use Rattle.std.specs.List.{flat_map}
use Rattle.sm_fetch.specs.Requests.{chunk, pieces}
use Rattle.sm_fetch.proofs.Chunks.{chunk_on, all_put}
use Rattle.sm_fetch.proofs.request.put_chunks.Goals as goal

pub loop-at-preserved : goal.loop-at-preserved
loop-at-preserved c = record {
  within = omega (arith, c.min-count.ensures);
  joined = chunk_on c.args.body.now c.loop-at.out.items c.put_chunk.new.out.items c.loop-at.at c.min-count.result c.loop-at-test.true c.min-count.ensures
      (c.in_ok-put_chunk.ensures ∙ (let e : c.loop-at.at + c.min-count.result - c.loop-at.at ≡ c.min-count.result = omega arith in ap (λ n. c.loop-at.out.items ++ chunk (take n (drop c.loop-at.at c.args.body.now))) e))
      ∙ c.loop-at.invariant.joined;
}

pub returns : goal.returns
returns c =
    all_put c.args.body.now c.loop-at.out.items (c.args.out.now.items ++ flat_map chunk (pieces c.args.body.now)) c.loop-at.at c.loop-at-test.false c.loop-at.invariant.joined
