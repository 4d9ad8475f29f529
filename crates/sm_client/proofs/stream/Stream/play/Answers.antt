use Rattle.std.proofs.Common.{refl, ◌∙◌, ap, arith, ◌+◌}
use Rattle.std.proofs.KnownBytes.{Keeps-refl, Keeps-trans}
use Rattle.sm_client.proofs.Dials.{left-then}
use Rattle.sm_client.proofs.Streaming.{streaming-start, streaming-more, streaming-ended, streaming-done, ends-lists, begun-levels, begun-written}
use Rattle.sm_client.proofs.stream.Stream.play.Goals as goal

pub loop-init : goal.loop-init
loop-init g c = record {
  streaming = streaming-start _ _ _ c.in-Stands.ensures.dial.dialed.grows c.in-Stands.ensures.began;
  levels = begun-levels c.in-Stands.ensures.began;
  written = begun-written c.in-Stands.ensures.began;
  others = λ k other. Keeps-refl _;
  later = omega arith;
  dial = c.in-Stands.ensures.dial;
}

pub loop-preserved : goal.loop-preserved
loop-preserved g c =
    let i = c.loop.invariant in
    let e = c.in_default.ensures in
    record {
      streaming = streaming-more i.streaming c.loop-test.true (e.added i.streaming.to i.streaming.holds (omega (arith, i.streaming.counted, c.loop-test.true)));
      levels = e.levels;
      written = e.written ∙ ap (λ n. n + 1) i.written;
      others = λ k other. Keeps-trans _ _ _ (i.others k other) (e.others k other);
      later = omega (arith, i.later, e.cause.later);
      dial = left-then g.met.C.Dial.later_then i.dial e.dial;
    }

pub returns-in-Ended-clause-streamed : goal.returns-in-Ended-clause-streamed
returns-in-Ended-clause-streamed g c = ends-lists _ _ c.in-Ended.ensures.dial.dialed.grows c.in-Ended.ensures.began refl

pub returns-in-Some-clause-streamed : goal.returns-in-Some-clause-streamed
returns-in-Some-clause-streamed g c =
    let i = c.loop.invariant in
    streaming-ended i.streaming (c.in-Some.ensures.added i.streaming.to i.streaming.holds (omega (arith, i.streaming.counted, c.loop-test.true)))

pub returns-clause-streamed : goal.returns-clause-streamed
returns-clause-streamed g c = streaming-done _ c.loop.invariant.streaming (omega (arith, c.loop-test.false, c.loop.auto.counter-end))

pub returns-in-Some-clause-dial : goal.returns-in-Some-clause-dial
returns-in-Some-clause-dial g c = left-then g.met.C.Dial.later_then c.loop.invariant.dial c.in-Some.ensures.dial
