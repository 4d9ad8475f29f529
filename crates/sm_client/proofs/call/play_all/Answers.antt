use Rattle.std.proofs.Common.{refl, arith, sym}
use Rattle.sm_client.proofs.Dials.{left-same, left-then, left-dropped}
use Rattle.sm_client.proofs.Playing.{part-by, playing-start, playing-more, playing-ended, playing-done}
use Rattle.sm_client.proofs.call.play_all.Goals as goal

pub loop-name-init : goal.loop-name-init
loop-name-init g c = record {
  playing = playing-start _ _ _ _ _ _ _;
  place = refl;
  few = omega arith;
  later = omega arith;
  dial = left-same (g.met.C.Dial.later_same _);
}

pub loop-name-preserved : goal.loop-name-preserved
loop-name-preserved g c =
    let i = c.loop-name.invariant in
    let e = c.play-count.ensures in
    record {
      playing = playing-more (g.T.Tracks.held c.play-count.new.tracks) i.playing (omega (arith, c.loop-name-test.true, i.place)) (rw i.place (sym c.name-item.is))
          (part-by c.requires.tries c.requires.refresh e.streamed) c.in-Done.is e.others;
      place = omega (arith, i.place);
      few = omega (arith, i.few, e.few, c.requires.count);
      later = omega (arith, i.later, e.cause.later);
      dial = left-dropped (left-then g.met.C.Dial.later_then i.dial e.dial);
    }

pub returns-clause-plays : goal.returns-clause-plays
returns-clause-plays g c = rw c.as_slice-names.ensures at (playing-done c.loop-name.invariant.playing (omega (arith, c.loop-name-test.false, c.loop-name.invariant.place)))

pub returns-in_default-clause-plays : goal.returns-in_default-clause-plays
returns-in_default-clause-plays g c =
    let i = c.loop-name.invariant in
    let e = c.play-count.ensures in
    rw c.as_slice-names.ensures at
    (playing-ended (g.T.Tracks.held c.play-count.new.tracks) i.playing (omega (arith, c.loop-name-test.true, i.place)) (rw i.place (sym c.name-item.is))
    (part-by c.requires.tries c.requires.refresh e.streamed) c.in_default.not-Done e.others)

pub returns-in_default-clause-dial : goal.returns-in_default-clause-dial
returns-in_default-clause-dial g c = left-then g.met.C.Dial.later_then c.loop-name.invariant.dial c.play-count.ensures.dial
