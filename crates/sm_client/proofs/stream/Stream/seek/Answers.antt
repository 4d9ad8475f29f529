use Rattle.std.proofs.Common.{sym, ◌∙◌}
use Rattle.sm_client.proofs.Dials.{left-same, left-then, left-carried}
use Rattle.sm_client.proofs.Seeks.{seeking-start, seeking-more, seeking-found, seeking-ended}
use Rattle.sm_client.proofs.stream.Stream.seek.Goals as goal

pub loop-standing-init : goal.loop-standing-init
loop-standing-init g c = record { seeking = seeking-start _ _ _ _ c.requires.levels; dial = left-same (g.met.C.Dial.later_same _) }

pub loop-standing-preserved : goal.loop-standing-preserved
loop-standing-preserved g c = record {
  seeking = seeking-more _ c.loop-standing.invariant.seeking (λ q h more. c.in_default.ensures.none q h (sym
      (c.is_known.ensures q h) ∙ c.loop-standing-test.true) more) c.in_default-relist.ensures.relists c.in_default-relist.ensures.written c.in_default-relist.ensures.levels;
  dial = left-then g.met.C.Dial.later_then c.loop-standing.invariant.dial c.in_default-relist.ensures.dial;
}

pub returns-clause-sought : goal.returns-clause-sought
returns-clause-sought g c p number = seeking-found c.loop-standing.invariant.seeking c.loop-standing-test.false c.is_known.ensures p

pub returns-in-Some-relist-clause-sought : goal.returns-in-Some-relist-clause-sought
returns-in-Some-relist-clause-sought g c =
    seeking-ended c.loop-standing.invariant.seeking (λ q h more. c.in_default.ensures.none q h (sym (c.is_known.ensures q h) ∙ c.loop-standing-test.true) more) c.in-Some-relist.ensures.relists

pub returns-in-Some-relist-clause-dial : goal.returns-in-Some-relist-clause-dial
returns-in-Some-relist-clause-dial g c = left-then g.met.C.Dial.later_then c.loop-standing.invariant.dial c.in-Some-relist.ensures.dial

pub returns-in-Some-clause-dial : goal.returns-in-Some-clause-dial
returns-in-Some-clause-dial g c = left-carried _ c.loop-standing.invariant.dial c.in-Some.ensures.quiet
