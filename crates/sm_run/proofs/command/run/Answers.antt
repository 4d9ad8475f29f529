use Rattle.std.proofs.Common.{refl}
use Rattle.sm_tool.proofs.Idling.{idle_stores}
use Rattle.sm_words.specs.Orders.{serving_of}
use Rattle.sm_run.proofs.Ending.{shown_of, shown_runs, starved_runs}
use Rattle.sm_run.proofs.command.run.Goals as goal

pub returns-in-Ok-Some-clause-run : goal.returns-in-Ok-Some-clause-run
returns-in-Ok-Some-clause-run g c =
    shown_runs g.S.Disk.seen _ _ _ _ _ (serving_of c.in-Ok-Some.order) c.in-Ok-Some.players _ _ _ _ _ _ _ _ _ _ _
    (shown_of c.in-Ok-Some.field-0 (c.in-Ok-Some.order, c.in-Ok-Some.players) _ c.in-Ok-Some.field-0-is c.in-Ok-Some.ensures.is) (record {
      answer = c.show-answer.result;
      means = c.show-answer.ensures.means;
      prints = c.print.ensures;
      counted = c.show-answer.ensures.counted;
      dial = refl;
      tracks = refl;
      dial_is = refl;
      stores = c.show-answer.ensures.stores;
    })

pub returns-in-Err-clause-run : goal.returns-in-Err-clause-run
returns-in-Err-clause-run g c =
    starved_runs g.S.Disk.seen _ _ _ _ _ _ _ _ c.args.site.now _ _ _ c.starved.ensures
    (idle_stores g.S.Disk.seen g.met.S.Disk.no_later g.met.S.Disk.at_now c.args.site.now _)
