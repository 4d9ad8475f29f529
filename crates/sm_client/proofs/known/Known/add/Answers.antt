use Rattle.sm_client.proofs.Rows.{put_has, put_falls}
use Rattle.sm_client.proofs.known.Known.add.Goals as goal

pub invariant_of-self-in-Err : goal.invariant_of-self-in-Err
invariant_of-self-in-Err c =
    put_falls c.args.start c.in-Err.place c.self.inside.starts.items c.deref.result.now _ c.deref.ensures.value c.self.invariant
    c.in-Err.ensures.absent.0 c.in-Err.ensures.absent.2 c.in_ok-insert-in-Err.ensures.items

pub returns-in_ok-insert-in-Err-clause-has : goal.returns-in_ok-insert-in-Err-clause-has
returns-in_ok-insert-in-Err-clause-has c k =
    rw (← c.self.view_is) (put_has c.args.start c.in-Err.place c.self.inside.starts.items c.deref.result.now _ c.deref.ensures.value
    c.in-Err.ensures.absent.0 c.in_ok-insert-in-Err.ensures.items k)

pub returns-in_ok-insert-in-Err-clause-falls : goal.returns-in_ok-insert-in-Err-clause-falls
returns-in_ok-insert-in-Err-clause-falls c =
    put_falls c.args.start c.in-Err.place c.self.inside.starts.items c.deref.result.now _ c.deref.ensures.value c.self.invariant
    c.in-Err.ensures.absent.0 c.in-Err.ensures.absent.2 c.in_ok-insert-in-Err.ensures.items
