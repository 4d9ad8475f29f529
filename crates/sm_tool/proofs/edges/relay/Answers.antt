use Rattle.std.proofs.Common.{◌∙◌, inl, inr, ap, Result, Err}
use Rattle.sm_edge.specs.declared.relaying.StoreRelay.{StoreRelay}
use Rattle.sm_command.specs.declared.fault.StoreFault.{StoreFault}
use Rattle.sm_words.specs.Orders.{pulling_of}
use Rattle.sm_tool.specs.Edges.{Dialing, at_edge, plan_of}
use Rattle.sm_tool.specs.Stores.{Tells}
use Rattle.sm_tool.proofs.Pulling.{told_if, told_or, relay_is_store, relayed_at}
use Rattle.sm_tool.proofs.Storing.{placed_by, selected, unselected}
use Rattle.sm_tool.proofs.edges.relay.Goals as goal

pub returns-in-Ok-clause-selected : goal.returns-in-Ok-clause-selected
returns-in-Ok-clause-selected g c = selected c.or_starved.result (at_edge (pulling_of c.args.order)) (g.S.Disk.seen.view c.args.site.now) (g.S.Disk.seen.view c.relay_store.new.site) c.in-Ok.ensures.chosen

pub returns-clause-selected : goal.returns-clause-selected
returns-clause-selected g c =
    unselected c.in-Err.fault c.refused.result c.or_starved-in-Err.result (at_edge (pulling_of c.args.order))
    (g.S.Disk.seen.view c.args.site.now) (g.S.Disk.seen.view c.relay_store.new.site) c.refused.ensures c.or_starved-in-Err.ensures c.in-Err.ensures.chosen

pub returns-in-Ok-clause-means : goal.returns-in-Ok-clause-means
returns-in-Ok-clause-means g c =
    let t : Dialing g.row.C.Denot = record { log = g.C.Dial.log; store = g.C.Dial.store; later = g.C.Dial.later; faults = g.C.Dial.dial_faults; chosen = g.C.Dial.chosen } in
    let r = c.in-Ok.relay in
    inl (
      r.channel,
      r.report,
      relayed_at g.S.Disk.seen t _ _ (at_edge (pulling_of c.args.order)) (plan_of (pulling_of c.args.order)) c.args.site.now c.relay_store.new.site c.args.dial.now c.relay_store.new.dial r.channel
          _ _ (c.as_str.ensures.value ∙ c.args.order.same) r.report c.in-Ok.ensures.relayed,
      told_or _ c.relayed.result c.or_starved.result c.relayed.ensures.told c.relayed.ensures.unwritten c.or_starved.ensures,
    )

pub returns-clause-means : goal.returns-clause-means
returns-clause-means g c =
    inr (c.in-Err.fault, c.in-Err.ensures.why, c.in-Err.ensures.unasked, told_if (λ a. Tells c.in-Err.fault a) c.refused.result c.or_starved-in-Err.result c.refused.ensures c.or_starved-in-Err.ensures)

pub returns-in-Ok-clause-stores : goal.returns-in-Ok-clause-stores
returns-in-Ok-clause-stores g c = record {
  lasts = c.relay_store.ensures.stores.lasts;
  untouched = λ r. absurd (relay_is_store c.in-Ok.relay.channel c.in-Ok.relay.report c.relayed.result c.or_starved.result r.0 c.relayed.ensures.told c.or_starved.ensures r.1);
  spared = c.relay_store.ensures.stores.spared;
}

pub returns-clause-stores : goal.returns-clause-stores
returns-clause-stores g c = record {
  lasts = c.relay_store.ensures.stores.lasts;
  untouched = λ r.
      let p = placed_by c.in-Err.fault c.refused.result c.or_starved-in-Err.result r.0 c.refused.ensures c.or_starved-in-Err.ensures r.1 in
      c.in-Err.ensures.stores.untouched (p.0, ap (λ (w : StoreFault). let r : Result StoreRelay StoreFault = Err w in r) p.1);
  spared = c.relay_store.ensures.stores.spared;
}
