use Rattle.sm_words.specs.Orders.{serving_of}
use Rattle.sm_tool.specs.Stores.{chosen_of}
use Rattle.sm_tool.proofs.Storing.{ended_is_store, selected, unselected, unserved, unwritten_served}
use Rattle.sm_tool.proofs.stores.serve.Goals as goal

pub returns-in-Err-clause-means : goal.returns-in-Err-clause-means
returns-in-Err-clause-means g c =
    unserved g.S.Disk.seen c.args.order.ladder c.args.order.turns _ _ c.args.site.now c.serve_store.new.site c.in-Err.fault c.refused.result _ c.in-Err.ensures.why
    c.refused.ensures c.or_starved-in-Err.ensures

pub returns-in-Err-clause-stores : goal.returns-in-Err-clause-stores
returns-in-Err-clause-stores g c = record {
  lasts = c.serve_store.ensures.any_moment;
  untouched = λ r.
      unwritten_served g.S.Disk.seen c.args.order.ladder c.args.site.now c.serve_store.new.site c.in-Err.fault c.refused.result c.or_starved-in-Err.result r.0 c.in-Err.ensures.why
      c.refused.ensures c.or_starved-in-Err.ensures r.1;
  spared = c.serve_store.ensures.spared;
}

pub returns-in-Ok-clause-stores : goal.returns-in-Ok-clause-stores
returns-in-Ok-clause-stores g c = record {
  lasts = c.serve_store.ensures.any_moment;
  untouched = λ r. absurd (ended_is_store c.in-Ok.end c.ended.result c.or_starved.result r.0 c.ended.ensures c.or_starved.ensures r.1);
  spared = c.serve_store.ensures.spared;
}

pub returns-in-Err-clause-selected : goal.returns-in-Err-clause-selected
returns-in-Err-clause-selected g c =
    unselected c.in-Err.fault c.refused.result c.or_starved-in-Err.result (chosen_of (serving_of c.args.order))
    (g.S.Disk.seen.view c.args.site.now) (g.S.Disk.seen.view c.serve_store.new.site) c.refused.ensures c.or_starved-in-Err.ensures c.in-Err.ensures.chosen

pub returns-in-Ok-clause-selected : goal.returns-in-Ok-clause-selected
returns-in-Ok-clause-selected g c =
    selected c.or_starved.result (chosen_of (serving_of c.args.order)) (g.S.Disk.seen.view c.args.site.now) (g.S.Disk.seen.view c.serve_store.new.site) c.in-Ok.ensures.chosen
