use Rattle.std.proofs.Common.{string_bytes}
use Rattle.sm_tool.specs.Stores.{at_folder}
use Rattle.sm_tool.proofs.Storing.{unlisted, unselected, unwritten_listed}
use Rattle.sm_tool.proofs.stores.list.Goals as goal

pub returns-in-Err-clause-selected : goal.returns-in-Err-clause-selected
returns-in-Err-clause-selected g c =
    unselected c.in-Err.fault c.refused.result c.or_starved.result (at_folder (string_bytes c.args.store))
    (g.S.Disk.seen.view c.args.site.now) (g.S.Disk.seen.view c.list_store.new.site) c.refused.ensures c.or_starved.ensures c.in-Err.ensures.chosen

pub returns-in-Err-clause-means : goal.returns-in-Err-clause-means
returns-in-Err-clause-means g c =
    unlisted g.S.Disk.seen c.args.site.now c.list_store.new.site c.in-Err.fault c.refused.result c.or_starved.result c.in-Err.ensures.why
    c.refused.ensures c.or_starved.ensures

pub returns-in-Err-clause-stores : goal.returns-in-Err-clause-stores
returns-in-Err-clause-stores g c = record {
  lasts = c.list_store.ensures.stores.lasts;
  untouched = λ r.
      unwritten_listed g.S.Disk.seen c.args.site.now c.list_store.new.site c.in-Err.fault c.refused.result c.or_starved.result r.0 c.in-Err.ensures.why
      c.refused.ensures c.or_starved.ensures r.1;
  spared = c.list_store.ensures.stores.spared;
}

pub returns-in-Ok-clause-stores : goal.returns-in-Ok-clause-stores
returns-in-Ok-clause-stores g c = record { lasts = c.list_store.ensures.stores.lasts; untouched = λ r. absurd (cc); spared = c.list_store.ensures.stores.spared }
