use Rattle.std.proofs.Common.{string_bytes}
use Rattle.sm_tool.specs.Stores.{at_folder}
use Rattle.sm_tool.proofs.Telling.{export_placed, export_selected, told_so}
use Rattle.sm_tool.proofs.exports.export.Goals as goal

pub returns-clause-selected : goal.returns-clause-selected
returns-clause-selected g c =
    export_selected c.export_store-comes.result c.told.result c.or_starved.result (at_folder (string_bytes c.args.order.store)) (g.S.Disk.seen.view c.args.site.now) (g.S.Disk.seen.view c.export_store-comes.new.site)
    c.told.ensures.told c.or_starved.ensures c.export_store-comes.ensures.chosen

pub returns-clause-means : goal.returns-clause-means
returns-clause-means g c =
    (c.export_store-comes.result, c.export_store-comes.ensures.means, told_so c.export_store-comes.result c.told.result c.or_starved.result c.told.ensures.told c.told.ensures.unwritten c.or_starved.ensures)

pub returns-clause-stores : goal.returns-clause-stores
returns-clause-stores g c = record {
  lasts = c.export_store-comes.ensures.stores.lasts;
  untouched = λ r. c.export_store-comes.ensures.stores.untouched
      (export_placed c.export_store-comes.result c.told.result c.or_starved.result r.0 c.told.ensures.told c.or_starved.ensures r.1);
  spared = c.export_store-comes.ensures.stores.spared;
}
