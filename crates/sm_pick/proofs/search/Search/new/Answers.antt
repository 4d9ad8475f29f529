use Rattle.std.proofs.Common.{ap, sym, inl}
use Rattle.sm_model.specs.Items.{first_from}
use Rattle.sm_pick.specs.Search.{fragments_in}
use Rattle.sm_pick.proofs.Searching.{nothing_yet}
use Rattle.sm_pick.proofs.search.Search.new.Goals as goal

pub returns-clause-looks : goal.returns-clause-looks
returns-clause-looks c = inl (record {
  stands = c.new.ensures.stands;
  partial = c.new.ensures.partial;
  count = ap fragments_in (sym nothing_yet);
  found = ap (first_from 1 c.args.track c.args.time) (sym nothing_yet);
})
