use Rattle.std.proofs.Common.{◌≡◌, List, [], ◌++◌, None, refl}
use Rattle.sm_conn.specs.Parts.{PartItem}
use Rattle.sm_wire.specs.declared.item.WireItem.{WireItem}
use Rattle.sm_wire.specs.Wire.{wire}
use Rattle.sm_serve.proofs.live.Live.new.Goals as goal

nothing_read : (more : List PartItem) (items : List WireItem) → wire None more ≡ items → wire None ([] ++ more) ≡ wire None [] ++ items
unfolding wire
nothing_read more items left = left

pub returns : goal.returns
returns c = record {
  number_is = refl;
  rests = record { parts = []; stands = c.in_ok-conn.ensures; place = None; place_is = tt; later = λ more items left. nothing_read more items left };
  counts = refl;
}
