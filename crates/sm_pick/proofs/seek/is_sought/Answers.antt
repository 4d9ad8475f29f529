use Rattle.std.proofs.Common.{◌≡◌, map, get_or, ◌∙◌}
use Rattle.sm_model.specs.Items.{item_of}
use Rattle.sm_pick.proofs.Searching.{no_id, header_lent, fragment_lent}
use Rattle.sm_pick.proofs.seek.is_sought.Goals as goal

pub returns-in_default : goal.returns-in_default
returns-in_default c = no_id c.args.track c.args.time c.args.items.now c.args.index c.in_default.ensures c.requires

pub returns-in-Header : goal.returns-in-Header
returns-in-Header c =
    let is : c.index-as_slice-index.result ≡ get_or (map item_of c.args.items.now) c.args.index c.index-as_slice-index.result = rw (← c.as_slice.ensures) c.index-as_slice-index.is in
    header_lent c.args.track c.args.time c.args.items.now c.args.index c.index-as_slice-index.result _ (record { inside = c.requires; is = is }) c.in-Header.is

pub returns-in-Frag : goal.returns-in-Frag
returns-in-Frag c =
    let is : c.index-as_slice-index.result ≡ get_or (map item_of c.args.items.now) c.args.index c.index-as_slice-index.result = rw (← c.as_slice.ensures) c.index-as_slice-index.is in
    let lent = fragment_lent c.args.track c.args.time c.args.items.now c.args.index c.index-as_slice-index.result c.in-Some.id c.in-Frag.fragment (record { inside = c.requires; is = is }) c.in-Frag.is c.in-Some.ensures in
    λ d. c.is_both.ensures ∙ lent d
