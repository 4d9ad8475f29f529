use Rattle.std.proofs.Common.{rules, ◌≡◌, ◌∙◌, ◌<◌, Some, length, slice_get}
use Rattle.sm_catalog.specs.Whole.{add_in}
use Rattle.sm_show.proofs.Readings.{address_at_index}
use Rattle.sm_show.proofs.reading.address_at.Goals as goal

pub returns : goal.returns
returns c =
    let channel = c.args.catalog.now.channel in
    let tracks = c.as_slice-tracks.result.now in
    let at : slice_get c.args.catalog.now.adds c.args.index ≡ Some (add_in channel c.in-Some.added) = search rules in
    let within : c.in-Some.added.track < length tracks = search rules in (
      add_in channel c.in-Some.added,
      at,
      address_at_index channel tracks c.in-Some.added.track c.in-Some.added.time c.index-tracks-at.result c.index-tracks-at-2.result c.in_ok-copy.field-0
          (c.as_slice-tracks.ensures ∙ c.channel.ensures.same) within c.in_ok-copy.ensures,
    )
