use Rattle.std.proofs.Common.{◌≡◌, Some, None, sym, ap, ◌∙◌}
use Rattle.std.specs.List.{position}
use Rattle.sm_log.specs.Adds.{place_of}
use Rattle.sm_catalog.specs.Content.{Content}
use Rattle.sm_catalog.proofs.Lookups.{is_the, no_place, kept_place}
use Rattle.sm_catalog.proofs.catalog.Catalog.place.Goals as goal

pub returns-in_err-track : goal.returns-in_err-track
returns-in_err-track c =
    let x = c.args.address.now in
    let i = c.self.inside in
    let e : position (is_the x.stream x.bitrate) i.channel ≡ None = sym (rw (c.as_slice.ensures, c.as_bytes-stream.ensures.same) at c.in_err-track.ensures) in
    c.from_residual.ensures ∙ sym (no_place x i.channel i.adds.items c.self.invariant.within e) ∙ ap (λ (t : Content). place_of x t.adds) c.self.view_is

pub returns : goal.returns
returns c =
    let x = c.args.address.now in
    let i = c.self.inside in
    let e : position (is_the x.stream x.bitrate) i.channel ≡ Some c.in_ok-track.track = sym (rw (c.as_slice.ensures, c.as_bytes-stream.ensures.same) at c.in_ok-track.ensures) in
    kept_place x i.channel i.adds.items i.kept.items i.streams.items _ _ c.in_ok-track.track c.index.result.now c.get.result c.self.invariant e c.index.ensures c.get.ensures ∙ ap (λ (t : Content). place_of x t.adds) c.self.view_is
