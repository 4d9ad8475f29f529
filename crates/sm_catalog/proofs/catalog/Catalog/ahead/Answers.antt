use Rattle.std.proofs.Common.{◌≡◌, Some, None, sym, ap, ◌∙◌}
use Rattle.std.specs.List.{position, slice_get}
use Rattle.sm_model.specs.Same.{is_same}
use Rattle.sm_log.specs.Times.{entry_at}
use Rattle.sm_log.specs.Adds.{listed, ahead, behind}
use Rattle.sm_catalog.specs.Content.{Content, Lane}
use Rattle.sm_catalog.specs.Whole.{adds_in}
use Rattle.sm_catalog.proofs.Lookups.{none_named, no_times, found_lane}
use Rattle.sm_catalog.proofs.catalog.Catalog.ahead.Goals as goal

pub returns-in_err-lane : goal.returns-in_err-lane
returns-in_err-lane c =
    let s = c.args.stream.now in
    let i = c.self.inside in
    let adds = adds_in i.channel i.adds.items in
    let e : position (λ (l : Lane). is_same l.name s) i.streams.items ≡ None = sym (rw (c.deref.ensures.value, c.as_bytes.ensures.same) at c.in_err-lane.ensures) in
    let none = no_times s i.channel i.adds.items c.self.invariant.within (none_named s i.channel i.streams.items c.self.invariant.names e) in
    c.from_residual.ensures ∙ sym (ap (λ ts. slice_get (behind (listed i.channel adds s) c.args.time (entry_at c.args.time ts)) c.args.index) none)
    ∙ ap (λ (t : Content). slice_get (ahead t.channel t.adds s c.args.time) c.args.index) c.self.view_is

pub returns : goal.returns
returns c =
    let s = c.args.stream.now in
    let i = c.self.inside in
    let adds = adds_in i.channel i.adds.items in
    let e : position (λ (l : Lane). is_same l.name s) i.streams.items ≡ Some c.in_ok-lane.lane = sym (rw (c.deref.ensures.value, c.as_bytes.ensures.same) at c.in_ok-lane.ensures) in
    let f = found_lane s i.channel i.adds.items i.kept.items i.streams.items _ _ c.in_ok-lane.lane c.index.result.now c.self.invariant e c.index.ensures in
    c.ahead.ensures
    ∙ ap (λ ls. slice_get (behind ls c.args.time (entry_at c.args.time c.index.result.now.times)) c.args.index) f.listed
    ∙ ap (λ ts. slice_get (behind (listed i.channel adds s) c.args.time (entry_at c.args.time ts)) c.args.index) f.times
    ∙ ap (λ (t : Content). slice_get (ahead t.channel t.adds s c.args.time) c.args.index) c.self.view_is
