use Rattle.std.proofs.Common.{◌≡◌, Some, None, filter, sym, ap, ◌∙◌}
use Rattle.std.specs.List.{position}
use Rattle.sm_model.specs.Same.{is_same}
use Rattle.sm_log.specs.Adds.{listed, is_listed}
use Rattle.sm_catalog.specs.Content.{Content, Lane}
use Rattle.sm_catalog.specs.Whole.{adds_in}
use Rattle.sm_catalog.proofs.Lookups.{none_named, no_times, found_lane}
use Rattle.sm_catalog.proofs.catalog.Catalog.listed_times.Goals as goal

pub returns-in-None : goal.returns-in-None
returns-in-None c =
    let s = c.args.stream.now in
    let i = c.self.inside in
    let e : position (λ (l : Lane). is_same l.name s) i.streams.items ≡ None = sym (rw (c.deref.ensures.value, c.as_bytes.ensures.same) at c.in-None.ensures) in
    let none = no_times s i.channel i.adds.items c.self.invariant.within (none_named s i.channel i.streams.items c.self.invariant.names e) in
    sym (ap (λ ts. filter (is_listed i.channel (adds_in i.channel i.adds.items) s) ts) none) ∙ ap (λ (t : Content). listed t.channel t.adds s) c.self.view_is

pub returns-in-Some : goal.returns-in-Some
returns-in-Some c =
    let s = c.args.stream.now in
    let i = c.self.inside in
    let e : position (λ (l : Lane). is_same l.name s) i.streams.items ≡ Some c.in-Some.lane = sym (rw (c.deref.ensures.value, c.as_bytes.ensures.same) at c.in-Some.ensures) in
    let f = found_lane s i.channel i.adds.items i.kept.items i.streams.items _ _ c.in-Some.lane c.index.result.now c.self.invariant e c.index.ensures in
    c.listed.ensures ∙ f.listed ∙ ap (λ (t : Content). listed t.channel t.adds s) c.self.view_is
