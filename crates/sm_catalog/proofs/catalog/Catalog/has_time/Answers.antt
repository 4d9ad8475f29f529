use Rattle.std.proofs.Common.{◌≡◌, ℕ, List, Some, None, is_some, sym, ap, ◌∙◌}
use Rattle.std.specs.List.{position}
use Rattle.sm_model.specs.Same.{is_same}
use Rattle.sm_log.specs.Times.{entry_at}
use Rattle.sm_log.specs.Adds.{times_of}
use Rattle.sm_catalog.specs.Content.{Content, Lane}
use Rattle.sm_catalog.proofs.Lookups.{none_named, no_times, found_lane}
use Rattle.sm_catalog.proofs.catalog.Catalog.has_time.Goals as goal

pub returns-in-None : goal.returns-in-None
returns-in-None c =
    let x = c.args.address.now in
    let i = c.self.inside in
    let e : position (λ (l : Lane). is_same l.name x.stream) i.streams.items ≡ None = sym (rw (c.deref.ensures.value, c.as_bytes.ensures.same) at c.in-None.ensures) in
    let none = no_times x.stream i.channel i.adds.items c.self.invariant.within (none_named x.stream i.channel i.streams.items c.self.invariant.names e) in
    sym (ap (λ (ts : List (ℕ × ℕ)). is_some (entry_at x.time ts)) none) ∙ ap (λ (t : Content). is_some (entry_at x.time (times_of x.stream t.adds))) c.self.view_is

pub returns-in-Some : goal.returns-in-Some
returns-in-Some c =
    let x = c.args.address.now in
    let i = c.self.inside in
    let e : position (λ (l : Lane). is_same l.name x.stream) i.streams.items ≡ Some c.in-Some.lane = sym (rw (c.deref.ensures.value, c.as_bytes.ensures.same) at c.in-Some.ensures) in
    let f = found_lane x.stream i.channel i.adds.items i.kept.items i.streams.items _ _ c.in-Some.lane c.index.result.now c.self.invariant e c.index.ensures in
    c.is_some.ensures ∙ ap is_some c.duration.ensures.duration ∙ ap (λ (ts : List (ℕ × ℕ)). is_some (entry_at x.time ts)) f.times ∙ ap (λ (t : Content). is_some (entry_at x.time (times_of x.stream t.adds))) c.self.view_is
