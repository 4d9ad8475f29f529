use Rattle.std.proofs.Common.{◌≡◌, ℕ, Option, Some, None, is_some, sym, ap, ◌∙◌}
use Rattle.std.specs.List.{position}
use Rattle.sm_model.specs.Same.{is_same}
use Rattle.sm_log.specs.Adds.{track_at, judged_by, verdict}
use Rattle.sm_catalog.specs.Content.{Content, Lane}
use Rattle.sm_catalog.specs.Whole.{adds_in}
use Rattle.sm_catalog.proofs.Lookups.{is_the, no_track, found_track, not_declared, none_named, found_lane, kept_place, undeclared, verdict_is}
use Rattle.sm_catalog.proofs.catalog.Catalog.judge.Goals as goal

pub returns-in_default-clause-verdict : goal.returns-in_default-clause-verdict
returns-in_default-clause-verdict c =
    let x = c.args.address.now in
    let i = c.self.inside in
    let e : position (is_the x.stream x.bitrate) i.channel ≡ None = sym (rw (c.as_slice-channel.ensures, c.as_bytes-stream.ensures.same) at c.in_default.ensures) in
    undeclared i.channel (adds_in i.channel i.adds.items) x c.args.duration (no_track x.stream x.bitrate i.channel e) ∙ ap (λ (t : Content). verdict t.channel t.adds x c.args.duration) c.self.view_is

pub returns-in_default-stream_place-clause-verdict : goal.returns-in_default-stream_place-clause-verdict
returns-in_default-stream_place-clause-verdict c =
    let x = c.args.address.now in
    let i = c.self.inside in
    let e : position (λ (l : Lane). is_same l.name x.stream) i.streams.items ≡ None = sym (rw (c.deref.ensures.value, c.as_bytes-stream.ensures.same) at c.in_default-stream_place.ensures) in
    let none = none_named x.stream i.channel i.streams.items c.self.invariant.names e in
    undeclared i.channel (adds_in i.channel i.adds.items) x c.args.duration (not_declared x.stream x.bitrate i.channel none) ∙ ap (λ (t : Content). verdict t.channel t.adds x c.args.duration) c.self.view_is

pub returns-clause-verdict : goal.returns-clause-verdict
returns-clause-verdict c =
    let x = c.args.address.now in
    let i = c.self.inside in
    let e : position (is_the x.stream x.bitrate) i.channel ≡ Some c.in-Some.track = sym (rw (c.as_slice-channel.ensures, c.as_bytes-stream.ensures.same) at c.in-Some.ensures) in
    let at : position (λ (l : Lane). is_same l.name x.stream) i.streams.items ≡ Some c.in-Some-stream_place.lane = sym (rw (c.deref.ensures.value, c.as_bytes-stream.ensures.same) at c.in-Some-stream_place.ensures) in
    let f = found_lane x.stream i.channel i.adds.items i.kept.items i.streams.items _ _ c.in-Some-stream_place.lane c.index-2.result.now c.self.invariant at c.index-2.ensures in
    let t = found_track x.stream x.bitrate i.channel c.in-Some.track e in
    let kept = kept_place x i.channel i.adds.items i.kept.items i.streams.items _ _ c.in-Some.track c.index.result.now c.get-kept.result c.self.invariant e c.index.ensures c.get-kept.ensures in
    c.judged.ensures ∙ ap (λ (k : Option ℕ). judged_by k c.decide.result) kept
    ∙ verdict_is i.channel (adds_in i.channel i.adds.items) x c.args.duration c.index-2.result.now.times c.decide.result t.declared f.times c.decide.ensures
    ∙ ap (λ (t : Content). verdict t.channel t.adds x c.args.duration) c.self.view_is

pub returns-clause-declared : goal.returns-clause-declared
returns-clause-declared c = λ new.
    let x = c.args.address.now in
    let i = c.self.inside in
    let e : position (is_the x.stream x.bitrate) i.channel ≡ Some c.in-Some.track = sym (rw (c.as_slice-channel.ensures, c.as_bytes-stream.ensures.same) at c.in-Some.ensures) in
    sym (ap (λ (t : Content). is_some (track_at x.stream x.bitrate t.channel)) c.self.view_is) ∙ (found_track x.stream x.bitrate i.channel c.in-Some.track e).declared
