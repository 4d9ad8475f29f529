use Rattle.std.proofs.Common.{◌∙◌, ap}
use Rattle.sm_client.specs.Stands.{ladder_of}
use Rattle.sm_client.proofs.Dials.{left-none, left-then, asked-left}
use Rattle.sm_client.proofs.Kept.{asked-behind, asked-kept}
use Rattle.sm_client.proofs.Pieces.{Chosen, chosen-address, piece-came, piece-once, address-is}
use Rattle.sm_client.proofs.stream.Stream.ask_once.Goals as goal

pub returns-clause-once : goal.returns-clause-once
returns-clause-once g c =
    let chosen : Chosen (record {
      pick = λ b. (goal.Policy-dyn g (b.vtable, b.value)).pick_after b.value;
      retired = λ b. (goal.Policy-dyn g (b.vtable, b.value)).retired_after b.value;
    }) c.args.self.now.name.now c.args.wanted.now c.args.policies.now.acting c.as_slice-2.result.now c.choose-level.result
    (record { stream = c.in-Ok-copy.stream; bitrate = c.index.result.now; time = c.args.wanted.now.start }) =
    record {
      ladder_is = c.as_slice-2.ensures.value ∙ (c.in-Ok.ensures ∙ ap ladder_of c.as_slice.ensures);
      pick = c.choose-level.ensures.pick;
      within = c.choose-level.ensures.within;
      address_is = address-is c.index.ensures c.as_slice-2.ensures.value c.choose-level.ensures.within c.in-Ok-copy.ensures;
    } in
    let came = piece-came chosen (rw (← c.as_slice-3.ensures) c.fetch_fragment-got.ensures.asked) in
    rw (← c.rest.ensures.log) (piece-once c.args.self.now c.args.wanted.now c.asked_of.result came (λ e. c.in_default-got.not-NoMemory e) c.outcome_of-outcome.ensures c.hear.ensures.heard c.asked_of.ensures)

pub returns-clause-dial : goal.returns-clause-dial
returns-clause-dial g c =
    let e = c.fetch_fragment-got.ensures in
    left-then g.met.C.Dial.later_then (left-none c.rest.ensures.dial) (asked-left c.choose-level.result c.asked_of.result e.dial e.lost c.asked_of.ensures)

pub returns-in-NoMemory-clause-dial : goal.returns-in-NoMemory-clause-dial
returns-in-NoMemory-clause-dial g c = left-then g.met.C.Dial.later_then (left-none c.rest.ensures.dial) (left-none c.fetch_fragment-got.ensures.dial)

pub returns-clause-kept : goal.returns-clause-kept
returns-clause-kept g c =
    asked-behind c.args.self.now c.args.wanted.now (g.C.Dial.store c.args.dial.now) (g.C.Dial.store c.rest.new.dial) (g.C.Dial.store c.fetch_fragment-got.new.dial)
    c.asked_of.result c.rest.ensures.dial.on.grows
    (asked-kept c.args.self.now c.args.wanted.now c.choose-level.result (g.C.Dial.store c.rest.new.dial) (g.C.Dial.store c.fetch_fragment-got.new.dial) c.asked_of.result
    (chosen-address c.args.wanted.now c.choose-level.result (address-is c.index.ensures c.as_slice-2.ensures.value c.choose-level.ensures.within c.in-Ok-copy.ensures)
    (c.as_slice-2.ensures.value ∙ (c.in-Ok.ensures ∙ ap ladder_of c.as_slice.ensures)))
    (rw c.as_slice-3.ensures at c.fetch_fragment-got.ensures.asked)
    (rw c.as_slice-3.ensures at c.fetch_fragment-got.ensures.kept) c.asked_of.ensures)
