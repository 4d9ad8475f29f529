use Rattle.std.proofs.Common.{◌∙◌, ℕ, [], ◌∷◌, Option, Some, sym, ap}
use Rattle.std.specs.Arc.{arc_value}
use Rattle.sm_log.specs.Adds.{id_in}
use Rattle.sm_shelf.specs.Shown.{both}
use Rattle.sm_shelf.proofs.Reading.{given_as}
use Rattle.sm_shelf.proofs.replies.give.Goals as goal

pub returns-in-None-default : goal.returns-in-None-default
returns-in-None-default c =
    let h = c.args.held.now in
    given_as c.fragment_reply.result h.place (id_in c.args.channel.now c.args.address.now) (arc_value h.fragment) c.deref.result.now [] (both h.first h.second) c.deref.ensures
    (sym (ap (λ (o : Option (ℕ × ℕ)). both o h.second) c.in-None-default.is-0)) c.fragment_reply.ensures

pub returns-in-Some-None : goal.returns-in-Some-None
returns-in-Some-None c =
    let h = c.args.held.now in
    let x = c.in-Some-None.first in
    given_as c.fragment_reply-in-Some-None.result h.place (id_in c.args.channel.now c.args.address.now) (arc_value h.fragment) c.deref-in-Some-None.result.now (x ∷ []) (both h.first h.second)
    c.deref-in-Some-None.ensures (sym (ap (λ (o : Option (ℕ × ℕ)). both o h.second) c.in-Some-None.is-0 ∙ ap (both (Some x)) c.in-Some-None.is-1)) c.fragment_reply-in-Some-None.ensures

pub returns-in-Some-Some : goal.returns-in-Some-Some
returns-in-Some-Some c =
    let h = c.args.held.now in
    let x = c.in-Some-Some.first in
    given_as c.fragment_reply-in-Some-Some.result h.place (id_in c.args.channel.now c.args.address.now) (arc_value h.fragment) c.deref-in-Some-Some.result.now (x ∷ c.in-Some-Some.second ∷ [])
    (both h.first h.second) c.deref-in-Some-Some.ensures (sym (ap (λ (o : Option (ℕ × ℕ)). both o h.second) c.in-Some-Some.is-0 ∙ ap (both (Some x)) c.in-Some-Some.is-1)) c.fragment_reply-in-Some-Some.ensures
