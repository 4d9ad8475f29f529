use Rattle.std.proofs.Common.{true, sym, subst}
use Rattle.sm_push.specs.Standing.{Standing, Stands}
use Rattle.sm_push.proofs.Limits.{held_is_little}
use Rattle.sm_push.proofs.Steps.{fed, fed_refused, fed_starved}
use Rattle.sm_push.proofs.session.Push.feed.Goals as goal

pub returns-in-Ok-clause-answers : goal.returns-in-Ok-clause-answers
returns-in-Ok-clause-answers c headerless b stands =
    let old : Stands headerless (record { kept = c.self.inside.kept; count = c.self.inside.count; failed = c.self.inside.failed }) b = subst (λ (p : Standing). Stands headerless p b)
    (sym c.self.view_is) stands in
    fed headerless (record { kept = c.self.inside.kept; count = c.self.inside.count; failed = c.self.inside.failed }) _ b c.args.piece.now c.take_piece.new.items old c.in-Ok.ensures.partial
    c.in-Ok.ensures.gives (old.works) c.saturating_add-self-inside.ensures

pub returns-in-Err-Refused-clause-answers : goal.returns-in-Err-Refused-clause-answers
returns-in-Err-Refused-clause-answers c headerless b stands =
    let old : Stands headerless (record { kept = c.self.inside.kept; count = c.self.inside.count; failed = c.self.inside.failed }) b = subst (λ (p : Standing). Stands headerless p b)
    (sym c.self.view_is) stands in
    fed_refused headerless (record { kept = c.self.inside.kept; count = c.self.inside.count; failed = c.self.inside.failed })
    (record { kept = c.clear.new.self; count = c.self.inside.count; failed = true })
    c.take_piece.new.self b c.args.piece.now c.take_piece.new.items c.in-Err-Refused.refusal old (rw c.in-Err-Refused.field-0-is at c.in-Err-Refused.ensures.gives) c.clear.ensures.header

pub returns-in-Err-NoMemory-clause-answers : goal.returns-in-Err-NoMemory-clause-answers
returns-in-Err-NoMemory-clause-answers c headerless b stands =
    let old : Stands headerless (record { kept = c.self.inside.kept; count = c.self.inside.count; failed = c.self.inside.failed }) b = subst (λ (p : Standing). Stands headerless p b)
    (sym c.self.view_is) stands in
    fed_starved headerless (record { kept = c.self.inside.kept; count = c.self.inside.count; failed = c.self.inside.failed })
    (record { kept = c.clear-in-Err-NoMemory.new.self; count = c.self.inside.count; failed = true })
    c.take_piece.new.self b c.args.piece.now c.take_piece.new.items old (rw c.in-Err-NoMemory.field-0-is at c.in-Err-NoMemory.ensures.gives) c.clear-in-Err-NoMemory.ensures.header

pub returns-in-Ok-clause-holds : goal.returns-in-Ok-clause-holds
returns-in-Ok-clause-holds c = held_is_little c.take_piece.new.self c.in-Ok.ensures.partial
