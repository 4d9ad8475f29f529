use Rattle.std.proofs.Common.{ℕ, List, subst, ◌∙◌}
use Rattle.sm_fetch.specs.declared.dial.Answer.TheVariants as answers
use Rattle.sm_fetch.specs.Origins.{AnswersFrom}
use Rattle.sm_fetch.specs.Placing.{SpellsNumbered}
use Rattle.sm_fetch.proofs.Alone.{alone_one}
use Rattle.sm_fetch.proofs.Origin.{answer_is_placed}
use Rattle.sm_fetch.proofs.placed.get_placed.Goals as goal

pub returns-in-Bytes-clause-placed : goal.returns-in-Bytes-clause-placed
returns-in-Bytes-clause-placed g c =
    answer_is_placed (g.C.Dial.store c.args.dial.now) (g.C.Dial.store c.exchange.new.self) c.args.place.now c.args.url.now c.args.address.now c.in-Bytes.bytes c.read_placed.result
    (subst (λ (r : List ℕ). AnswersFrom (g.C.Dial.store c.args.dial.now) (g.C.Dial.store c.exchange.new.self) r (answers.Bytes c.in-Bytes.bytes)) (c.as_slice.ensures ∙ c.in-Ok.ensures) c.in-Bytes.ensures.store)
    (subst (λ (b : List ℕ). SpellsNumbered c.args.address.now.time b c.read_placed.result) c.as_slice-in-Bytes.ensures c.read_placed.ensures)

pub returns-in-Bytes-clause-dial : goal.returns-in-Bytes-clause-dial
returns-in-Bytes-clause-dial g c = let e = c.exchange.ensures in alone_one _ _ c.exchange.result e.goes_on e.later e.chosen e.log e.store

pub returns-in-Lost-clause-dial : goal.returns-in-Lost-clause-dial
returns-in-Lost-clause-dial g c = let e = c.exchange.ensures in alone_one _ _ c.exchange.result e.goes_on e.later e.chosen e.log e.store

pub returns-clause-dial : goal.returns-clause-dial
returns-clause-dial g c = let e = c.exchange.ensures in alone_one _ _ c.exchange.result e.goes_on e.later e.chosen e.log e.store
