use Rattle.sm_fetch.proofs.Alone.{on_then}
use Rattle.sm_fetch.proofs.Answering.{answered_none, answered_then}
use Rattle.sm_ends.proofs.Unread.{passed_on}
use Rattle.sm_client.proofs.Unpushed.{unpushed}
use Rattle.sm_client.proofs.pushing.push_input.Goals as goal

pub returns-in_err-select-clause-answered : goal.returns-in_err-select-clause-answered
returns-in_err-select-clause-answered g c = answered_none c.select.ensures.log c.select.ensures.store

pub returns-in_err-body-clause-answered : goal.returns-in_err-body-clause-answered
returns-in_err-body-clause-answered g c = answered_none c.select.ensures.log c.select.ensures.store

pub returns-clause-answered : goal.returns-clause-answered
returns-clause-answered g c = answered_then (answered_none c.select.ensures.log c.select.ensures.store) c.push_body.ensures.dial.answered

pub returns-clause-dial : goal.returns-clause-dial
returns-clause-dial g c =
    let e = c.select.ensures in
    on_then g.met.C.Dial.later_then (record { goes_on = e.goes_on; no_fewer = e.later; grows = e.store }) c.push_body.ensures.dial.on

pub returns-in_err-body-clause-why : goal.returns-in_err-body-clause-why
returns-in_err-body-clause-why g c =
    passed_on c.from_residual-in_err-body.result _ _ c.from_residual-in_err-body.ensures.1
    (unpushed _ _ _ _ c.in_err-body.field-0.0 c.in_err-body.ensures.why c.read_input.ensures.later c.select.ensures.later c.select.ensures.log)
