use Rattle.std.proofs.Common.{rules, [], None, subst}
use Rattle.sm_model.specs.declared.entry.Entry.{Entry}
use Rattle.sm_log.specs.Logs.{FitsBehind}
use Rattle.sm_archive.proofs.admit.admit_first.Goals as goal

pub returns-in-Err-clause-damaged : goal.returns-in-Err-clause-damaged
returns-in-Err-clause-damaged c = λ is e own fits few. c.in-Err.ensures.damaged (search rules) e own

pub returns-in-Ok-clause-damaged : goal.returns-in-Ok-clause-damaged
returns-in-Ok-clause-damaged c = λ is e own fits few.
    c.index_of.ensures.damaged is (subst (λ (x : Entry). FitsBehind [] x) (c.a_body_has_one_entry.ensures None e c.in-Ok.entry c.args.body.now own c.in-Ok.ensures.entry) fits)
