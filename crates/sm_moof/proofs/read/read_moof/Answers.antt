use Rattle.std.proofs.Common.{sym, ap, subst, ◌∙◌}
use Rattle.sm_box.specs.Seen.{seen}
use Rattle.sm_model.specs.Gives.{Gives}
use Rattle.sm_model.proofs.OrderLemmas.{trafs_in, moof_run_bad, moof_run_empty, moof_run_first}
use Rattle.sm_moof.proofs.read.read_moof.Goals as goal

pub returns-in_default : goal.returns-in_default
returns-in_default c = moof_run_bad _ _ (sym (ap trafs_in c.body_of.ensures) ∙ sym c.in_default.ensures)

pub returns-then-not-trafs : goal.returns-then-not-trafs
returns-then-not-trafs c = moof_run_empty _ _ (seen c.in-Some.trafs) (sym (ap trafs_in c.body_of.ensures) ∙ sym c.in-Some.ensures) c.if-not-trafs.true

pub returns : goal.returns
returns c =
    subst (Gives c.read_first.result)
    (sym (moof_run_first c.args.defaults.now c.args.moof.now (seen c.in-Some.trafs) (sym (ap trafs_in c.body_of.ensures) ∙ sym c.in-Some.ensures) c.if-not-trafs.false))
    c.read_first.ensures
