use Rattle.std.proofs.Common.{Some, List, ℕ, sym, subst}
use Rattle.sm_model.specs.declared.entry.Entry.TheVariants.{Keep}
use Rattle.sm_record.specs.Bodies.{IsBody}
use Rattle.sm_archive.proofs.Fetching.{kept_ok, kept_damaged, unknown}
use Rattle.sm_archive.proofs.fetch.kept_at.Goals as goal

pub returns-in-Ok-clause-kept : goal.returns-in-Ok-clause-kept
returns-in-Ok-clause-kept c =
    let channel = Some c.args.index.now.catalog.channel in
    kept_ok channel c.args.body c.args.address.now c.in-Ok.entry c.fragment_of.result
    (λ e own. c.in-Ok.ensures e (subst (λ (b : List ℕ). IsBody channel e b) (sym c.in_ok-body.ensures) own)) c.fragment_of.ensures.kept

pub returns-in-Ok-clause-damaged : goal.returns-in-Ok-clause-damaged
returns-in-Ok-clause-damaged c =
    let channel = Some c.args.index.now.catalog.channel in
    kept_damaged channel c.args.body c.args.address.now c.in-Ok.entry c.fragment_of.result
    (λ e own. c.in-Ok.ensures e (subst (λ (b : List ℕ). IsBody channel e b) (sym c.in_ok-body.ensures) own)) c.fragment_of.ensures.other

pub returns-clause-damaged : goal.returns-clause-damaged
returns-clause-damaged c is f own address valid =
    let channel = Some c.args.index.now.catalog.channel in
    unknown (Keep f) c.in-Err.fault is (c.in-Err.ensures (Keep f) (subst (λ (b : List ℕ). IsBody channel (Keep f) b) (sym c.in_ok-body.ensures) own))
