use Rattle.std.proofs.Common.{◌∙◌, ap, sym, Some, None, cond, Bool}
use Rattle.sm_box.specs.Seen.{seen}
use Rattle.sm_moov.proofs.ChildLemmas.{first_child_is}
use Rattle.sm_moov.proofs.children.first_child.Goals as goal

pub returns-then-of_kind : goal.returns-then-of_kind
returns-then-of_kind c =
    ap (λ (v : Bool). cond v (Some c.in-Some.of_kind.first.now) None) (sym c.if-of_kind.true)
    ∙ first_child_is c.args.name.now c.args.body.now (Some (seen c.in-Some.of_kind)) c.in-Some.ensures

pub returns-else-of_kind : goal.returns-else-of_kind
returns-else-of_kind c =
    ap (λ (v : Bool). cond v (Some c.in-Some.of_kind.first.now) None) (sym c.if-of_kind.false)
    ∙ first_child_is c.args.name.now c.args.body.now (Some (seen c.in-Some.of_kind)) c.in-Some.ensures

pub returns-in-None : goal.returns-in-None
returns-in-None c = first_child_is c.args.name.now c.args.body.now None c.in-None.ensures
