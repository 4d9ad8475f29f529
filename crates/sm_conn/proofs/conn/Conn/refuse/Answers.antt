use Rattle.std.proofs.Common.{◌≡◌, ap, subst, [], Err}
use Rattle.sm_model.specs.declared.fault.ReadFault.{ReadFault}
use Rattle.sm_head.specs.Requests.{IsReqAnswer}
use Rattle.sm_conn.specs.Parts.{in_head}
use Rattle.sm_conn.specs.Stands.{mode_at}
use Rattle.sm_conn.proofs.ActLaw.{joined_push, refused_act}
use Rattle.sm_conn.proofs.conn.Conn.refuse.Goals as goal

pub returns-in_ok-push-in-Refused : goal.returns-in_ok-push-in-Refused
returns-in_ok-push-in-Refused c =
    let at : mode_at c.args.self.now.state ≡ in_head [] = ap mode_at c.requires.stands in
    let why = subst (λ (f : ReadFault). IsReqAnswer c.args.bytes.now (Err f)) c.in-Refused.is c.requires.read in
    (_, joined_push _ _ _ c.in_ok-push-in-Refused.ensures.items, refused_act _ c.args.bytes.now c.in-Refused.cause at why)
