use Rattle.std.proofs.Common.{arith, subst, sym, ◌∙◌, ap, List, ℕ}
use Rattle.std.proofs.lemmas.Result.{err_from_is_err_and}
use Rattle.sm_record.specs.Reading.{byte_at, Fails}
use Rattle.sm_record.specs.Reads.{Reads, IsDeclareOf}
use Rattle.sm_record.proofs.ReadLaws.{plain_as_declare, plain_as_keep, body_as_sealed, body_empty}
use Rattle.sm_record.proofs.read.read_part.Goals as goal

pub returns-in_err-byte : goal.returns-in_err-byte
returns-in_err-byte c =
    let p = err_from_is_err_and c.from_residual-in_err-byte.result c.from_residual-in_err-byte.ensures.1 in
    rw (p.1, p.2) (body_empty _ c.args.body.now c.in_err-byte.field-0.0
    (subst (λ (b : List ℕ). Fails c.in_err-byte.field-0.0 (byte_at b)) c.in_ok-fields.ensures c.in_err-byte.ensures))

pub returns-in-1 : goal.returns-in-1
returns-in-1 c =
    plain_as_declare _ c.args.body.now c.in_ok-byte.byte c.byte_in.new.rest (sym (ap byte_at c.in_ok-fields.ensures) ∙ c.in_ok-byte.ensures) _ c.in-1.is
    (subst (λ (b : List ℕ). Reads (IsDeclareOf b) c.declare_of.result) c.as_slice.ensures c.declare_of.ensures)

pub returns-in-2 : goal.returns-in-2
returns-in-2 c =
    plain_as_keep _ c.args.body.now c.in_ok-byte.byte c.byte_in.new.rest (sym (ap byte_at c.in_ok-fields.ensures) ∙ c.in_ok-byte.ensures) _ c.in-2.is c.keep_of.ensures

pub returns-in_default : goal.returns-in_default
returns-in_default c =
    body_as_sealed _ c.args.body.now c.in_ok-byte.byte c.byte_in.new.rest c.sealed.result (sym (ap byte_at c.in_ok-fields.ensures) ∙ c.in_ok-byte.ensures)
    (λ h. absurd (omega (arith, h))) (λ h. absurd (omega (arith, h))) c.sealed.ensures
