use Rattle.std.proofs.Common.{◌∷◌, ◌∙◌, ap, arith, ℕ, take}
use Rattle.sm_record.specs.Bodies.{sealed_byte}
use Rattle.sm_record.proofs.Seals.{short_is_unsealed}
use Rattle.sm_record.proofs.KnownLaws.{known_sealed}
use Rattle.sm_record.proofs.read.known_sealed.Goals as goal

pub returns-then-len-lt32 : goal.returns-then-len-lt32
returns-then-len-lt32 c = λ entry s. absurd (short_is_unsealed _ (omega (arith, c.if-len-lt32.true, c.len-len.ensures)) (sealed_byte entry ∷ s.fields) s.is)

pub returns : goal.returns
returns c =
    known_sealed _ c.args.body.now c.in_ok-bytes.bytes c.unsealed.result (c.in_ok-bytes.ensures ∙ ap (λ (n : ℕ). take n c.args.body.now) (omega (arith, c.len-len.ensures))) c.unsealed.ensures
