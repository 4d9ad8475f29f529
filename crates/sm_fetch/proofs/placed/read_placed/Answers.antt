use Rattle.std.proofs.Common.{ℕ, subst, inl, inr}
use Rattle.sm_fetch.specs.Answered.{IsWholeReply, body_bytes}
use Rattle.sm_fetch.specs.Placing.{HasNoNumbered}
use Rattle.sm_fetch.proofs.placed.read_placed.Goals as goal

pub returns-in-Ok-None : goal.returns-in-Ok-None
returns-in-Ok-None c =
    inr (
      body_bytes c.in-Ok-Whole.body,
      subst (λ (s : ℕ). IsWholeReply c.args.bytes.now s c.in-Ok-Whole.at (body_bytes c.in-Ok-Whole.body)) c.if-status-ne200.false (rw c.in-Ok-Whole.field-0-is at c.in-Ok-Whole.ensures),
      subst (HasNoNumbered c.args.time) c.as_slice.ensures (rw c.in-Ok-None.field-0-is at c.in-Ok-None.ensures),
    )

pub returns-in-Ok-Bad : goal.returns-in-Ok-Bad
returns-in-Ok-Bad c = inl (rw c.in-Ok-Bad.field-0-is at c.in-Ok-Bad.ensures)
