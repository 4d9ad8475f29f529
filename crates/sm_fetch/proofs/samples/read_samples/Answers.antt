use Rattle.std.proofs.Common.{ap, sym, ◌∙◌}
use Rattle.std.specs.Prelude.{nat_le}
use Rattle.sm_model.specs.Fragments.{sample_bytes}
use Rattle.sm_fetch.proofs.Pairs.{other_time, too_long, fragment_at, refused}
use Rattle.sm_fetch.proofs.samples.read_samples.Goals as goal

pub returns-then-raw-time : goal.returns-then-raw-time
returns-then-raw-time c = other_time c.args.time c.args.body.now c.in-Some.moof.now c.in-Some.mdat.now c.in-Ok.raw c.in-Some.ensures c.in-Ok.ensures c.if-raw-time.true

pub returns-then-not-are_short : goal.returns-then-not-are_short
returns-then-not-are_short c =
    too_long c.args.time c.args.body.now c.in-Some.moof.now c.in-Some.mdat.now c.in-Ok.raw c.in-Some.ensures c.in-Ok.ensures
    (ap (λ s. nat_le (sample_bytes s) 67108864) (sym c.as_slice.ensures) ∙ sym c.are_short.ensures ∙ c.if-not-are_short.true)

pub returns-in-Ok : goal.returns-in-Ok
returns-in-Ok c =
    fragment_at c.args.time c.args.body.now c.in-Some.moof.now c.in-Some.mdat.now c.in-Ok.raw c.in-Some.ensures c.in-Ok.ensures
    (c.read_is_sound.ensures.fragment _ c.in-Some.moof.now c.in-Some.mdat.now c.in-Ok.raw c.in-Ok.ensures) c.if-raw-time.false
    (ap (λ s. nat_le (sample_bytes s) 67108864) (sym c.as_slice.ensures) ∙ sym c.are_short.ensures ∙ c.if-not-are_short.false)

pub returns-in-Err-Refused : goal.returns-in-Err-Refused
returns-in-Err-Refused c =
    refused c.args.time c.args.body.now c.in-Some.moof.now c.in-Some.mdat.now c.in-Err-Refused.field-0-0 c.in-Some.ensures (rw c.in-Err-Refused.field-0-is at c.in-Err-Refused.ensures)
