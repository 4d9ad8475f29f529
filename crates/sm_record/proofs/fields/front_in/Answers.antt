use Rattle.std.proofs.Common.{◌∙◌, sym, ap, List, ℕ, Some}
use Rattle.sm_record.specs.Reading.{front_at}
use Rattle.sm_record.proofs.Behind.{front_behind}
use Rattle.sm_record.proofs.fields.front_in.Goals as goal

pub skip-requires : goal.skip-requires
skip-requires c = (front_behind c.args.rest.now (c.in_ok-front.front, c.in_ok-front.field-0-1.now) (sym (ap front_at c.as_slice.ensures) ∙ c.in_ok-front.ensures)).long

pub returns : goal.returns
returns c =
    let read = sym (ap front_at c.as_slice.ensures) ∙ c.in_ok-front.ensures in
    read ∙ ap (λ (rest : List ℕ). Some (c.in_ok-front.front, rest)) ((front_behind c.args.rest.now (c.in_ok-front.front, c.in_ok-front.field-0-1.now) read).is ∙ sym c.skip.ensures)
