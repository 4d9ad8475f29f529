use Rattle.std.proofs.Common.{ap, refl, ◌∙◌, ◌+◌}
use Rattle.std.specs.Prelude.{slice_range}
use Rattle.sm_moof.specs.Sequence.{number_in, sequence_at}
use Rattle.sm_moof.proofs.SequenceLemmas.{first_item, first_done, first_bad}
use Rattle.sm_moof.proofs.sequence.sequence_of.Goals as goal

pub returns-in-Item : goal.returns-in-Item
returns-in-Item c =
    let b = c.body_of-body.result.now in
    c.number_in.ensures
    ∙ first_item c.new-children.result c.next.new.self b c.in-Item.kind (slice_range b c.in-Item.body_at (c.in-Item.at + c.in-Item.size)) c.in-Item.at c.in-Item.body_at c.in-Item.size
    c.new-children.ensures.body c.new-children.ensures.at c.in-Item.ensures refl
    ∙ ap sequence_at c.body_of-body.ensures

pub returns-in-Done : goal.returns-in-Done
returns-in-Done c =
    first_done c.new-children.result c.next.new.self c.body_of-body.result.now c.new-children.ensures.body c.new-children.ensures.at c.in-Done.ensures ∙ ap sequence_at c.body_of-body.ensures

pub returns-in-Bad : goal.returns-in-Bad
returns-in-Bad c =
    first_bad c.new-children.result c.next.new.self c.body_of-body.result.now c.in-Bad.at c.new-children.ensures.body c.new-children.ensures.at c.in-Bad.ensures ∙ ap sequence_at c.body_of-body.ensures
