use Rattle.std.proofs.Common.{Some, List, sym, subst}
use Rattle.sm_model.specs.declared.track.Track.{Track}
use Rattle.sm_model.specs.declared.entry.Entry.{Entry}
use Rattle.sm_record.specs.Bodies.{IsBody}
use Rattle.sm_archive.proofs.Fetching.{known_by}
use Rattle.sm_archive.proofs.fetch.entry_of.Goals as goal

pub returns-then-is_known : goal.returns-then-is_known
returns-then-is_known c entry own =
    c.read_known.ensures entry (subst (λ (ts : List Track). IsBody (Some ts) entry c.args.body.now) (sym c.channel.ensures.same) own)

pub returns-else-is_known : goal.returns-else-is_known
returns-else-is_known c entry own =
    let channel = Some c.channel.result.now in
    known_by channel c.args.body.now c.read_part.result (λ (x y : Entry) b. c.a_body_has_one_entry.ensures channel x y b) c.read_part.ensures entry
    (subst (λ (ts : List Track). IsBody (Some ts) entry c.args.body.now) (sym c.channel.ensures.same) own)
