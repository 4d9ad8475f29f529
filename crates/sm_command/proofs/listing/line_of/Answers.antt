use Rattle.std.proofs.Common.{None, refl, ◌∙◌}
use Rattle.sm_command.proofs.Lines.{line_there, not_absent}
use Rattle.sm_command.proofs.listing.line_of.Goals as goal

pub returns-in-Found-clause-line : goal.returns-in-Found-clause-line
returns-in-Found-clause-line g c log stands told =
    let a = rw c.in-Some.is at (c.in_ok-address.ensures stands.bodies stands.body log None stands.keeps) in
    let f = (c.in-Found.ensures.found c.in-Found.place c.in-Found.fragment refl).1 log None stands in
    c.in_ok-put_line-in-Found.ensures ∙ line_there c.kept_is_added.ensures.place c.kept_is_added.ensures.one log c.args.place a.0 c.in-Found.fragment _ c.in-Found.place stands.keeps.sound a.1 a.2 f.0 (f.1 told)

pub returns-in-Absent-clause-why : goal.returns-in-Absent-clause-why
returns-in-Absent-clause-why g c told =
    let log = c.requires.stands.0 in
    let stands = c.requires.stands.1 in
    let a = rw c.in-Some.is at (c.in_ok-address.ensures stands.bodies stands.body log None stands.keeps) in
    not_absent c.kept_is_added.ensures.place c.kept_is_added.ensures.one log c.args.place a.0 _ stands.keeps.sound a.1 a.2 ((c.in-Absent.ensures.absent log None stands).0 refl)

pub returns-in-Damaged-clause-why : goal.returns-in-Damaged-clause-why
returns-in-Damaged-clause-why g c told = c.in-Damaged.ensures.damaged refl c.requires.stands.0 None c.requires.stands.1 told
