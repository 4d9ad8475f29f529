use Rattle.std.proofs.Common.{rules, true, is_some}
use Rattle.sm_shelf.proofs.Reading.{taken_bare, held_is, handed}
use Rattle.sm_shelf.proofs.replies.fragment_of.Goals as goal

pub shown_by-requires : goal.shown_by-requires
shown_by-requires c =
    let h = c.in-Held.held in
    let a = c.args.address.now in
    let knows = is_some c.args.known in
    let r = c.requires in
    let taken = held_is r.0 a knows c.args.found h c.in-Held.is r.1 in
    (r.0, true, taken_bare r.0 a knows h c.take.new.self (search rules) taken, c.either-channel.ensures r.0 (handed r.0 a knows h c.take.result (search rules) taken) r.2)

pub returns-in-Held-clause-shown : goal.returns-in-Held-clause-shown
returns-in-Held-clause-shown c d found seen =
    let h = c.in-Held.held in
    let a = c.args.address.now in
    let knows = is_some c.args.known in
    let taken = held_is d a knows c.args.found h c.in-Held.is found in
    c.shown_by.ensures d true (taken_bare d a knows h c.take.new.self (search rules) taken) (c.either-channel.ensures d (handed d a knows h c.take.result (search rules) taken) seen)

pub returns-in-Held-clause-channel : goal.returns-in-Held-clause-channel
returns-in-Held-clause-channel c d found seen =
    let h = c.in-Held.held in
    let a = c.args.address.now in
    let knows = is_some c.args.known in
    let taken = held_is d a knows c.args.found h c.in-Held.is found in
    c.either-channel.ensures d (handed d a knows h c.take.result (search rules) taken) seen
