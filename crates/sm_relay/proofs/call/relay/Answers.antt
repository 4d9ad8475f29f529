use Rattle.std.proofs.Common.{◌++◌, None, length}
use Rattle.std.proofs.lemmas.List.Elements.{Contains-append_right}
use Rattle.sm_pull.specs.Adds.{keeps_of}
use Rattle.sm_pull.proofs.Disks.{kept_count}
use Rattle.sm_relay.specs.Rounds.{made_in, kept_in}
use Rattle.sm_relay.proofs.Whole.{made_same, rounds_keep, still_stands, relayed_below, relayed_well}
use Rattle.sm_relay.proofs.Reading.{ends_lost}
use Rattle.sm_relay.proofs.call.relay.Goals as goal

pub returns-clause-relayed : goal.returns-clause-relayed
returns-clause-relayed g c = λ log channel s is.
    let p = c.relay_all-end.ensures.relayed log channel s is in (
      p,
      kept_count c.relay_all-end.new.archive log (kept_in p.rounds ++ p.added) p.tried (g.D.Disk.seen.may_leave c.relay_all-end.new.disk) c.len-before.result c.len.result _
          (c.len-before.ensures s.bodies s.body log None s.keeps) c.len.ensures p.adds.stands c.saturating_sub.ensures,
      rounds_keep c.args.plan.now channel log p.rounds p.added p.are,
    )

pub returns-clause-below : goal.returns-clause-below
returns-clause-below g c = λ log channel up first last before made s is was told serves below some.
    let p = c.relay_all-end.ensures.relayed log channel s is in
    relayed_below p up first last made serves (made_same (g.C.Dial.log c.args.dial.now) (g.C.Dial.log c.relay_all-end.new.dial) before made (made_in p.rounds ++ p.made) was told p.asks.told_is) below some

pub returns-clause-well : goal.returns-clause-well
returns-clause-well g c = λ log channel up first last before made s is was told serves below patient offers.
    let p = c.relay_all-end.ensures.relayed log channel s is in
    relayed_well p up first last made serves (made_same (g.C.Dial.log c.args.dial.now) (g.C.Dial.log c.relay_all-end.new.dial) before made (made_in p.rounds ++ p.made) was told p.asks.told_is)
    c.requires.tries is below patient offers

pub returns-clause-stands : goal.returns-clause-stands
returns-clause-stands g c =
    let p = c.relay_all-end.ensures.relayed c.requires.stands.0 c.requires.stands.1 c.requires.stands.2 c.requires.stands.3 in
    still_stands c.relay_all-end.new.archive _ p.tried (g.D.Disk.seen.may_leave c.relay_all-end.new.disk) p.adds.stands

pub returns-clause-asks : goal.returns-clause-asks
returns-clause-asks g c =
    let p = c.relay_all-end.ensures.relayed c.requires.stands.0 c.requires.stands.1 c.requires.stands.2 c.requires.stands.3 in
    (made_in p.rounds ++ p.made, p.asks)

pub returns-clause-disk_alone : goal.returns-clause-disk_alone
returns-clause-disk_alone g c =
    (c.relay_all-end.ensures.relayed c.requires.stands.0 c.requires.stands.1 c.requires.stands.2 c.requires.stands.3).adds.disk_alone

pub returns-clause-lost : goal.returns-clause-lost
returns-clause-lost g c = λ there.
    let log = c.requires.stands.0 in
    let channel = c.requires.stands.1 in
    let p = c.relay_all-end.ensures.relayed log channel c.requires.stands.2 c.requires.stands.3 in
    let x = ends_lost c.args.plan.now channel c.relay_all-end.new.archive (log ++ keeps_of (kept_in p.rounds)) (length p.rounds) p.made p.added p.tried c.relay_all-end.result p.ends there in
    p.asks.lost x.0 (Contains-append_right (made_in p.rounds) p.made x.0 x.1) x.2
