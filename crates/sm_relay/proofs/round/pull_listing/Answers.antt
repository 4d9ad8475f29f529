use Rattle.std.proofs.Common.{List, ◌++◌, ◌+◌, ◌∙◌, take, refl, sym, ap}
use Rattle.std.proofs.lemmas.Result.{err_from_is_err_and}
use Rattle.sm_pull.specs.Adds.{keeps_of}
use Rattle.sm_pull.proofs.Disks.{rose_since}
use Rattle.sm_model.specs.declared.track.Track.{Track}
use Rattle.sm_relay.specs.Wants.{Want, first_wants, wants_of}
use Rattle.sm_relay.proofs.Wanted.{front_wants, listing_wants_more, listing_wants_rest, listing_wants_all}
use Rattle.sm_relay.proofs.Walked.{pulls_none, pulls_then, stops_then, pulls_as}
use Rattle.sm_relay.proofs.round.pull_listing.Goals as goal

pub loop-at-init : goal.loop-at-init
loop-at-init g c = λ log s. pulls_none g.met.D.Disk.no_later g.met.C.Dial.later_same c.args.disk.now c.args.dial.now c.args.archive.now log _ refl s

pub pull_name-requires : goal.pull_name-requires
pull_name-requires g c =
    let p = c.loop-at.invariant c.requires.stands.0 c.requires.stands.1 in
    record { stands = (c.requires.stands.0 ++ keeps_of p.added, p.adds.stands) }

pub loop-at-preserved : goal.loop-at-preserved
loop-at-preserved g c = λ log s.
    let p = c.loop-at.invariant log s in
    pulls_then (front_wants c.args.channel.now c.args.listing.now (take (c.loop-at.at + 1) c.args.channel.now)) (front_wants c.args.channel.now c.args.listing.now (take c.loop-at.at
    c.args.channel.now)) (first_wants c.args.channel.now c.args.listing.now c.split_at.result.0.now c.index-channel-at.result) (listing_wants_more c.args.channel.now c.args.listing.now
    c.loop-at.at c.index-channel-at.result c.loop-at-test.true c.index-channel-at.is ∙ ap (λ (ws : List Want). front_wants c.args.channel.now c.args.listing.now (take c.loop-at.at
    c.args.channel.now) ++ ws) (ap (λ (b : List Track). first_wants c.args.channel.now c.args.listing.now b c.index-channel-at.result) (sym c.split_at.ensures.front))) g.met.C.Dial.later_then p
    (c.in_ok-pull_name.ensures.ok (log ++ keeps_of p.added) p.adds.stands)

pub returns-in_err-pull_name-clause-err : goal.returns-in_err-pull_name-clause-err
returns-in_err-pull_name-clause-err g c =
    let q = err_from_is_err_and c.from_residual.result c.from_residual.ensures.1 in
    rw (q.1, q.2) (λ log s.
    let p = c.loop-at.invariant log s in
    stops_then c.in_err-pull_name.field-0.0 (wants_of c.args.channel.now c.args.listing.now) (front_wants c.args.channel.now c.args.listing.now (take c.loop-at.at c.args.channel.now)) (first_wants
    c.args.channel.now c.args.listing.now c.split_at.result.0.now c.index-channel-at.result) ((listing_wants_rest c.args.channel.now c.args.listing.now c.loop-at.at c.index-channel-at.result
    c.loop-at-test.true c.index-channel-at.is).0) ((listing_wants_rest c.args.channel.now c.args.listing.now c.loop-at.at c.index-channel-at.result c.loop-at-test.true c.index-channel-at.is).1 ∙
    ap (λ (ws : List Want). (front_wants c.args.channel.now c.args.listing.now (take c.loop-at.at c.args.channel.now) ++ ws) ++ (listing_wants_rest c.args.channel.now c.args.listing.now
    c.loop-at.at c.index-channel-at.result c.loop-at-test.true c.index-channel-at.is).0) (ap (λ (b : List Track). first_wants c.args.channel.now c.args.listing.now b c.index-channel-at.result)
    (sym c.split_at.ensures.front))) g.met.C.Dial.later_then p (c.in_err-pull_name.ensures.err (log ++ keeps_of p.added) p.adds.stands))

pub returns-in_err-pull_name-clause-fault : goal.returns-in_err-pull_name-clause-fault
returns-in_err-pull_name-clause-fault g c =
    let q = err_from_is_err_and c.from_residual.result c.from_residual.ensures.1 in
    rw (q.1, q.2) (λ e.
    let p = c.loop-at.invariant c.requires.stands.0 c.requires.stands.1 in
    rose_since (g.D.Disk.seen.view c.args.disk.now).disk_faults (g.D.Disk.seen.view c.loop-at.disk).disk_faults (g.D.Disk.seen.view c.pull_name.new.disk).disk_faults p.adds.disk_alone.no_fewer (c.in_err-pull_name.ensures.fault e))

pub returns-clause-ok : goal.returns-clause-ok
returns-clause-ok g c = λ log s. pulls_as (front_wants c.args.channel.now c.args.listing.now (take c.loop-at.at c.args.channel.now)) (wants_of c.args.channel.now c.args.listing.now)
    (listing_wants_all c.args.channel.now c.args.listing.now c.loop-at.at c.loop-at-test.false) (c.loop-at.invariant log s)
