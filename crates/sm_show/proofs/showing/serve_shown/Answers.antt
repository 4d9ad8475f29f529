use Rattle.std.proofs.Common.{rules, is_some, ◌≡◌, ℕ, inl, ◌+◌, List, [], ◌++◌, Option, refl, sym, ◌∙◌, ap, subst, arith}
use Rattle.sm_site.specs.Meanings.{View, Deal, Item}
use Rattle.sm_serve.specs.declared.outcome.Served.TheVariants as served
use Rattle.sm_serve.specs.Connections.{events_in, deals_in}
use Rattle.sm_serve.specs.Serving.{IsOver}
use Rattle.sm_serve.proofs.Transcripts.{is_over}
use Rattle.sm_serve.proofs.Events.{turns_then, has_served, counted}
use Rattle.sm_serve.proofs.Ending.{none_both, none_went}
use Rattle.sm_show.specs.Marks.{Shows}
use Rattle.sm_show.specs.Recalling.{Publishes}
use Rattle.sm_show.proofs.Resting.{turns_rest, since_itself}
use Rattle.sm_show.proofs.Marked.{shows_none}
use Rattle.sm_show.proofs.Going.{turns_next, belongs_on, turn_shows, ended_as, stopped_as, served_shown}
use Rattle.sm_show.proofs.showing.serve_shown.Goals as goal

pub loop-taken-init : goal.loop-taken-init
unfolding turns_rest
loop-taken-init g c =
    let up = c.catch_up.ensures in
    let link = up.brings.recalls.disk_alone.link in
    record {
      stands = up.brings.recalls.stands;
      told = ap (λ o. is_some o) link.transcript;
      chosen = link.chosen;
      link_faults = (let same = link.link_faults in omega (arith, same));
      few = omega arith;
      table = up.brings.table;
      goes_on = λ h serves.
          let rests = up.brings.recalls.rests h serves in (
            turns_rest g.S.Disk.seen h (g.S.Disk.seen.view c.args.site.now).script c.args.state.now c.catch_up.new.site link.script rests,
            tt,
            λ told belongs. shows_none h rests.later c.args.writer.now c.catch_up.new.writer rests.since rests.same
                (subst (λ (t : Option (List Item)). Publishes t c.args.writer.now c.catch_up.new.writer) serves.keeps.told up.brings.publishes) (rests.log (up.brings.recalls.told ∙ told))
                (up.brings.belongs h serves told belongs),
          );
    }

pub loop-taken-preserved : goal.loop-taken-preserved
unfolding turns_then turns_rest turns_next
loop-taken-preserved g c =
    let up = c.catch_up-up.ensures in
    let was = c.loop-taken.invariant in
    let link = up.brings.recalls.disk_alone.link in
    record {
      stands = up.brings.recalls.stands;
      told = ap (λ o. is_some o) link.transcript ∙ c.turn.ensures.told ∙ was.told;
      chosen = link.chosen ∙ c.turn.ensures.chosen ∙ was.chosen;
      link_faults = (let same = link.link_faults in omega (arith, same, c.turn.ensures.link_faults, was.link_faults));
      few = omega (arith, was.few, c.behind_by-behind.ensures.one, c.short_by-short.ensures.value);
      table = up.brings.table ∙ was.table;
      goes_on = λ h serves.
          let one = was.goes_on h serves in
          let i = c.loop-taken.taken in
          let two = c.in-Went.ensures.runs one.0.turns.later one.0.turns.serves in (
            turns_next g.S.Disk.seen h i (g.S.Disk.seen.view c.args.site.now).script c.loop-taken.state c.turn.new.state c.loop-taken.site c.turn.new.site
                c.catch_up-up.new.site one.0 two.0 up.brings.recalls,
            none_both (one.0.deals ++ two.0.deals) [] (none_both one.0.deals two.0.deals one.1 (none_went two.0.deals two.1)) tt,
            λ told belongs.
                turn_shows g.S.Disk.seen c.turns_grow.ensures h one.0.turns.later two.0.turns.later c.args.state.now c.loop-taken.state c.turn.new.state
                c.args.site.now
                c.loop-taken.site c.turn.new.site c.catch_up-up.new.site c.args.writer.now c.loop-taken.writer c.catch_up-up.new.writer c.catch_up-up.result i c.loop-taken.behind
                (c.loop-taken.behind + c.behind_by-behind.result) c.loop-taken.short (c.loop-taken.short + c.short_by-short.result) serves one.0.turns.serves one.0.turns.since two.0.turns.serves
                two.0.turns.since (two.1.0, two.0.turns.taken ∙ ap (λ (ds : List Deal). deals_in one.0.turns.later.items ++ ds) two.1.1)
                up.brings.recalls up.brings.publishes up.brings.belongs up.whole up.brings.behind told
                (one.2 told belongs) (ap (λ (k : ℕ). c.loop-taken.behind + k) c.behind_by-behind.ensures.value) (ap (λ (k : ℕ). c.loop-taken.short + k) c.short_by-short.ensures.value),
          );
    }

pub turn-requires-clause-known : goal.turn-requires-clause-known
turn-requires-clause-known g c some =
    let k = c.requires.known (sym c.loop-taken.invariant.told ∙ some) in
    let one = c.loop-taken.invariant.goes_on k.0 k.1 in
    (one.0.turns.later, one.0.turns.serves)

pub returns-in-Ended-clause-goes_on : goal.returns-in-Ended-clause-goes_on
returns-in-Ended-clause-goes_on g c h serves =
    let one = c.loop-taken.invariant.goes_on h serves in
    let i = c.loop-taken.taken in (
      i + 1,
      turns_then g.S.Disk.seen h i 1 (i + 1) (g.S.Disk.seen.view c.args.site.now).script c.turn.new.state c.turn.new.site
          c.loop-taken.state c.loop-taken.site (omega arith) one.0 (c.in-Ended.ensures.runs one.0.turns.later one.0.turns.serves).0,
    )

pub returns-in-Ended-clause-runs : goal.returns-in-Ended-clause-runs
unfolding returns-in-Ended-clause-goes_on turns_then
returns-in-Ended-clause-runs g c h serves =
    let all = returns-in-Ended-clause-goes_on g c h serves in
    let one = c.loop-taken.invariant.goes_on h serves in
    let two = c.in-Ended.ensures.runs one.0.turns.later one.0.turns.serves in
    has_served g.S.Disk.seen g.met.S.Disk.told c.crashes_hold_what_was_shown.ensures h all.1.deals c.args.turns
    (served.Done c.loop-taken.taken c.loop-taken.behind c.loop-taken.short) c.turn.new.state c.turn.new.site all.1.turns
    (ended_as g.S.Disk.seen h c.loop-taken.taken c.args.turns c.loop-taken.behind c.loop-taken.short (g.S.Disk.seen.view c.args.site.now).script
    c.loop-taken.state c.turn.new.state c.loop-taken.site c.turn.new.site one.0 two.0 c.loop-taken-test.true
    (subst (λ (v : View). IsOver v.transcript) (sym (g.met.S.Site.one.view c.turn.new.site))
    (is_over (g.S.Link.seen.view c.loop-taken.site) (g.S.Link.seen.view c.turn.new.site) (c.in-Ended.ensures.ended refl))) one.1 two.1)

pub returns-in-Ended-clause-shown : goal.returns-in-Ended-clause-shown
unfolding returns-in-Ended-clause-goes_on turns_then
returns-in-Ended-clause-shown g c h serves told belonged =
    let all = returns-in-Ended-clause-goes_on g c h serves in
    let one = c.loop-taken.invariant.goes_on h serves in
    let two = c.in-Ended.ensures.runs one.0.turns.later one.0.turns.serves in
    let shows = one.2 told belonged in
    let belongs = belongs_on g.S.Disk.seen c.turns_grow.ensures h one.0.turns.later two.0.turns.later c.args.state.now c.loop-taken.state c.turn.new.state
    c.args.site.now
    c.loop-taken.site c.turn.new.site c.loop-taken.writer serves one.0.turns.serves one.0.turns.since two.0.turns.serves two.0.turns.since told shows.belongs in
    served_shown g.S.Disk.seen g.met.S.Disk.told c.crashes_hold_what_was_shown.ensures h all.1.deals c.args.turns
    (served.Done c.loop-taken.taken c.loop-taken.behind c.loop-taken.short) c.args.writer.now c.loop-taken.writer c.turn.new.state c.turn.new.site all.1.turns
    (ended_as g.S.Disk.seen h c.loop-taken.taken c.args.turns c.loop-taken.behind c.loop-taken.short (g.S.Disk.seen.view c.args.site.now).script
    c.loop-taken.state c.turn.new.state c.loop-taken.site c.turn.new.site one.0 two.0 c.loop-taken-test.true
    (subst (λ (v : View). IsOver v.transcript) (sym (g.met.S.Site.one.view c.turn.new.site))
    (is_over (g.S.Link.seen.view c.loop-taken.site) (g.S.Link.seen.view c.turn.new.site) (c.in-Ended.ensures.ended refl))) one.1 two.1)
    record { last = one.0.turns.later; shows = shows; since = two.0.turns.since; belongs = belongs }

pub returns-in-LinkFault-clause-goes_on : goal.returns-in-LinkFault-clause-goes_on
returns-in-LinkFault-clause-goes_on g c h serves =
    let one = c.loop-taken.invariant.goes_on h serves in
    let i = c.loop-taken.taken in (
      i + 0,
      turns_then g.S.Disk.seen h i 0 (i + 0) (g.S.Disk.seen.view c.args.site.now).script c.turn.new.state c.turn.new.site
          c.loop-taken.state c.loop-taken.site (omega arith) one.0 (c.in-LinkFault.ensures.runs one.0.turns.later one.0.turns.serves).0,
    )

pub returns-in-LinkFault-clause-runs : goal.returns-in-LinkFault-clause-runs
unfolding returns-in-LinkFault-clause-goes_on turns_then
returns-in-LinkFault-clause-runs g c h serves =
    let all = returns-in-LinkFault-clause-goes_on g c h serves in
    let one = c.loop-taken.invariant.goes_on h serves in
    let two = c.in-LinkFault.ensures.runs one.0.turns.later one.0.turns.serves in
    has_served g.S.Disk.seen g.met.S.Disk.told c.crashes_hold_what_was_shown.ensures h all.1.deals c.args.turns served.LinkFault c.turn.new.state
    c.turn.new.site all.1.turns
    (stopped_as g.S.Disk.seen h c.loop-taken.taken c.args.turns (g.S.Disk.seen.view c.args.site.now).script c.loop-taken.state c.turn.new.state
    c.loop-taken.site c.turn.new.site one.0 two.0 c.loop-taken-test.true one.1 two.1)

pub returns-in-LinkFault-clause-shown : goal.returns-in-LinkFault-clause-shown
unfolding returns-in-LinkFault-clause-goes_on turns_then
returns-in-LinkFault-clause-shown g c h serves told belonged =
    let all = returns-in-LinkFault-clause-goes_on g c h serves in
    let one = c.loop-taken.invariant.goes_on h serves in
    let two = c.in-LinkFault.ensures.runs one.0.turns.later one.0.turns.serves in
    let shows = one.2 told belonged in
    let belongs = belongs_on g.S.Disk.seen c.turns_grow.ensures h one.0.turns.later two.0.turns.later c.args.state.now c.loop-taken.state c.turn.new.state
    c.args.site.now
    c.loop-taken.site c.turn.new.site c.loop-taken.writer serves one.0.turns.serves one.0.turns.since two.0.turns.serves two.0.turns.since told shows.belongs in
    served_shown g.S.Disk.seen g.met.S.Disk.told c.crashes_hold_what_was_shown.ensures h all.1.deals c.args.turns served.LinkFault c.args.writer.now c.loop-taken.writer
    c.turn.new.state c.turn.new.site all.1.turns
    (stopped_as g.S.Disk.seen h c.loop-taken.taken c.args.turns (g.S.Disk.seen.view c.args.site.now).script c.loop-taken.state c.turn.new.state
    c.loop-taken.site c.turn.new.site one.0 two.0 c.loop-taken-test.true one.1 two.1)
    (c.loop-taken.taken, c.loop-taken.behind, c.loop-taken.short, record { last = one.0.turns.later; shows = shows; since = two.0.turns.since; belongs = belongs })

pub returns-in-NoMemory-clause-goes_on : goal.returns-in-NoMemory-clause-goes_on
returns-in-NoMemory-clause-goes_on g c h serves =
    let one = c.loop-taken.invariant.goes_on h serves in
    let i = c.loop-taken.taken in (
      i + 0,
      turns_then g.S.Disk.seen h i 0 (i + 0) (g.S.Disk.seen.view c.args.site.now).script c.turn.new.state c.turn.new.site
          c.loop-taken.state c.loop-taken.site (omega arith) one.0 (c.in-NoMemory.ensures.runs one.0.turns.later one.0.turns.serves).0,
    )

pub returns-in-NoMemory-clause-runs : goal.returns-in-NoMemory-clause-runs
unfolding returns-in-NoMemory-clause-goes_on turns_then
returns-in-NoMemory-clause-runs g c h serves =
    let all = returns-in-NoMemory-clause-goes_on g c h serves in
    let one = c.loop-taken.invariant.goes_on h serves in
    let two = c.in-NoMemory.ensures.runs one.0.turns.later one.0.turns.serves in
    has_served g.S.Disk.seen g.met.S.Disk.told c.crashes_hold_what_was_shown.ensures h all.1.deals c.args.turns served.NoMemory c.turn.new.state
    c.turn.new.site all.1.turns
    (stopped_as g.S.Disk.seen h c.loop-taken.taken c.args.turns (g.S.Disk.seen.view c.args.site.now).script c.loop-taken.state c.turn.new.state
    c.loop-taken.site c.turn.new.site one.0 two.0 c.loop-taken-test.true one.1 two.1)

pub returns-in-NoMemory-clause-shown : goal.returns-in-NoMemory-clause-shown
unfolding returns-in-NoMemory-clause-goes_on turns_then
returns-in-NoMemory-clause-shown g c h serves told belonged =
    let all = returns-in-NoMemory-clause-goes_on g c h serves in
    let one = c.loop-taken.invariant.goes_on h serves in
    let two = c.in-NoMemory.ensures.runs one.0.turns.later one.0.turns.serves in
    let shows = one.2 told belonged in
    let belongs = belongs_on g.S.Disk.seen c.turns_grow.ensures h one.0.turns.later two.0.turns.later c.args.state.now c.loop-taken.state c.turn.new.state
    c.args.site.now
    c.loop-taken.site c.turn.new.site c.loop-taken.writer serves one.0.turns.serves one.0.turns.since two.0.turns.serves two.0.turns.since told shows.belongs in
    served_shown g.S.Disk.seen g.met.S.Disk.told c.crashes_hold_what_was_shown.ensures h all.1.deals c.args.turns served.NoMemory c.args.writer.now c.loop-taken.writer
    c.turn.new.state c.turn.new.site all.1.turns
    (stopped_as g.S.Disk.seen h c.loop-taken.taken c.args.turns (g.S.Disk.seen.view c.args.site.now).script c.loop-taken.state c.turn.new.state
    c.loop-taken.site c.turn.new.site one.0 two.0 c.loop-taken-test.true one.1 two.1)
    (c.loop-taken.taken, c.loop-taken.behind, c.loop-taken.short, record { last = one.0.turns.later; shows = shows; since = two.0.turns.since; belongs = belongs })

pub returns-clause-goes_on : goal.returns-clause-goes_on
returns-clause-goes_on g c h serves = (c.loop-taken.taken, (c.loop-taken.invariant.goes_on h serves).0)

pub returns-clause-runs : goal.returns-clause-runs
returns-clause-runs g c h serves =
    let one = c.loop-taken.invariant.goes_on h serves in
    let all = one.0 in
    let i = c.loop-taken.taken in
    let turns = c.args.turns in
    let is : i ≡ turns = search rules in
    has_served g.S.Disk.seen g.met.S.Disk.told c.crashes_hold_what_was_shown.ensures h all.deals turns
    (served.Done turns c.loop-taken.behind c.loop-taken.short)
    c.loop-taken.state c.loop-taken.site all.turns (
    inl (
      refl,
      subst (λ (k : ℕ). events_in all.turns.later.items ≡ k + events_in h.items) is
          (counted g.S.Disk.seen h i (g.S.Disk.seen.view c.args.site.now).script c.loop-taken.state c.loop-taken.site all),
      one.1,
    )
    )

pub returns-clause-shown : goal.returns-clause-shown
returns-clause-shown g c h serves told belonged =
    let one = c.loop-taken.invariant.goes_on h serves in
    let all = one.0 in
    let i = c.loop-taken.taken in
    let turns = c.args.turns in
    let is : i ≡ turns = search rules in
    let shows = one.2 told belonged in
    served_shown g.S.Disk.seen g.met.S.Disk.told c.crashes_hold_what_was_shown.ensures h all.deals turns
    (served.Done turns c.loop-taken.behind c.loop-taken.short)
    c.args.writer.now c.loop-taken.writer c.loop-taken.state c.loop-taken.site all.turns (
    inl (
      refl,
      subst (λ (k : ℕ). events_in all.turns.later.items ≡ k + events_in h.items) is
          (counted g.S.Disk.seen h i (g.S.Disk.seen.view c.args.site.now).script c.loop-taken.state c.loop-taken.site all),
      one.1,
    )
    ) (record {
      last = all.turns.later;
      shows = subst (λ (k : ℕ). Shows h all.turns.later k c.loop-taken.behind c.loop-taken.short c.args.writer.now c.loop-taken.writer) is shows;
      since = since_itself all.turns.later;
      belongs = shows.belongs;
    })
