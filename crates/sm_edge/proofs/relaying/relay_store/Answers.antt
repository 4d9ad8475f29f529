use Rattle.std.proofs.Common.{◌∙◌, ◌≡◌, ℕ, List, Option, subst}
use Rattle.sm_model.specs.declared.entry.Entry.{Entry}
use Rattle.sm_model.specs.declared.track.Track.{Track}
use Rattle.sm_site.specs.Meanings.{Chosen, Seen}
use Rattle.sm_fetch.specs.declared.dial.Exchange.{Exchange}
use Rattle.sm_fetch.specs.Exchanges.{Peer}
use Rattle.sm_pull.specs.declared.plan.PullPlan.{PullPlan}
use Rattle.sm_relay.specs.declared.report.RelayReport.{RelayReport}
use Rattle.sm_edge.specs.Relaying.{HasRelayed}
use Rattle.sm_fetch.proofs.Alone.{on_then}
use Rattle.sm_command.proofs.Lasting.{silent_then}
use Rattle.sm_command.proofs.Starting.{stated_again}
use Rattle.sm_edge.proofs.Outlasting.{added_lasts, edge_spared, fits_alone, silent_grows}
use Rattle.sm_edge.proofs.relaying.relay_store.Goals as goal
use Rattle.sm_ends.specs.Ended.{End}

-- the channel by its other name
of_channel : {S C : Type 0} {site : Seen S} {told : C → Option (List Exchange)} {store : C → List Entry → Type 0}
    {later : C → C → Type 0} {faults : C → ℕ} {chosen : C → Option Peer} {input input' : End} {selection : Chosen} {host : List ℕ} {plan : PullPlan} {old new : S} {dial dial' : C}
    {report : RelayReport} (own channel : List Track) → own ≡ channel
    → HasRelayed site told store later faults chosen input input' selection host plan old new dial dial' own report
    → HasRelayed site told store later faults chosen input input' selection host plan old new dial dial' channel report
of_channel {site = site} {told = told} {store = store} {later = later} {faults = faults} {chosen = chosen} {input = input} {input' = input'} {selection = selection}
    {host = host} {plan = plan} {old = old} {new = new} {dial = dial} {dial' = dial'} {report = report} own channel same h =
    subst (λ (c : List Track). HasRelayed site told store later faults chosen input input' selection host plan old new dial dial' c report) same h

pub relay-report-requires : goal.relay-report-requires
relay-report-requires g c =
    let l = c.in-Ok.ensures.opened.store in
    record { stands = (l.log, c.in-Ok.field-0.channel, l.stands, l.channel_is); rounds = c.requires.rounds; tries = c.requires.tries }

pub returns-in-Ok-clause-relayed : goal.returns-in-Ok-clause-relayed
returns-in-Ok-clause-relayed g c =
    let o = c.in-Ok.ensures in
    let e = o.opened in
    let l = e.store in
    let r = c.relay-report.ensures.relayed l.log c.in-Ok.field-0.channel l.stands l.channel_is in
    of_channel c.in-Ok.field-0.channel _ (cc) (record {
      archive = c.in-Ok.field-0.archive;
      after = c.relay-report.new.archive;
      opened = c.open_edge.new.site;
      turned = c.open_edge.new.dial;
      edge = e;
      turned_to = o.turned;
      quiet = o.log;
      turns = o.dial;
      relayed = r.0;
      kept = r.1;
      listed = r.2;
      below = λ up first last before made was told serves below some. c.relay-report.ensures.below l.log c.in-Ok.field-0.channel up first last before made l.stands l.channel_is was told serves below some;
      well = λ up first last before made was told serves below patient offers. c.relay-report.ensures.well l.log c.in-Ok.field-0.channel up first last before made l.stands l.channel_is was told serves below patient offers;
      fault = c.relay-report.ensures.fault;
    })

pub returns-in-Ok-clause-chosen : goal.returns-in-Ok-clause-chosen
returns-in-Ok-clause-chosen g c =
    let o = c.in-Ok.ensures in
    let e = o.opened in
    let l = e.store in
    let r = c.relay-report.ensures.relayed l.log c.in-Ok.field-0.channel l.stands l.channel_is in
    r.0.adds.disk_alone.link.chosen ∙ o.chosen

pub returns-in-Ok-clause-dial : goal.returns-in-Ok-clause-dial
returns-in-Ok-clause-dial g c =
    let o = c.in-Ok.ensures in
    let e = o.opened in
    let l = e.store in
    let r = c.relay-report.ensures.relayed l.log c.in-Ok.field-0.channel l.stands l.channel_is in
    on_then g.met.C.Dial.later_then c.open_edge.ensures.dial r.0.asks.alone.on

pub returns-in-Ok-clause-stores : goal.returns-in-Ok-clause-stores
returns-in-Ok-clause-stores g c =
    let o = c.in-Ok.ensures in
    let e = o.opened in
    let l = e.store in
    let r = c.relay-report.ensures.relayed l.log c.in-Ok.field-0.channel l.stands l.channel_is in
    record {
      lasts = λ some log one base told.
          added_lasts g.S.Disk.seen g.met.S.Disk.contents_pass g.met.S.Disk.told g.met.S.Disk.at_now g.met.S.Disk.now_at
          c.stores_have_one_reading.ensures.one_list c.bodies_have_one_log.ensures log base c.args.site.now c.open_edge.new.site c.relay-report.new.disk one
          (c.open_edge.ensures.any_moment some log one) (λ image left. fits_alone l.log image (c.an_image_fits.ensures c.in-Ok.field-0.archive l.log _ c.open_edge.new.site image l.stands left))
          r.0.adds (c.open_edge.ensures.silent.transcript ∙ told);
      untouched = λ r. absurd (cc);
      spared = edge_spared g.S.Disk.seen c.args.site.now c.open_edge.new.site c.relay-report.new.disk o.opened;
    }

pub returns-in-Err-clause-stores : goal.returns-in-Err-clause-stores
returns-in-Err-clause-stores g c = record {
  lasts = λ some log one base told.
      silent_grows g.S.Disk.seen g.met.S.Disk.at_now log base c.args.site.now c.open_edge.new.site one (λ t image left. c.open_edge.ensures.any_moment some log one)
      (c.open_edge.ensures.silent.transcript ∙ told);
  untouched = λ r. c.in-Err.ensures.untouched r.0 (stated_again c.in-Err.fault _ r.1);
  spared = c.open_edge.ensures.spared;
}

pub returns-in-Ok-clause-silent : goal.returns-in-Ok-clause-silent
returns-in-Ok-clause-silent g c =
    let o = c.in-Ok.ensures in
    let e = o.opened in
    let l = e.store in
    let r = c.relay-report.ensures.relayed l.log c.in-Ok.field-0.channel l.stands l.channel_is in
    silent_then (g.S.Disk.seen.view c.args.site.now) (g.S.Disk.seen.view c.open_edge.new.site) (g.S.Disk.seen.view c.relay-report.new.disk)
    c.open_edge.ensures.silent r.0.adds.disk_alone
