use Rattle.std.proofs.Common.{List, Option, IsSome, sym, subst, inl}
use Rattle.sm_model.specs.declared.entry.Entry.{Entry}
use Rattle.sm_model.specs.declared.entry.Entry.TheVariants.{Declare}
use Rattle.sm_archive.specs.Steps.{Grows}
use Rattle.sm_site.specs.Image.{Image}
use Rattle.sm_site.specs.Clauses.{Acted, Throughout}
use Rattle.sm_site.proofs.Moments.{weakened, and_then}
use Rattle.sm_site.proofs.Recording.{recorded_none, recorded_then, acted_first, acted_then}
use Rattle.sm_archive.specs.Store.{IsStore}
use Rattle.sm_archive.proofs.Reservings.{stands_reserved}
use Rattle.sm_archive.proofs.Settling.{clears_settles, clears_as}
use Rattle.sm_archive.proofs.Declarings.{still_ready, step_from, grown, made_ok}
use Rattle.sm_archive.proofs.archive.Archive.declare_with.Goals as goal

pub settle-requires : goal.settle-requires
settle-requires g c =
    let h = c.requires.stands in
    record { stands = (h.0, h.1, stands_reserved c.args.self.now c.header.new.self (g.D.Disk.seen.may_leave c.args.disk.now) c.in-Ok.ensures.reserved h.0 h.1 h.2) }

pub returns-in-Err-clause-step : goal.returns-in-Err-clause-step
returns-in-Err-clause-step g c = stands_reserved c.args.self.now c.header.new.self (g.D.Disk.seen.may_leave c.args.disk.now) c.in-Err.ensures.reserved

pub returns-in-Err-settle-clause-step : goal.returns-in-Err-settle-clause-step
returns-in-Err-settle-clause-step g c = λ log doubt s.
    inl (c.in-Err-settle.ensures.failed log doubt (stands_reserved c.args.self.now c.header.new.self (g.D.Disk.seen.may_leave c.args.disk.now) c.in-Ok.ensures.reserved log doubt s))

pub returns-in-Err-settle-clause-any_moment : goal.returns-in-Err-settle-clause-any_moment
returns-in-Err-settle-clause-any_moment g c = λ log doubt s told.
    weakened g.D.Disk.seen _ _ _ _ (c.settle.ensures.any_moment log doubt (stands_reserved c.args.self.now c.header.new.self (g.D.Disk.seen.may_leave c.args.disk.now) c.in-Ok.ensures.reserved log doubt s))
    (λ t x h. (h.0, h.1, inl h.2))

pub declare_settled-requires-clause-can : goal.declare_settled-requires-clause-can
declare_settled-requires-clause-can g c =
    let h = c.requires.stands in
    let e = c.in-Ok-settle.ensures in
    let m = e.settled h.0 h.1 (stands_reserved c.args.self.now c.header.new.self (g.D.Disk.seen.may_leave c.args.disk.now) c.in-Ok.ensures.reserved h.0 h.1 h.2) in (
      m.0,
      m.2,
      still_ready c.args.self.now c.header.new.self c.settle.new.self (g.D.Disk.seen.may_leave c.args.disk.now) c.args.channel.now h.0 h.1 m.0 c.in-Ok.header h.2 (clears_settles _ h.0 h.1 m.0 m.1)
          (λ is. c.in-Ok.ensures.unneeded (made_ok _ _ is)) (λ own is. c.in-Ok.ensures.ready own (made_ok _ _ is)) e.reserved.spare e.reserved.room,
    )

pub returns-in-Ok-settle-clause-step : goal.returns-in-Ok-settle-clause-step
returns-in-Ok-settle-clause-step g c = λ log doubt s.
    let e = c.in-Ok-settle.ensures in
    let m = e.settled log doubt (stands_reserved c.args.self.now c.header.new.self (g.D.Disk.seen.may_leave c.args.disk.now) c.in-Ok.ensures.reserved log doubt s) in
    let r = still_ready c.args.self.now c.header.new.self c.settle.new.self (g.D.Disk.seen.may_leave c.args.disk.now) c.args.channel.now log doubt m.0 c.in-Ok.header s (clears_settles _ log doubt m.0 m.1)
    (λ is. c.in-Ok.ensures.unneeded (made_ok _ _ is)) (λ own is. c.in-Ok.ensures.ready own (made_ok _ _ is)) e.reserved.spare e.reserved.room in
    let v0 = g.D.Disk.seen.view c.args.disk.now in
    let v1 = g.D.Disk.seen.view c.settle.new.disk in
    let v2 = g.D.Disk.seen.view c.declare_settled.new.disk in
    let clears = clears_as (Acted v0 v1) (Acted v0 v2) log doubt m.0 (λ did. acted_first v0 v1 v2 did c.declare_settled.ensures.recorded) m.1 in
    step_from (Acted v0 v2) (Acted v1 v2) (λ did. acted_then v0 v1 v2 c.settle.ensures.recorded did) (g.D.Disk.seen.may_leave c.declare_settled.new.disk) c.declare_settled.new.self log doubt m.0 c.args.channel.now clears
    c.declare_settled.result (c.declare_settled.ensures.step m.0 m.2 r)

pub returns-in-Ok-settle-clause-any_moment : goal.returns-in-Ok-settle-clause-any_moment
returns-in-Ok-settle-clause-any_moment g c = λ log doubt s told.
    let e = c.in-Ok-settle.ensures in
    let s1 = stands_reserved c.args.self.now c.header.new.self (g.D.Disk.seen.may_leave c.args.disk.now) c.in-Ok.ensures.reserved log doubt s in
    let m = e.settled log doubt s1 in
    let r = still_ready c.args.self.now c.header.new.self c.settle.new.self (g.D.Disk.seen.may_leave c.args.disk.now) c.args.channel.now log doubt m.0 c.in-Ok.header s (clears_settles _ log doubt m.0 m.1)
    (λ is. c.in-Ok.ensures.unneeded (made_ok _ _ is)) (λ own is. c.in-Ok.ensures.ready own (made_ok _ _ is)) e.reserved.spare e.reserved.room in
    let P = λ (t : Prim.Native.Nat.ℕ) (x : Image). (after : List Entry) × IsStore after x × Grows log doubt (Declare c.args.channel.now) after in
    let first : Throughout g.D.Disk.seen c.args.disk.now c.settle.new.disk P =
    weakened g.D.Disk.seen _ _ _ _ (c.settle.ensures.any_moment log doubt s1) (λ t x h. (h.0, h.1, inl h.2)) in
    let second : Throughout g.D.Disk.seen c.settle.new.disk c.declare_settled.new.disk P =
    weakened g.D.Disk.seen _ _ _ _ (c.declare_settled.ensures.any_moment m.0 m.2 r (subst (λ (o : Option Image). IsSome o) (sym e.contents) told))
    (λ t x h. grown log doubt m.0 c.args.channel.now x (clears_settles _ log doubt m.0 m.1) h) in
    and_then g.D.Disk.seen _ _ _ P first second

pub returns-in-Ok-settle-clause-recorded : goal.returns-in-Ok-settle-clause-recorded
returns-in-Ok-settle-clause-recorded g c = recorded_then (g.D.Disk.seen.view c.args.disk.now) (g.D.Disk.seen.view c.settle.new.disk)
    (g.D.Disk.seen.view c.declare_settled.new.disk) c.settle.ensures.recorded c.declare_settled.ensures.recorded

pub returns-in-Err-clause-recorded : goal.returns-in-Err-clause-recorded
returns-in-Err-clause-recorded g c = recorded_none (g.D.Disk.seen.view c.args.disk.now)
