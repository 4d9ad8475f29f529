use Rattle.std.proofs.Common.{◌≡◌, List, Option, None, Some, IsSome, sym, subst, inl, refl}
use Rattle.sm_model.specs.declared.entry.Entry.{Entry}
use Rattle.sm_model.specs.declared.entry.Entry.TheVariants.{Keep}
use Rattle.sm_archive.specs.Steps.{Grows}
use Rattle.sm_site.specs.Image.{Image}
use Rattle.sm_site.specs.Clauses.{Acted, Throughout}
use Rattle.sm_site.proofs.Moments.{weakened, and_then}
use Rattle.sm_site.proofs.Recording.{recorded_none, recorded_then, acted_first, acted_then}
use Rattle.sm_archive.specs.declared.ready.Ready.{Ready}
use Rattle.sm_archive.specs.Store.{IsStore}
use Rattle.sm_archive.specs.Keeper.{IsPrepared, Prepared}
use Rattle.sm_archive.proofs.Reservings.{stands_reserved, index_channel, pending_channel}
use Rattle.sm_archive.proofs.Settling.{clears_settles, clears_as}
use Rattle.sm_archive.proofs.Keepings.{still_prepared, step_from, grown, undeclared, refused_undeclared, rose_later}
use Rattle.sm_model.specs.declared.cause.Cause.{Cause}
use Rattle.sm_log.specs.Logs.{verdict_on}
use Rattle.sm_archive.specs.Keeping.{refusal_of}
use Rattle.sm_archive.proofs.archive.Archive.keep_at.Goals as goal

pub ready-requires-clause-channel : goal.ready-requires-clause-channel
ready-requires-clause-channel g c =
    let h = c.requires.stands in
    λ i. (index_channel c.args.self.now h.0 h.1 (g.D.Disk.seen.may_leave c.args.disk.now) h.2 i, pending_channel c.args.self.now h.0 h.1 (g.D.Disk.seen.may_leave c.args.disk.now) h.2 i)

pub returns-in-Err-clause-step : goal.returns-in-Err-clause-step
returns-in-Err-clause-step g c = stands_reserved c.args.self.now c.ready.new.self (g.D.Disk.seen.may_leave c.args.disk.now) c.in-Err.ensures.reserved

pub settle-requires : goal.settle-requires
settle-requires g c =
    let h = c.requires.stands in
    record { stands = (h.0, h.1, stands_reserved c.args.self.now c.ready.new.self (g.D.Disk.seen.may_leave c.args.disk.now) c.in-Ok.ensures.reserved h.0 h.1 h.2) }

pub returns-in-Err-settle-clause-step : goal.returns-in-Err-settle-clause-step
returns-in-Err-settle-clause-step g c = λ log doubt s.
    inl (c.in-Err-settle.ensures.failed log doubt (stands_reserved c.args.self.now c.ready.new.self (g.D.Disk.seen.may_leave c.args.disk.now) c.in-Ok.ensures.reserved log doubt s))

pub returns-in-Err-settle-clause-any_moment : goal.returns-in-Err-settle-clause-any_moment
returns-in-Err-settle-clause-any_moment g c = λ log doubt s told.
    weakened g.D.Disk.seen _ _ _ _ (c.settle.ensures.any_moment log doubt (stands_reserved c.args.self.now c.ready.new.self (g.D.Disk.seen.may_leave c.args.disk.now) c.in-Ok.ensures.reserved log doubt s))
    (λ t x h. (h.0, h.1, inl h.2))

pub keep_ready-requires : goal.keep_ready-requires
keep_ready-requires g c =
    let h = c.requires.stands in
    let s = stands_reserved c.args.self.now c.ready.new.self (g.D.Disk.seen.may_leave c.args.disk.now) c.in-Ok.ensures.reserved h.0 h.1 h.2 in
    let e = c.in-Ok-settle.ensures in
    let m = e.settled h.0 h.1 s in
    let p : IsPrepared 2 c.ready.new.self c.in-Some.ready c.args.fragment.now = subst (λ (o : Option Ready). Prepared o c.ready.new.self c.args.fragment.now) c.in-Some.is c.in-Ok.ensures.prepared in
    record { can = (m.0, c.args.fragment.now, m.2, still_prepared c.ready.new.self c.settle.new.self c.in-Some.ready c.args.fragment.now p e.channel e.space e.reserved.spare e.reserved.room, c.requires.valid) }

pub returns-in-None-clause-step : goal.returns-in-None-clause-step
returns-in-None-clause-step g c = λ log doubt s.
    let e = c.in-Ok-settle.ensures in
    let m = e.settled log doubt (stands_reserved c.args.self.now c.ready.new.self (g.D.Disk.seen.may_leave c.args.disk.now) c.in-Ok.ensures.reserved log doubt s) in
    let p : Prepared None c.ready.new.self c.args.fragment.now = subst (λ (o : Option Ready). Prepared o c.ready.new.self c.args.fragment.now) c.in-None.is c.in-Ok.ensures.prepared in (
      m.0,
      m.1,
      subst (λ (x : Cause). refusal_of c.args.fragment.now (verdict_on m.0 c.args.fragment.now) ≡ Some x) (sym c.undeclared.ensures)
          (refused_undeclared (verdict_on m.0 c.args.fragment.now) c.args.fragment.now c.args.address
          (undeclared c.settle.new.self c.settle.new.self.index m.0 c.args.fragment.now refl m.2.keeps.index (λ channel has. p channel (e.channel channel has))) c.requires.address),
      m.2,
    )

pub returns-in-None-clause-any_moment : goal.returns-in-None-clause-any_moment
returns-in-None-clause-any_moment g c = λ log doubt s told.
    weakened g.D.Disk.seen _ _ _ _ (c.settle.ensures.any_moment log doubt (stands_reserved c.args.self.now c.ready.new.self (g.D.Disk.seen.may_leave c.args.disk.now) c.in-Ok.ensures.reserved log doubt s))
    (λ t x h. (h.0, h.1, inl h.2))

pub returns-in-Some-clause-step : goal.returns-in-Some-clause-step
returns-in-Some-clause-step g c = λ log doubt s.
    let e = c.in-Ok-settle.ensures in
    let m = e.settled log doubt (stands_reserved c.args.self.now c.ready.new.self (g.D.Disk.seen.may_leave c.args.disk.now) c.in-Ok.ensures.reserved log doubt s) in
    let p : IsPrepared 2 c.ready.new.self c.in-Some.ready c.args.fragment.now = subst (λ (o : Option Ready). Prepared o c.ready.new.self c.args.fragment.now) c.in-Some.is c.in-Ok.ensures.prepared in
    let q = still_prepared c.ready.new.self c.settle.new.self c.in-Some.ready c.args.fragment.now p e.channel e.space e.reserved.spare e.reserved.room in
    let v0 = g.D.Disk.seen.view c.args.disk.now in
    let v1 = g.D.Disk.seen.view c.settle.new.disk in
    let v2 = g.D.Disk.seen.view c.keep_ready.new.disk in
    let clears = clears_as (Acted v0 v1) (Acted v0 v2) log doubt m.0 (λ did. acted_first v0 v1 v2 did c.keep_ready.ensures.recorded) m.1 in
    step_from (Acted v0 v2) (Acted v1 v2) (λ did. acted_then v0 v1 v2 c.settle.ensures.recorded did) (g.D.Disk.seen.may_leave c.keep_ready.new.disk) c.keep_ready.new.self log doubt m.0 clears
    c.args.fragment.now c.keep_ready.result (c.keep_ready.ensures.step m.0 c.args.fragment.now m.2 q c.requires.valid)

pub returns-in-Some-clause-any_moment : goal.returns-in-Some-clause-any_moment
returns-in-Some-clause-any_moment g c = λ log doubt s told.
    let e = c.in-Ok-settle.ensures in
    let s1 = stands_reserved c.args.self.now c.ready.new.self (g.D.Disk.seen.may_leave c.args.disk.now) c.in-Ok.ensures.reserved log doubt s in
    let m = e.settled log doubt s1 in
    let p : IsPrepared 2 c.ready.new.self c.in-Some.ready c.args.fragment.now = subst (λ (o : Option Ready). Prepared o c.ready.new.self c.args.fragment.now) c.in-Some.is c.in-Ok.ensures.prepared in
    let q = still_prepared c.ready.new.self c.settle.new.self c.in-Some.ready c.args.fragment.now p e.channel e.space e.reserved.spare e.reserved.room in
    let P = λ (t : Prim.Native.Nat.ℕ) (x : Image). (after : List Entry) × IsStore after x × Grows log doubt (Keep c.args.fragment.now) after in
    let first : Throughout g.D.Disk.seen c.args.disk.now c.settle.new.disk P =
    weakened g.D.Disk.seen _ _ _ _ (c.settle.ensures.any_moment log doubt s1) (λ t x h. (h.0, h.1, inl h.2)) in
    let second : Throughout g.D.Disk.seen c.settle.new.disk c.keep_ready.new.disk P =
    weakened g.D.Disk.seen _ _ _ _ (c.keep_ready.ensures.any_moment m.0 c.args.fragment.now m.2 q c.requires.valid (subst (λ (o : Option Image). IsSome o) (sym e.contents) told))
    (λ t x h. grown log doubt m.0 (clears_settles _ log doubt m.0 m.1) c.args.fragment.now x h) in
    and_then g.D.Disk.seen _ _ _ P first second

pub returns-in-Some-clause-fault : goal.returns-in-Some-clause-fault
returns-in-Some-clause-fault g c = λ is. rose_later _ _ _ c.settle.ensures.disk_alone.no_fewer (c.keep_ready.ensures.fault is)

pub returns-in-Some-clause-recorded : goal.returns-in-Some-clause-recorded
returns-in-Some-clause-recorded g c = recorded_then (g.D.Disk.seen.view c.args.disk.now) (g.D.Disk.seen.view c.settle.new.disk) (g.D.Disk.seen.view c.keep_ready.new.disk) c.settle.ensures.recorded c.keep_ready.ensures.recorded

pub returns-in-Err-clause-recorded : goal.returns-in-Err-clause-recorded
returns-in-Err-clause-recorded g c = recorded_none (g.D.Disk.seen.view c.args.disk.now)
