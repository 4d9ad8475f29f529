use Rattle.std.proofs.Common.{◌≡◌, ◌++◌, ◌∷◌, [], ℕ, List, None, Some, sym, subst, arith}
use Rattle.sm_site.specs.Clauses.{Acted}
use Rattle.sm_site.proofs.Moments.{weakened}
use Rattle.sm_site.proofs.Recording.{recorded_none}
use Rattle.sm_gatelog.specs.Logs.{IsSettled, SettleActs, SettleFaults}
use Rattle.sm_gatelog.specs.declared.answer.Settled.{Settled}
use Rattle.sm_seglog.specs.Segments.{count_of}
use Rattle.sm_seglog.specs.Standing as seg
use Rattle.sm_archive.proofs.Doubts.{image_of}
use Rattle.sm_archive.proofs.Settling.{log_stands, log_in_doubt, stored, gone, no_doubt, failed, channel_stays, channel_same, channel_taken, space_stays, space_same, space_taken}
use Rattle.sm_archive.proofs.archive.Archive.settle.Goals as goal

pub settle-requires : goal.settle-requires
settle-requires g c =
    let h = c.requires.stands in
    let old = g.D.Disk.seen.may_leave c.args.disk.now in
    let l = log_stands c.args.self.now c.in-Some.doubt h.0 h.1 old (sym c.in-Some.ensures.value) h.2 in
    record { doubt = log_in_doubt c.args.self.now c.in-Some.doubt h.0 h.1 old (sym c.in-Some.ensures.value) h.2; stands = λ x left. (l.0, Some l.1, l.2) }

pub returns-in-None-clause-channel : goal.returns-in-None-clause-channel
returns-in-None-clause-channel g c = channel_stays c.args.self.now c.args.self.now.log c.args.self.now.used c.take.new.self c.take.ensures.after

pub returns-in-None-clause-space : goal.returns-in-None-clause-space
returns-in-None-clause-space g c = space_stays c.args.self.now c.args.self.now.log c.args.self.now.used c.take.new.self c.take.ensures.after

pub returns-in-None-clause-settled : goal.returns-in-None-clause-settled
returns-in-None-clause-settled g c = no_doubt _ c.args.self.now c.take.new.self (g.D.Disk.seen.may_leave c.args.disk.now) (sym c.in-None.ensures.value) c.take.ensures.after

pub returns-in-Stored-clause-settled : goal.returns-in-Stored-clause-settled
returns-in-Stored-clause-settled g c =
    let now = g.D.Disk.seen.may_leave c.settle.new.disk in
    let at : c.in-Stored.place ≡ count_of c.args.self.now.log = subst (λ (r : Settled). IsSettled r (count_of c.args.self.now.log)) c.in-Stored.is c.settle.ensures.place in
    let so : (bodies : List (List ℕ)) (body : List ℕ) → seg.Stands c.args.self.now.log bodies (Some body) (g.D.Disk.seen.may_leave c.args.disk.now) → seg.Stands c.settle.new.self (bodies ++ body ∷ []) None now =
    λ bodies body s. (subst (λ (r : Settled). seg.AfterSettle bodies body r c.settle.new.self now) c.in-Stored.is (c.settle.ensures.after bodies body s)).1 in
    let did : Acted (g.D.Disk.seen.view c.args.disk.now) (g.D.Disk.seen.view c.settle.new.disk) =
    subst (λ (r : Settled). SettleActs r (g.D.Disk.seen.view c.args.disk.now) (g.D.Disk.seen.view c.settle.new.disk)) c.in-Stored.is c.settle.ensures.acts in
    stored _ did c.args.self.now c.in-Some.doubt c.settle.new.self c.saturating_add-self.result c.take_in.new.index c.in-Stored.place (g.D.Disk.seen.may_leave c.args.disk.now) (g.D.Disk.seen.may_leave c.settle.new.disk)
    (sym c.in-Some.ensures.value) at so c.saturating_add-self.ensures c.take_in.ensures c.take.new.self c.take.ensures.after

pub returns-in-Stored-clause-any_moment : goal.returns-in-Stored-clause-any_moment
returns-in-Stored-clause-any_moment g c = λ log doubt s.
    weakened g.D.Disk.seen _ _ _ _ c.settle.ensures.looks.moments (λ t d left. image_of c.args.self.now log doubt (g.D.Disk.seen.may_leave c.args.disk.now) s d left)

pub returns-in-Stored-clause-channel : goal.returns-in-Stored-clause-channel
returns-in-Stored-clause-channel g c =
    channel_taken c.args.self.now c.in-Some.doubt c.settle.new.self c.saturating_add-self.result c.in-Stored.place c.take_in.new.index c.take.new.self (sym c.in-Some.ensures.value) c.take_in.ensures c.take.ensures.after

pub returns-in-Stored-clause-space : goal.returns-in-Stored-clause-space
returns-in-Stored-clause-space g c =
    space_taken c.args.self.now c.in-Some.doubt c.settle.new.self c.saturating_add-self.result c.in-Stored.place c.take_in.new.index c.take.new.self (sym c.in-Some.ensures.value) c.take_in.ensures c.take.ensures.after

pub returns-in-Gone-clause-settled : goal.returns-in-Gone-clause-settled
returns-in-Gone-clause-settled g c =
    let now = g.D.Disk.seen.may_leave c.settle.new.disk in
    let so : (bodies : List (List ℕ)) (body : List ℕ) → seg.Stands c.args.self.now.log bodies (Some body) (g.D.Disk.seen.may_leave c.args.disk.now) → seg.Stands c.settle.new.self bodies None now =
    λ bodies body s. subst (λ (r : Settled). seg.AfterSettle bodies body r c.settle.new.self now) c.in-Gone.is (c.settle.ensures.after bodies body s) in
    let did : Acted (g.D.Disk.seen.view c.args.disk.now) (g.D.Disk.seen.view c.settle.new.disk) =
    subst (λ (r : Settled). SettleActs r (g.D.Disk.seen.view c.args.disk.now) (g.D.Disk.seen.view c.settle.new.disk)) c.in-Gone.is c.settle.ensures.acts in
    gone _ did c.args.self.now c.in-Some.doubt c.settle.new.self (g.D.Disk.seen.may_leave c.args.disk.now) (g.D.Disk.seen.may_leave c.settle.new.disk) (sym c.in-Some.ensures.value) so c.take.new.self c.take.ensures.after

pub returns-in-Gone-clause-any_moment : goal.returns-in-Gone-clause-any_moment
returns-in-Gone-clause-any_moment g c = λ log doubt s.
    weakened g.D.Disk.seen _ _ _ _ c.settle.ensures.looks.moments (λ t d left. image_of c.args.self.now log doubt (g.D.Disk.seen.may_leave c.args.disk.now) s d left)

pub returns-in-Gone-clause-channel : goal.returns-in-Gone-clause-channel
returns-in-Gone-clause-channel g c = channel_stays c.args.self.now c.settle.new.self c.args.self.now.used c.take.new.self c.take.ensures.after

pub returns-in-Gone-clause-space : goal.returns-in-Gone-clause-space
returns-in-Gone-clause-space g c = space_stays c.args.self.now c.settle.new.self c.args.self.now.used c.take.new.self c.take.ensures.after

pub returns-in-DiskFault-clause-any_moment : goal.returns-in-DiskFault-clause-any_moment
returns-in-DiskFault-clause-any_moment g c = λ log doubt s.
    weakened g.D.Disk.seen _ _ _ _ c.settle.ensures.looks.moments (λ t d left. image_of c.args.self.now log doubt (g.D.Disk.seen.may_leave c.args.disk.now) s d left)

pub returns-in-DiskFault-clause-failed : goal.returns-in-DiskFault-clause-failed
returns-in-DiskFault-clause-failed g c =
    failed c.args.self.now c.in-Some.doubt c.settle.new.self (g.D.Disk.seen.may_leave c.args.disk.now) (g.D.Disk.seen.may_leave c.settle.new.disk) (sym c.in-Some.ensures.value)
    (c.settle.ensures.same c.in-DiskFault.is) c.settle.ensures.looks.crash

pub returns-in-DiskFault-clause-channel : goal.returns-in-DiskFault-clause-channel
returns-in-DiskFault-clause-channel g c = channel_same c.args.self.now c.settle.new.self c.args.self.now.used c.in-Some.doubt (sym c.in-Some.ensures.value)

pub returns-in-DiskFault-clause-space : goal.returns-in-DiskFault-clause-space
returns-in-DiskFault-clause-space g c = space_same c.args.self.now c.settle.new.self c.args.self.now.used c.in-Some.doubt (sym c.in-Some.ensures.value)

pub returns-in-Stored-clause-stands : goal.returns-in-Stored-clause-stands
returns-in-Stored-clause-stands g c =
    let h = c.requires.stands in
    let m = returns-in-Stored-clause-settled g c h.0 h.1 h.2 in
    (m.0, None, m.2)

pub returns-in-Gone-clause-stands : goal.returns-in-Gone-clause-stands
returns-in-Gone-clause-stands g c =
    let h = c.requires.stands in
    let m = returns-in-Gone-clause-settled g c h.0 h.1 h.2 in
    (m.0, None, m.2)

pub returns-in-DiskFault-clause-stands : goal.returns-in-DiskFault-clause-stands
returns-in-DiskFault-clause-stands g c =
    let h = c.requires.stands in
    let m = returns-in-DiskFault-clause-failed g c h.0 h.1 h.2 in
    (h.0, h.1, m.1)

pub returns-in-Stored-clause-recorded : goal.returns-in-Stored-clause-recorded
returns-in-Stored-clause-recorded g c = c.settle.ensures.looks.moments.recorded

pub returns-in-Gone-clause-recorded : goal.returns-in-Gone-clause-recorded
returns-in-Gone-clause-recorded g c = c.settle.ensures.looks.moments.recorded

pub returns-in-DiskFault-clause-recorded : goal.returns-in-DiskFault-clause-recorded
returns-in-DiskFault-clause-recorded g c = c.settle.ensures.looks.moments.recorded

pub returns-in-None-clause-recorded : goal.returns-in-None-clause-recorded
returns-in-None-clause-recorded g c = recorded_none (g.D.Disk.seen.view c.args.disk.now)

pub returns-in-None-clause-reserved : goal.returns-in-None-clause-reserved
returns-in-None-clause-reserved g c = record { spare = omega arith; room = λ n has. has }

pub returns-in-DiskFault-clause-fault : goal.returns-in-DiskFault-clause-fault
returns-in-DiskFault-clause-fault g c = λ is.
    subst (λ (r : Settled). SettleFaults r (g.D.Disk.seen.view c.args.disk.now).disk_faults (g.D.Disk.seen.view c.settle.new.disk).disk_faults) c.in-DiskFault.is c.settle.ensures.cause
