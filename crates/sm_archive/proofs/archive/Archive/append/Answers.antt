use Rattle.std.proofs.Common.{◌≡◌, ◌⊎◌, ◌+◌, ◌≤◌, ◌<◌, ◌^◌, ◌++◌, ◌∷◌, [], List, ℕ, length, None, Some, ap, sym, subst}
use Rattle.sm_site.specs.Clauses.{Acted, Throughout}
use Rattle.sm_site.proofs.Moments.{weakened}
use Rattle.sm_gatelog.specs.Logs.{Acts, FaultsRise, IsStored}
use Rattle.sm_gatelog.specs.declared.answer.Appended.{Appended}
use Rattle.sm_seglog.specs.Stores.{HasStore}
use Rattle.sm_seglog.specs.Segments.{IsReady, count_of}
use Rattle.sm_seglog.specs.Standing as seg
use Rattle.sm_seglog.proofs.Standing.{outcome}
use Rattle.sm_archive.proofs.Appending.{can_be_taken, log_sure, seg_stands, image_within, appended, not_appended, doubted, same_place}
use Rattle.sm_archive.proofs.archive.Archive.append.Goals as goal

pub append-requires : goal.append-requires
append-requires g c =
    let h = c.requires.can in
    let old = g.D.Disk.seen.may_leave c.args.disk.now in
    let log = c.args.self.now.log in
    let same : c.args.body ≡ c.as_slice.result.now = sym c.as_slice.ensures in
    record {
      no_doubt = log_sure c.args.self.now c.args.entry c.args.body h.0 h.1 old h.2 h.3;
      some = subst (λ (b : List ℕ). 1 ≤ length b) same h.3.some;
      short = subst (λ (b : List ℕ). length b < 2 ^ 32) same h.3.short;
      ready = subst (λ (b : List ℕ). IsReady log (length b)) same (record { spare = h.3.spare; room = h.3.room });
      fits = subst (λ (b : List ℕ). seg.Fits log (length b)) same h.3.files;
      stands = λ x left. (h.2.bodies, None, seg_stands c.args.self.now c.args.entry c.args.body h.0 h.1 old h.2 h.3);
    }

pub take_in-requires : goal.take_in-requires
take_in-requires g c =
    let h = c.requires.can in
    can_be_taken c.args.self.now c.args.entry c.args.body h.0 h.1 (g.D.Disk.seen.may_leave c.args.disk.now) h.2 h.3

pub returns-in-Stored-clause-stored : goal.returns-in-Stored-clause-stored
returns-in-Stored-clause-stored g c = λ place is log x s can.
    let old = g.D.Disk.seen.may_leave c.args.disk.now in
    let now = g.D.Disk.seen.may_leave c.append.new.disk in
    let at : c.in-Stored.place ≡ count_of c.args.self.now.log = subst (λ (r : Appended). IsStored r (count_of c.args.self.now.log)) c.in-Stored.is c.append.ensures.place in
    let so : (bodies : List (List ℕ)) → seg.Stands c.args.self.now.log bodies None old → seg.Stands c.append.new.self (bodies ++ c.args.body ∷ []) None now =
    subst (λ (b : List ℕ). (bodies : List (List ℕ)) → seg.Stands c.args.self.now.log bodies None old → seg.Stands c.append.new.self (bodies ++ b ∷ []) None now) c.as_slice.ensures
    (λ bodies from. (subst (λ (r : Appended). seg.AfterAppend bodies c.as_slice.result.now r c.append.new.self now) c.in-Stored.is (c.append.ensures.after bodies from)).1) in
    let made = appended c.args.self.now c.args.entry c.args.body log x old s can c.append.new.self _ c.take_in.new.index c.in-Stored.place now at so
    (ap (λ (n : ℕ). c.args.self.now.used + (5 + n)) c.len-bytes.ensures) c.take_in.ensures in
    (same_place c.in-Stored.place place is made.0, made.1)

pub returns-in-Clean-clause-failed : goal.returns-in-Clean-clause-failed
returns-in-Clean-clause-failed g c = λ is log x s can.
    let old = g.D.Disk.seen.may_leave c.args.disk.now in
    let now = g.D.Disk.seen.may_leave c.append.new.disk in
    let stay : seg.Stays c.args.self.now.log c.append.new.self = subst (λ (r : Appended). seg.Leaves c.args.self.now.log r c.append.new.self) c.in-Clean.is c.append.ensures.leaves in
    let so : (bodies : List (List ℕ)) → seg.Stands c.args.self.now.log bodies None old → seg.Stands c.append.new.self bodies None now =
    λ bodies from. subst (λ (r : Appended). seg.AfterAppend bodies c.as_slice.result.now r c.append.new.self now) c.in-Clean.is (c.append.ensures.after bodies from) in
    not_appended c.args.self.now c.args.entry c.args.body log x old s can _ c.append.new.self now stay so

pub returns-in-Doubt-clause-failed : goal.returns-in-Doubt-clause-failed
returns-in-Doubt-clause-failed g c = λ is log x s can.
    let old = g.D.Disk.seen.may_leave c.args.disk.now in
    let now = g.D.Disk.seen.may_leave c.append.new.disk in
    let stay : seg.Stays c.args.self.now.log c.append.new.self = subst (λ (r : Appended). seg.Leaves c.args.self.now.log r c.append.new.self) c.in-Doubt.is c.append.ensures.leaves in
    let so : (bodies : List (List ℕ)) → seg.Stands c.args.self.now.log bodies None old → seg.Stands c.append.new.self bodies (Some c.args.body) now =
    subst (λ (b : List ℕ). (bodies : List (List ℕ)) → seg.Stands c.args.self.now.log bodies None old → seg.Stands c.append.new.self bodies (Some b) now) c.as_slice.ensures
    (λ bodies from. subst (λ (r : Appended). seg.AfterAppend bodies c.as_slice.result.now r c.append.new.self now) c.in-Doubt.is (c.append.ensures.after bodies from)) in
    let did : Acted (g.D.Disk.seen.view c.args.disk.now) (g.D.Disk.seen.view c.append.new.disk) =
    subst (λ (r : Appended). Acts r (g.D.Disk.seen.view c.args.disk.now) (g.D.Disk.seen.view c.append.new.disk)) c.in-Doubt.is c.append.ensures.acts in
    doubted c.args.self.now c.args.entry c.args.body log x old s can _ did c.append.new.self _ now (ap (λ (n : ℕ). 5 + n) c.len-bytes.ensures) stay so

pub returns-in-Stored-clause-any_moment : goal.returns-in-Stored-clause-any_moment
returns-in-Stored-clause-any_moment g c = λ log e s can told.
    let old = g.D.Disk.seen.may_leave c.args.disk.now in
    let here = outcome (g.D.Disk.seen.view c.args.disk.now).contents old told (g.met.D.Disk.contents_pass c.args.disk.now) in
    let stood = seg_stands c.args.self.now c.args.entry c.args.body log e old s can in
    let all : Throughout g.D.Disk.seen c.args.disk.now c.append.new.disk (λ t x. HasStore s.bodies x ⊎ HasStore (s.bodies ++ c.args.body ∷ []) x) =
    subst (λ (b : List ℕ). Throughout g.D.Disk.seen c.args.disk.now c.append.new.disk (λ t x. HasStore s.bodies x ⊎ HasStore (s.bodies ++ b ∷ []) x)) c.as_slice.ensures
    (c.append.ensures.images s.bodies (stood.each here.0 here.1)).moments in
    weakened g.D.Disk.seen _ _ _ _ all (λ t x has. image_within c.args.self.now c.args.entry c.args.body log e old s can x has)

pub returns-in-Clean-clause-any_moment : goal.returns-in-Clean-clause-any_moment
returns-in-Clean-clause-any_moment g c = λ log e s can told.
    let old = g.D.Disk.seen.may_leave c.args.disk.now in
    let here = outcome (g.D.Disk.seen.view c.args.disk.now).contents old told (g.met.D.Disk.contents_pass c.args.disk.now) in
    let stood = seg_stands c.args.self.now c.args.entry c.args.body log e old s can in
    let all : Throughout g.D.Disk.seen c.args.disk.now c.append.new.disk (λ t x. HasStore s.bodies x ⊎ HasStore (s.bodies ++ c.args.body ∷ []) x) =
    subst (λ (b : List ℕ). Throughout g.D.Disk.seen c.args.disk.now c.append.new.disk (λ t x. HasStore s.bodies x ⊎ HasStore (s.bodies ++ b ∷ []) x)) c.as_slice.ensures
    (c.append.ensures.images s.bodies (stood.each here.0 here.1)).moments in
    weakened g.D.Disk.seen _ _ _ _ all (λ t x has. image_within c.args.self.now c.args.entry c.args.body log e old s can x has)

pub returns-in-Doubt-clause-any_moment : goal.returns-in-Doubt-clause-any_moment
returns-in-Doubt-clause-any_moment g c = λ log e s can told.
    let old = g.D.Disk.seen.may_leave c.args.disk.now in
    let here = outcome (g.D.Disk.seen.view c.args.disk.now).contents old told (g.met.D.Disk.contents_pass c.args.disk.now) in
    let stood = seg_stands c.args.self.now c.args.entry c.args.body log e old s can in
    let all : Throughout g.D.Disk.seen c.args.disk.now c.append.new.disk (λ t x. HasStore s.bodies x ⊎ HasStore (s.bodies ++ c.args.body ∷ []) x) =
    subst (λ (b : List ℕ). Throughout g.D.Disk.seen c.args.disk.now c.append.new.disk (λ t x. HasStore s.bodies x ⊎ HasStore (s.bodies ++ b ∷ []) x)) c.as_slice.ensures
    (c.append.ensures.images s.bodies (stood.each here.0 here.1)).moments in
    weakened g.D.Disk.seen _ _ _ _ all (λ t x has. image_within c.args.self.now c.args.entry c.args.body log e old s can x has)

pub returns-in-Stored-clause-acts : goal.returns-in-Stored-clause-acts
returns-in-Stored-clause-acts g c = λ place is. subst (λ (r : Appended). Acts r (g.D.Disk.seen.view c.args.disk.now) (g.D.Disk.seen.view c.append.new.disk)) c.in-Stored.is c.append.ensures.acts

pub returns-in-Stored-clause-ends : goal.returns-in-Stored-clause-ends
returns-in-Stored-clause-ends g c = λ place is. subst (λ (r : Appended). seg.Leaves c.args.self.now.log r c.append.new.self) c.in-Stored.is c.append.ensures.leaves

pub returns-in-Stored-clause-used : goal.returns-in-Stored-clause-used
returns-in-Stored-clause-used g c = λ place is. ap (λ (n : ℕ). c.args.self.now.used + (5 + n)) c.len-bytes.ensures

pub returns-in-Clean-clause-fault : goal.returns-in-Clean-clause-fault
returns-in-Clean-clause-fault g c = λ is.
    subst (λ (r : Appended). FaultsRise r (g.D.Disk.seen.view c.args.disk.now).disk_faults (g.D.Disk.seen.view c.append.new.disk).disk_faults) c.in-Clean.is c.append.ensures.cause

pub returns-in-Doubt-clause-fault : goal.returns-in-Doubt-clause-fault
returns-in-Doubt-clause-fault g c = λ is.
    subst (λ (r : Appended). FaultsRise r (g.D.Disk.seen.view c.args.disk.now).disk_faults (g.D.Disk.seen.view c.append.new.disk).disk_faults) c.in-Doubt.is c.append.ensures.cause
