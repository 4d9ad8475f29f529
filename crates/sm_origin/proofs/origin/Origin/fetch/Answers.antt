use Rattle.std.proofs.Common.{◌≡◌, refl, subst, sym, arith, IfOk, IsSome}
use Rattle.sm_model.specs.declared.cause.Cause.TheVariants as cause
use Rattle.sm_model.specs.declared.act.Act.TheVariants.{Fragment as Ask}
use Rattle.sm_archive.specs.declared.fetch.Fetched.TheVariants as fetched
use Rattle.sm_cache.specs.declared.cache.Kept.{Kept}
use Rattle.sm_log.specs.Logs.{channel_of}
use Rattle.sm_origin.specs.Acting.{IsHeld, StandsOn}
use Rattle.sm_origin.specs.Machine.{Machine, unread, wants}
use Rattle.sm_origin.specs.Replying.{wants as starves}
use Rattle.sm_origin.proofs.Places.{place_within}
use Rattle.sm_origin.proofs.Steps.{told_row}
use Rattle.sm_origin.proofs.Acts.{Laws, made_step}
use Rattle.sm_origin.proofs.Asked.{absent_is, not_kept, kept_if, read_remembers, no_hit, same_cache, status_of}
use Rattle.sm_origin.proofs.Replied.{made_absent, told_unread, told_damaged}
use Rattle.sm_origin.proofs.Whole.{told_no_hit, asks_read, gives, put_stands}
use Rattle.sm_origin.proofs.origin.Origin.fetch.Goals as goal

pub give_read-requires-clause-place : goal.give_read-requires-clause-place
give_read-requires-clause-place g c =
    let m = c.requires.stands.0 in
    let s = c.requires.stands.1 in
    let found = (c.in-Found.ensures.found c.in-Found.place c.in-Found.fragment refl).1 m.log m.doubt s.stands in
    omega (arith, place_within c.args.address.now m.log c.in-Found.place found.0, s.stands.keeps.sound.few)

pub returns-in-Found : goal.returns-in-Found
returns-in-Found g c =
    let laws : Laws g.D.Disk.seen =
    record { calls = g.met.D.Disk.calls_told; no_later = g.met.D.Disk.no_later; at_now = g.met.D.Disk.at_now; image = c.an_image_fits.ensures } in
    let site = g.D.Disk.seen in
    let old = c.args.disk.now in
    let new = c.fetch.new.disk in
    let was = c.args.self.now in
    let a = c.args.address.now in
    let k : Kept = record { place = c.in-Found.place; fragment = c.in-Found.fragment } in
    let found = c.in-Found.ensures.found k.place k.fragment refl in
    let held : (m : Machine) → StandsOn site m was old → IsHeld (IsSome (site.view old).contents) m.log (a, k) = λ m s.
    let log = found.1 m.log m.doubt s.stands in
    record { address = found.0; valid = c.in-Found.ensures.valid k.place k.fragment refl; place = log.0; same = log.1 } in
    gives site laws c.kept_is_added.ensures.one old new was c.give_read.new.self a k c.give_read.result c.or_starved.result c.requires.stands
    c.fetch.ensures.disk_alone c.fetch.ensures.any_moment
    (put_stands site laws old new was c.give_read.new.self a k c.give_read.result c.fetch.ensures.recorded c.fetch.ensures.stands
    c.give_read.ensures.archive c.give_read.ensures.put c.give_read.ensures.none held)
    held c.give_read.ensures.gives c.or_starved.ensures
    (λ status. read_remembers was.cache c.give_read.new.self.cache a k.place k.fragment c.give_read.result c.or_starved.result c.requires.absent found.0
    c.give_read.ensures.put c.give_read.ensures.none status c.or_starved.ensures)

-- where nothing is kept there
pub returns-in-Absent : goal.returns-in-Absent
returns-in-Absent g c =
    let laws : Laws g.D.Disk.seen =
    record { calls = g.met.D.Disk.calls_told; no_later = g.met.D.Disk.no_later; at_now = g.met.D.Disk.at_now; image = c.an_image_fits.ensures } in
    let site = g.D.Disk.seen in
    let old = c.args.disk.now in
    let new = c.fetch.new.disk in
    let was = c.args.self.now in
    let a = c.args.address.now in
    asks_read site laws old new was a c.or_starved-in-Absent.result c.requires.stands c.fetch.ensures.disk_alone c.fetch.ensures.any_moment c.fetch.ensures.stands
    (λ m s told.
    let none = not_kept c.kept_is_added.ensures.place m.log a ((c.in-Absent.ensures.absent m.log m.doubt s.stands).0 refl) in
    let given = c.tell_missing.ensures s.stands.bodies s.stands.body m.log m.doubt s.stands.keeps in
    made_step _ m m (Ask a) c.tell_missing.result c.or_starved-in-Absent.result refl (record { log = refl; doubt = refl })
    (subst (λ x. IfOk c.tell_missing.result (λ r. r ≡ x)) (sym (absent_is m.log a none)) given) c.or_starved-in-Absent.ensures)
    (λ m s. made_absent _ m.log a c.tell_missing.result c.or_starved-in-Absent.result ((c.in-Absent.ensures.absent m.log m.doubt s.stands).0 refl)
    (c.tell_missing.ensures s.stands.bodies s.stands.body m.log m.doubt s.stands.keeps) c.or_starved-in-Absent.ensures)
    (let m = c.requires.stands.0 in
    let s = c.requires.stands.1 in
    let given = c.tell_missing.ensures s.stands.bodies s.stands.body m.log m.doubt s.stands.keeps in
    same_cache a c.or_starved-in-Absent.result was.cache (no_hit (channel_of m.log) c.tell_missing.result c.or_starved-in-Absent.result given c.or_starved-in-Absent.ensures))

-- where it could not be read
pub returns-in-DiskFault : goal.returns-in-DiskFault
returns-in-DiskFault g c =
    let laws : Laws g.D.Disk.seen =
    record { calls = g.met.D.Disk.calls_told; no_later = g.met.D.Disk.no_later; at_now = g.met.D.Disk.at_now; image = c.an_image_fits.ensures } in
    let site = g.D.Disk.seen in
    let old = c.args.disk.now in
    let new = c.fetch.new.disk in
    let was = c.args.self.now in
    let a = c.args.address.now in
    asks_read site laws old new was a c.refuse.result c.requires.stands c.fetch.ensures.disk_alone c.fetch.ensures.any_moment c.fetch.ensures.stands
    (λ m s told.
    let kept = kept_if m.log a c.kept_is_added.ensures.place (λ none. not_absent ((c.in-DiskFault.ensures.absent m.log m.doubt s.stands).1 none)) in
    told_row _ m m (Ask a) cause.DiskFault c.refuse.result refl
    (λ r is. unread a kept.0 kept.1 refl kept.2 (record { log = refl; doubt = refl }) (c.in-DiskFault.ensures.fault refl) is) c.refuse.ensures)
    (λ m s. told_unread _ m.log a c.refuse.result (λ none. not_absent ((c.in-DiskFault.ensures.absent m.log m.doubt s.stands).1 none))
    (c.in-DiskFault.ensures.fault refl) c.refuse.ensures)
    (same_cache a c.refuse.result was.cache (told_no_hit cause.DiskFault c.refuse.result c.refuse.ensures))
  where
    not_absent : fetched.DiskFault ≡ fetched.Absent → ⊥
    not_absent e = cc

-- where what was read is none
pub returns-in-Damaged : goal.returns-in-Damaged
returns-in-Damaged g c =
    let laws : Laws g.D.Disk.seen =
    record { calls = g.met.D.Disk.calls_told; no_later = g.met.D.Disk.no_later; at_now = g.met.D.Disk.at_now; image = c.an_image_fits.ensures } in
    let site = g.D.Disk.seen in
    let old = c.args.disk.now in
    let new = c.fetch.new.disk in
    let was = c.args.self.now in
    let a = c.args.address.now in
    asks_read site laws old new was a c.refuse-in-Damaged.result c.requires.stands c.fetch.ensures.disk_alone c.fetch.ensures.any_moment c.fetch.ensures.stands
    (λ m s told. absurd (c.in-Damaged.ensures.damaged refl m.log m.doubt s.stands told))
    (λ m s. told_damaged _ m.log a c.refuse-in-Damaged.result (λ none. not_absent ((c.in-Damaged.ensures.absent m.log m.doubt s.stands).1 none))
    c.refuse-in-Damaged.ensures)
    (same_cache a c.refuse-in-Damaged.result was.cache (told_no_hit cause.Damaged c.refuse-in-Damaged.result c.refuse-in-Damaged.ensures))
  where
    not_absent : fetched.Damaged ≡ fetched.Absent → ⊥
    not_absent e = cc

-- where memory is wanted
pub returns-in-NoMemory : goal.returns-in-NoMemory
returns-in-NoMemory g c =
    let laws : Laws g.D.Disk.seen =
    record { calls = g.met.D.Disk.calls_told; no_later = g.met.D.Disk.no_later; at_now = g.met.D.Disk.at_now; image = c.an_image_fits.ensures } in
    let site = g.D.Disk.seen in
    let old = c.args.disk.now in
    let new = c.fetch.new.disk in
    let was = c.args.self.now in
    let a = c.args.address.now in
    asks_read site laws old new was a c.starved.result c.requires.stands c.fetch.ensures.disk_alone c.fetch.ensures.any_moment c.fetch.ensures.stands
    (λ m s told. wants (record { log = refl; doubt = refl }) c.starved.ensures)
    (λ m s. starves c.starved.ensures)
    (same_cache a c.starved.result was.cache (λ given. absurd (omega (arith, status_of c.starved.result c.starved.ensures, given))))
