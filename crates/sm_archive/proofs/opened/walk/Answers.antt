use Rattle.std.proofs.Common.{rules, arith, ◌≡◌, ◌∙◌, ℕ, List, [], ◌∷◌, ◌++◌, length, get_or, Option, IsSome, refl, sym, subst}
use Rattle.sm_model.specs.declared.entry.Entry.{Entry}
use Rattle.sm_site.proofs.Moments.{no_call, weakened, and_then}
use Rattle.sm_seglog.specs.Segments.{slots_of}
use Rattle.sm_archive.specs.Opening.{IsRead, IsWalked, IsMisfit}
use Rattle.sm_archive.specs.declared.index.Index.{Index}
use Rattle.sm_seglog.proofs.Standing.{outcome, slot_there}
use Rattle.sm_archive.proofs.Walking.{read_none, read_next, body_read, fails_at, place_is}
use Rattle.sm_archive.proofs.opened.walk.Goals as goal
use Rattle.sm_seglog.specs.Segments.{count_of}

pub loop-place-init : goal.loop-place-init
loop-place-init g c = record {
  is_read = read_none _ _ _;
  contents = refl;
  crash = λ x left. left;
  moments = no_call g.D.Disk.seen c.args.disk.now _ (λ t x left. g.met.D.Disk.no_later c.args.disk.now t x left);
  faults = omega arith;
  link = search rules;
}

pub loop-place-preserved : goal.loop-place-preserved
loop-place-preserved g c =
    let i = c.loop-place.invariant in
    let old = g.D.Disk.seen.may_leave c.args.disk.now in
    let there = body_read (g.D.Disk.seen.view c.args.disk.now).contents (g.D.Disk.seen.view c.loop-place.disk).contents c.args.log.now old
    (g.D.Disk.seen.may_leave c.loop-place.disk) c.loop-place.place c.in-Ok.body i.contents i.crash c.in-Ok.ensures.body in
    let on : (seen : List (List ℕ)) (log : List Entry) → IsWalked c.loop-place.index c.loop-place.used seen log → length seen ≡ c.loop-place.place → (e : Entry)
    × IsWalked c.admit.new.index c.admit.new.used (seen ++ c.in-Ok.body ∷ []) (log ++ e ∷ []) =
    subst (λ (b : List ℕ). (seen : List (List ℕ)) (log : List Entry) → IsWalked c.loop-place.index c.loop-place.used seen log → length seen ≡ c.loop-place.place → (e : Entry)
    × IsWalked c.admit.new.index c.admit.new.used (seen ++ b ∷ []) (log ++ e ∷ [])) c.as_slice.ensures c.in-Ok-admit.ensures.fits in
    record {
      is_read = read_next _ c.args.log.now old c.loop-place.index c.loop-place.used c.loop-place.place i.is_read c.admit.new.index c.admit.new.used c.in-Ok.body there on;
      contents = c.in-Ok.ensures.looks.contents ∙ i.contents;
      crash = λ x left. i.crash x (c.in-Ok.ensures.looks.crash x left);
      moments = and_then g.D.Disk.seen _ _ _ _ i.moments (weakened g.D.Disk.seen _ _ _ _ c.in-Ok.ensures.looks.moments (λ t x left. i.crash x left));
      faults = omega (arith, i.faults, c.in-Ok.ensures.disk_alone.no_fewer);
      link = search rules;
    }

pub returns-clause-read : goal.returns-clause-read
returns-clause-read g c =
    let end : c.loop-place.place ≡ count_of c.args.log.now = search rules in
    subst (λ (n : ℕ). IsRead (IsSome (g.D.Disk.seen.view c.args.disk.now).contents) c.args.log.now (g.D.Disk.seen.may_leave c.args.disk.now) c.loop-place.index c.loop-place.used n) end c.loop-place.invariant.is_read

pub returns-in-Err-Damaged-clause-refused : goal.returns-in-Err-Damaged-clause-refused
returns-in-Err-Damaged-clause-refused g c = λ at is bodies s some.
    let i = c.loop-place.invariant in
    let x = outcome (g.D.Disk.seen.view c.args.disk.now).contents (g.D.Disk.seen.may_leave c.args.disk.now) some (g.met.D.Disk.contents_pass c.args.disk.now) in
    let there = body_read (g.D.Disk.seen.view c.args.disk.now).contents (g.D.Disk.seen.view c.loop-place.disk).contents c.args.log.now (g.D.Disk.seen.may_leave c.args.disk.now)
    (g.D.Disk.seen.may_leave c.loop-place.disk) c.loop-place.place c.in-Ok.body i.contents i.crash c.in-Ok.ensures.body some bodies s in
    let misfit : (seen : List (List ℕ)) (log : List Entry) → IsWalked c.loop-place.index c.loop-place.used seen log → length seen ≡ c.loop-place.place → IsMisfit log c.in-Ok.body =
    subst (λ (b : List ℕ). (seen : List (List ℕ)) (log : List Entry) → IsWalked c.loop-place.index c.loop-place.used seen log → length seen ≡ c.loop-place.place → IsMisfit log b) c.as_slice.ensures
    (c.in-Err-Damaged.ensures.damaged (search rules)) in (
      c.loop-place.place,
      get_or (slots_of c.args.log.now.full ++ c.args.log.now.last.slots) c.loop-place.place (record { gate = 0; length = 0 }),
      slot_there bodies c.args.log.now c.loop-place.place (g.D.Disk.seen.may_leave c.args.disk.now) (record { gate = 0; length = 0 }) (s.each x.0 x.1) (search rules),
      sym (place_is {A = Option Index × ℕ} c.gate.result at is) ∙ c.gate.ensures (record { gate = 0; length = 0 }),
      fails_at _ c.args.log.now (g.D.Disk.seen.may_leave c.args.disk.now) c.loop-place.index c.loop-place.used c.loop-place.place i.is_read c.in-Ok.body bodies some s there misfit,
    )

pub returns-in-Err-DiskFault-clause-any_moment : goal.returns-in-Err-DiskFault-clause-any_moment
returns-in-Err-DiskFault-clause-any_moment g c =
    let i = c.loop-place.invariant in
    and_then g.D.Disk.seen _ _ _ _ i.moments (weakened g.D.Disk.seen _ _ _ _ c.read.ensures.looks.moments (λ t x left. i.crash x left))

pub returns-in-Err-NoMemory-clause-any_moment : goal.returns-in-Err-NoMemory-clause-any_moment
returns-in-Err-NoMemory-clause-any_moment g c =
    let i = c.loop-place.invariant in
    and_then g.D.Disk.seen _ _ _ _ i.moments (weakened g.D.Disk.seen _ _ _ _ c.read.ensures.looks.moments (λ t x left. i.crash x left))

pub returns-in-Err-Damaged-clause-any_moment : goal.returns-in-Err-Damaged-clause-any_moment
returns-in-Err-Damaged-clause-any_moment g c =
    let i = c.loop-place.invariant in
    and_then g.D.Disk.seen _ _ _ _ i.moments (weakened g.D.Disk.seen _ _ _ _ c.read.ensures.looks.moments (λ t x left. i.crash x left))

pub returns-in-Err-NoMemory-admit-clause-any_moment : goal.returns-in-Err-NoMemory-admit-clause-any_moment
returns-in-Err-NoMemory-admit-clause-any_moment g c =
    let i = c.loop-place.invariant in
    and_then g.D.Disk.seen _ _ _ _ i.moments (weakened g.D.Disk.seen _ _ _ _ c.read.ensures.looks.moments (λ t x left. i.crash x left))
