use Rattle.std.proofs.Common.{List, ℕ, [], ◌++◌, refl, sym, ap, subst, length, append-nil, le_refl}
use Rattle.std.proofs.lemmas.Result.{err_from_is_err_and}
use Rattle.sm_model.specs.declared.fragment.Fragment.{Fragment}
use Rattle.sm_model.specs.FragText.{frag_text}
use Rattle.sm_export.specs.Exporting.{texts_from}
use Rattle.sm_export.specs.Qualities.{kept_list}
use Rattle.sm_export.specs.Gathering.{Leaves, LeavesFront}
use Rattle.sm_export.proofs.Gathered.{all_gathered, nothing_more}
use Rattle.sm_export.proofs.Kept.{kept_entry, none_entry}
use Rattle.sm_export.proofs.Reading.{disk_failed, no_memory, not_passed, was_damaged, well}
use Rattle.sm_export.proofs.writing.write_at.Goals as goal

pub returns-in_ok-write_fragment-in-Found-clause-ok : goal.returns-in_ok-write_fragment-in-Found-clause-ok
returns-in_ok-write_fragment-in-Found-clause-ok g c log doubt s told =
    let f = c.in-Found.ensures.found c.in-Found.place c.in-Found.fragment refl in
    let kept = kept_entry c.kept_is_added.ensures.one log c.in-Found.place c.in-Found.fragment c.args.address.now s.keeps.sound ((f.1 log doubt s).1 told) f.0 in
    let text = frag_text c.args.seq c.args.id c.in-Found.fragment [] in
    let a = g.O.Sink.held c.args.out.now in
    let b = g.O.Sink.held c.write_fragment.new.out in
    let before : List ℕ = c.args.gathered.now.items in
    let after : List ℕ = c.write_fragment.new.gathered.items in (
      subst (λ (fs : List Fragment). Leaves a b (before ++ texts_from c.args.seq c.args.id fs) after) (sym kept)
          (subst (λ (l : List ℕ). Leaves a b (before ++ l) after) (sym (append-nil text)) c.in_ok-write_fragment-in-Found.ensures.ok),
      ap length kept,
    )

pub returns-in_err-write_fragment-in-Found-clause-err : goal.returns-in_err-write_fragment-in-Found-clause-err
returns-in_err-write_fragment-in-Found-clause-err g c =
    let q = err_from_is_err_and c.from_residual.result c.from_residual.ensures.1 in
    rw q.1 (λ log doubt s told.
    let f = c.in-Found.ensures.found c.in-Found.place c.in-Found.fragment refl in
    let kept = kept_entry c.kept_is_added.ensures.one log c.in-Found.place c.in-Found.fragment c.args.address.now s.keeps.sound ((f.1 log doubt s).1 told) f.0 in
    let text = frag_text c.args.seq c.args.id c.in-Found.fragment [] in
    let a = g.O.Sink.held c.args.out.now in
    let b = g.O.Sink.held c.write_fragment.new.out in
    let before : List ℕ = c.args.gathered.now.items in
    let after : List ℕ = c.write_fragment.new.gathered.items in
    subst (λ (fs : List Fragment). LeavesFront a b (before ++ texts_from c.args.seq c.args.id fs) after) (sym kept)
    (subst (λ (l : List ℕ). LeavesFront a b (before ++ l) after) (sym (append-nil text)) c.in_err-write_fragment-in-Found.ensures.err))

pub returns-in-Absent-clause-ok : goal.returns-in-Absent-clause-ok
returns-in-Absent-clause-ok g c log doubt s told =
    let none = (c.in-Absent.ensures.absent log doubt s).0 refl in
    let kept = none_entry c.kept_is_added.ensures.place log c.args.address.now none in
    let a = g.O.Sink.held c.args.out.now in
    let before : List ℕ = c.args.gathered.now.items in (
      subst (λ (fs : List Fragment). Leaves a a (before ++ texts_from c.args.seq c.args.id fs) before) (sym kept) (all_gathered a (before ++ []) before (append-nil before)),
      ap length kept,
    )

pub returns-in-DiskFault-clause-err : goal.returns-in-DiskFault-clause-err
returns-in-DiskFault-clause-err g c log doubt s told = nothing_more (g.O.Sink.held c.args.out.now) c.args.gathered.now.items (texts_from c.args.seq c.args.id (kept_list log c.args.address.now))

pub returns-in-Damaged-clause-err : goal.returns-in-Damaged-clause-err
returns-in-Damaged-clause-err g c log doubt s told = nothing_more (g.O.Sink.held c.args.out.now) c.args.gathered.now.items (texts_from c.args.seq c.args.id (kept_list log c.args.address.now))

pub returns-in-NoMemory-clause-err : goal.returns-in-NoMemory-clause-err
returns-in-NoMemory-clause-err g c log doubt s told = nothing_more (g.O.Sink.held c.args.out.now) c.args.gathered.now.items (texts_from c.args.seq c.args.id (kept_list log c.args.address.now))

pub returns-in_ok-write_fragment-in-Found-clause-cause : goal.returns-in_ok-write_fragment-in-Found-clause-cause
returns-in_ok-write_fragment-in-Found-clause-cause g c = well _ _ (g.O.Sink.faults c.args.out.now) (g.O.Sink.faults c.write_fragment.new.out) _ c.in_ok-write_fragment-in-Found.ensures.later

pub returns-in_err-write_fragment-in-Found-clause-cause : goal.returns-in_err-write_fragment-in-Found-clause-cause
returns-in_err-write_fragment-in-Found-clause-cause g c =
    let q = err_from_is_err_and c.from_residual.result c.from_residual.ensures.1 in
    rw (q.1, q.2) (not_passed _ _ (g.O.Sink.held c.args.out.now) (g.O.Sink.held c.write_fragment.new.out) (g.O.Sink.faults c.args.out.now) (g.O.Sink.faults c.write_fragment.new.out)
    c.args.gathered.now.items c.write_fragment.new.gathered.items (frag_text c.args.seq c.args.id c.in-Found.fragment []) c.in_err-write_fragment-in-Found.field-0.0 c.in_err-write_fragment-in-Found.ensures)

pub returns-in-Absent-clause-cause : goal.returns-in-Absent-clause-cause
returns-in-Absent-clause-cause g c = well _ _ (g.O.Sink.faults c.args.out.now) (g.O.Sink.faults c.args.out.now) _ (le_refl (g.O.Sink.faults c.args.out.now))

pub returns-in-DiskFault-clause-cause : goal.returns-in-DiskFault-clause-cause
returns-in-DiskFault-clause-cause g c = disk_failed (g.D.Disk.seen.view c.args.disk.now) (g.D.Disk.seen.view c.fetch.new.disk) (g.O.Sink.faults c.args.out.now) (c.in-DiskFault.ensures.fault refl)

pub returns-in-Damaged-clause-cause : goal.returns-in-Damaged-clause-cause
returns-in-Damaged-clause-cause g c =
    was_damaged (g.D.Disk.seen.view c.args.disk.now) (g.D.Disk.seen.view c.fetch.new.disk) (g.O.Sink.faults c.args.out.now)
    (λ told. c.in-Damaged.ensures.damaged refl c.requires.stands.0 c.requires.stands.1 c.requires.stands.2 told)

pub returns-in-NoMemory-clause-cause : goal.returns-in-NoMemory-clause-cause
returns-in-NoMemory-clause-cause g c = no_memory (g.D.Disk.seen.view c.args.disk.now) (g.D.Disk.seen.view c.fetch.new.disk) (g.O.Sink.faults c.args.out.now)

pub returns-in_ok-write_fragment-in-Found-clause-read : goal.returns-in_ok-write_fragment-in-Found-clause-read
returns-in_ok-write_fragment-in-Found-clause-read g c = let e = c.fetch.ensures in record { stands = e.stands; any_moment = e.any_moment; disk_alone = e.disk_alone }

pub returns-in_err-write_fragment-in-Found-clause-read : goal.returns-in_err-write_fragment-in-Found-clause-read
returns-in_err-write_fragment-in-Found-clause-read g c = let e = c.fetch.ensures in record { stands = e.stands; any_moment = e.any_moment; disk_alone = e.disk_alone }

pub returns-in-Absent-clause-read : goal.returns-in-Absent-clause-read
returns-in-Absent-clause-read g c = let e = c.fetch.ensures in record { stands = e.stands; any_moment = e.any_moment; disk_alone = e.disk_alone }

pub returns-in-DiskFault-clause-read : goal.returns-in-DiskFault-clause-read
returns-in-DiskFault-clause-read g c = let e = c.fetch.ensures in record { stands = e.stands; any_moment = e.any_moment; disk_alone = e.disk_alone }

pub returns-in-Damaged-clause-read : goal.returns-in-Damaged-clause-read
returns-in-Damaged-clause-read g c = let e = c.fetch.ensures in record { stands = e.stands; any_moment = e.any_moment; disk_alone = e.disk_alone }

pub returns-in-NoMemory-clause-read : goal.returns-in-NoMemory-clause-read
returns-in-NoMemory-clause-read g c = let e = c.fetch.ensures in record { stands = e.stands; any_moment = e.any_moment; disk_alone = e.disk_alone }
