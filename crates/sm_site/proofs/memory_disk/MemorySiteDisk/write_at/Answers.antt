use Rattle.std.proofs.Common.{rules, true, false, ◌≡◌, inl, ◌∙◌, List, length, drop, subst, sym, refl}
use Rattle.sm_site.specs.declared.step.Step.{Step}
use Rattle.sm_site.specs.declared.step.Step.TheVariants.{Wrote}
use Rattle.sm_site.specs.Past.{IsOutcome, after, start, image_of}
use Rattle.sm_site.proofs.Steps.{elapses_step}
use Rattle.sm_site.proofs.Tearing.{not_torn}
use Rattle.sm_site.proofs.Told.{when_ok}
use Rattle.sm_site.proofs.Writes.{Put, put_down, note_write}
use Rattle.sm_site.proofs.Noted.{put_agrees, put_cached, put_follows, put_ordered, put_ranges, put_script, put_tears, put_tracks, put_undoes}
use Rattle.sm_site.proofs.memory_disk.MemorySiteDisk.write_at.Goals as goal

pub returns-then-is_err-clause-crash : goal.returns-then-is_err-clause-crash
returns-then-is_err-clause-crash c = λ x left.
    let same : c.note_write-noted.new.past.items ≡ c.args.self.now.past.items = search rules in
    (x, subst (λ (l : List Step). IsOutcome (after (start c.args.self.now.first.items) l) x) same left, not_torn c.args.file c.args.at (length c.args.bytes.now) x)

pub invariant_of-self-then-fails-clause-cached : goal.invariant_of-self-then-fails-clause-cached
invariant_of-self-then-fails-clause-cached c =
    put_cached (put_down c.note_write-noted.result (sym c.is_err.ensures.value ∙ c.if-is_err.false) c.note_write-noted.ensures.past)
    (start c.args.self.now.first.items) (image_of c.args.self.now.files.items) (image_of c.note_write-noted.new.files.items)
    c.args.self.now.cached c.note_write-noted.ensures.others (search rules) (search rules)

pub invariant_of-self-else-fails-clause-cached : goal.invariant_of-self-else-fails-clause-cached
invariant_of-self-else-fails-clause-cached c =
    put_cached (put_down c.note_write-noted.result (sym c.is_err.ensures.value ∙ c.if-is_err.false) c.note_write-noted.ensures.past)
    (start c.args.self.now.first.items) (image_of c.args.self.now.files.items) (image_of c.note_write-noted.new.files.items)
    c.args.self.now.cached c.note_write-noted.ensures.others (search rules) (search rules)

pub invariant_of-self-then-fails-clause-ranges : goal.invariant_of-self-then-fails-clause-ranges
invariant_of-self-then-fails-clause-ranges c =
    put_ranges (put_down c.note_write-noted.result (sym c.is_err.ensures.value ∙ c.if-is_err.false) c.note_write-noted.ensures.past)
    (start c.args.self.now.first.items) c.args.self.now.pending.items c.note_write-noted.new.pending.items (image_of c.args.self.now.files.items)
    (when_ok c.note_write-noted.result (sym c.is_err.ensures.value ∙ c.if-is_err.false) c.note_write-noted.ensures.pending) c.args.self.now.ranges

pub invariant_of-self-else-fails-clause-ranges : goal.invariant_of-self-else-fails-clause-ranges
invariant_of-self-else-fails-clause-ranges c =
    put_ranges (put_down c.note_write-noted.result (sym c.is_err.ensures.value ∙ c.if-is_err.false) c.note_write-noted.ensures.past)
    (start c.args.self.now.first.items) c.args.self.now.pending.items c.note_write-noted.new.pending.items (image_of c.args.self.now.files.items)
    (when_ok c.note_write-noted.result (sym c.is_err.ensures.value ∙ c.if-is_err.false) c.note_write-noted.ensures.pending) c.args.self.now.ranges

pub invariant_of-self-then-fails-clause-undoes : goal.invariant_of-self-then-fails-clause-undoes
invariant_of-self-then-fails-clause-undoes c =
    put_undoes (put_down c.note_write-noted.result (sym c.is_err.ensures.value ∙ c.if-is_err.false) c.note_write-noted.ensures.past)
    (start c.args.self.now.first.items) (image_of c.args.self.now.files.items) (image_of c.note_write-noted.new.files.items)
    c.args.self.now.cached c.note_write-noted.ensures.others (search rules) (search rules)
    c.args.self.now.pending.items c.note_write-noted.new.pending.items
    (when_ok c.note_write-noted.result (sym c.is_err.ensures.value ∙ c.if-is_err.false) c.note_write-noted.ensures.pending) c.requires.inside c.args.self.now.undoes

pub invariant_of-self-else-fails-clause-undoes : goal.invariant_of-self-else-fails-clause-undoes
invariant_of-self-else-fails-clause-undoes c =
    put_undoes (put_down c.note_write-noted.result (sym c.is_err.ensures.value ∙ c.if-is_err.false) c.note_write-noted.ensures.past)
    (start c.args.self.now.first.items) (image_of c.args.self.now.files.items) (image_of c.note_write-noted.new.files.items)
    c.args.self.now.cached c.note_write-noted.ensures.others (search rules) (search rules)
    c.args.self.now.pending.items c.note_write-noted.new.pending.items
    (when_ok c.note_write-noted.result (sym c.is_err.ensures.value ∙ c.if-is_err.false) c.note_write-noted.ensures.pending) c.requires.inside c.args.self.now.undoes

pub invariant_of-self-then-fails-clause-agrees : goal.invariant_of-self-then-fails-clause-agrees
invariant_of-self-then-fails-clause-agrees c =
    put_agrees (put_down c.note_write-noted.result (sym c.is_err.ensures.value ∙ c.if-is_err.false) c.note_write-noted.ensures.past)
    (start c.args.self.now.first.items) c.requires.inside c.args.self.now.agrees

pub invariant_of-self-else-fails-clause-agrees : goal.invariant_of-self-else-fails-clause-agrees
invariant_of-self-else-fails-clause-agrees c =
    put_agrees (put_down c.note_write-noted.result (sym c.is_err.ensures.value ∙ c.if-is_err.false) c.note_write-noted.ensures.past)
    (start c.args.self.now.first.items) c.requires.inside c.args.self.now.agrees

pub invariant_of-self-then-fails-clause-tracked : goal.invariant_of-self-then-fails-clause-tracked
invariant_of-self-then-fails-clause-tracked c =
    put_tracks (put_down c.note_write-noted.result (sym c.is_err.ensures.value ∙ c.if-is_err.false) c.note_write-noted.ensures.past)
    c.args.self.now.live.items c.args.self.now.tracked

pub invariant_of-self-else-fails-clause-tracked : goal.invariant_of-self-else-fails-clause-tracked
invariant_of-self-else-fails-clause-tracked c =
    put_tracks (put_down c.note_write-noted.result (sym c.is_err.ensures.value ∙ c.if-is_err.false) c.note_write-noted.ensures.past)
    c.args.self.now.live.items c.args.self.now.tracked

pub invariant_of-self-then-fails-clause-scripted : goal.invariant_of-self-then-fails-clause-scripted
invariant_of-self-then-fails-clause-scripted c =
    put_script (put_down c.note_write-noted.result (sym c.is_err.ensures.value ∙ c.if-is_err.false) c.note_write-noted.ensures.past)
    (drop c.args.self.now.taken c.args.self.now.script.items) c.args.self.now.scripted

pub invariant_of-self-else-fails-clause-scripted : goal.invariant_of-self-else-fails-clause-scripted
invariant_of-self-else-fails-clause-scripted c =
    put_script (put_down c.note_write-noted.result (sym c.is_err.ensures.value ∙ c.if-is_err.false) c.note_write-noted.ensures.past)
    (drop c.args.self.now.taken c.args.self.now.script.items) c.args.self.now.scripted

pub invariant_of-self-then-fails-clause-ordered : goal.invariant_of-self-then-fails-clause-ordered
invariant_of-self-then-fails-clause-ordered c =
    put_ordered (put_down c.note_write-noted.result (sym c.is_err.ensures.value ∙ c.if-is_err.false) c.note_write-noted.ensures.past)
    c.args.self.now.ordered

pub invariant_of-self-else-fails-clause-ordered : goal.invariant_of-self-else-fails-clause-ordered
invariant_of-self-else-fails-clause-ordered c =
    put_ordered (put_down c.note_write-noted.result (sym c.is_err.ensures.value ∙ c.if-is_err.false) c.note_write-noted.ensures.past)
    c.args.self.now.ordered

pub returns-then-fails-clause-torn : goal.returns-then-fails-clause-torn
returns-then-fails-clause-torn c =
    put_tears (put_down c.note_write-noted.result (sym c.is_err.ensures.value ∙ c.if-is_err.false) c.note_write-noted.ensures.past)
    (start c.args.self.now.first.items) c.requires.inside

pub returns-then-fails-clause-crash : goal.returns-then-fails-clause-crash
returns-then-fails-clause-crash c =
    put_follows (put_down c.note_write-noted.result (sym c.is_err.ensures.value ∙ c.if-is_err.false) c.note_write-noted.ensures.past)
    (start c.args.self.now.first.items) c.requires.inside

pub returns-then-fails-clause-time : goal.returns-then-fails-clause-time
returns-then-fails-clause-time c =
    let noted : Put c.args.self.now.past.items c.note_write-noted.new.past.items c.args.file c.args.at c.args.bytes.now c.if-is_failing.fails c.if-not-fails.reached =
    put_down c.note_write-noted.result (sym c.is_err.ensures.value ∙ c.if-is_err.false) c.note_write-noted.ensures.past in
    elapses_step c.args.self.now.first.items _ _ c.args.self.now.past.items c.note_write-noted.new.past.items
    (Wrote c.args.file c.args.at noted.own c.if-is_failing.fails c.if-not-fails.reached) noted.behind refl refl

pub returns-clause-crash : goal.returns-clause-crash
returns-clause-crash c =
    put_follows (put_down c.note_write-noted.result (sym c.is_err.ensures.value ∙ c.if-is_err.false) c.note_write-noted.ensures.past)
    (start c.args.self.now.first.items) c.requires.inside

pub returns-clause-time : goal.returns-clause-time
returns-clause-time c =
    let noted : Put c.args.self.now.past.items c.note_write-noted.new.past.items c.args.file c.args.at c.args.bytes.now c.if-is_failing.fails c.if-not-fails.reached =
    put_down c.note_write-noted.result (sym c.is_err.ensures.value ∙ c.if-is_err.false) c.note_write-noted.ensures.past in
    elapses_step c.args.self.now.first.items _ _ c.args.self.now.past.items c.note_write-noted.new.past.items
    (Wrote c.args.file c.args.at noted.own c.if-is_failing.fails c.if-not-fails.reached) noted.behind refl refl

pub returns-then-fails-clause-note_fault : goal.returns-then-fails-clause-note_fault
returns-then-fails-clause-note_fault c =
    let noted : Put c.args.self.now.past.items c.note_write-noted.new.past.items c.args.file c.args.at c.args.bytes.now c.if-is_failing.fails c.if-not-fails.reached =
    put_down c.note_write-noted.result (sym c.is_err.ensures.value ∙ c.if-is_err.false) c.note_write-noted.ensures.past in
    inl (note_write
    c.args.self.now.past.items c.note_write-noted.new.past.items c.args.file c.args.at noted.own c.if-is_failing.fails c.if-not-fails.reached c.args.bytes.now
    noted.copied noted.behind true c.if-fails.true)

pub returns-clause-note : goal.returns-clause-note
returns-clause-note c =
    let noted : Put c.args.self.now.past.items c.note_write-noted.new.past.items c.args.file c.args.at c.args.bytes.now c.if-is_failing.fails c.if-not-fails.reached =
    put_down c.note_write-noted.result (sym c.is_err.ensures.value ∙ c.if-is_err.false) c.note_write-noted.ensures.past in
    note_write c.args.self.now.past.items c.note_write-noted.new.past.items c.args.file c.args.at noted.own c.if-is_failing.fails c.if-not-fails.reached c.args.bytes.now
    noted.copied noted.behind false c.if-fails.false
