use Rattle.std.proofs.Common.{rules, refl, ◌≡◌, true, false, ◌++◌, ◌∷◌, [], drop, length}
use Rattle.sm_site.specs.declared.step.Step.TheVariants.{Read}
use Rattle.sm_site.proofs.Connections.{tracks_quiet}
use Rattle.sm_site.proofs.Given.{script_quiet}
use Rattle.sm_site.proofs.Ordered.{ordered_step}
use Rattle.sm_site.proofs.Steps.{elapses_step}
use Rattle.sm_site.proofs.memory_disk.MemorySiteDisk.read_at.Goals as goal

pub returns-clause-time : goal.returns-clause-time
returns-clause-time c =
    let later : c.note.new.past.items ≡ c.args.self.now.past.items ++ Read c.args.file c.args.at (length c.args.into.now) false ∷ [] = search rules in
    elapses_step c.args.self.now.first.items _ _ c.args.self.now.past.items c.note.new.past.items (Read c.args.file c.args.at (length c.args.into.now) false) later refl refl

pub invariant_of-self-then-fails-clause-ordered : goal.invariant_of-self-then-fails-clause-ordered
invariant_of-self-then-fails-clause-ordered c =
    let later : c.note.new.past.items ≡ c.args.self.now.past.items ++ Read c.args.file c.args.at (length c.args.into.now) true ∷ [] = search rules in
    ordered_step c.args.self.now.past.items c.note.new.past.items (Read c.args.file c.args.at (length c.args.into.now) true) later refl c.args.self.now.ordered

pub invariant_of-self-else-fails-clause-ordered : goal.invariant_of-self-else-fails-clause-ordered
invariant_of-self-else-fails-clause-ordered c =
    let later : c.note.new.past.items ≡ c.args.self.now.past.items ++ Read c.args.file c.args.at (length c.args.into.now) false ∷ [] = search rules in
    ordered_step c.args.self.now.past.items c.note.new.past.items (Read c.args.file c.args.at (length c.args.into.now) false) later refl c.args.self.now.ordered

pub invariant_of-self-then-fails-clause-tracked : goal.invariant_of-self-then-fails-clause-tracked
invariant_of-self-then-fails-clause-tracked c =
    let later : c.note.new.past.items ≡ c.args.self.now.past.items ++ Read c.args.file c.args.at (length c.args.into.now) true ∷ [] = search rules in
    tracks_quiet c.args.self.now.past.items c.note.new.past.items (Read c.args.file c.args.at (length c.args.into.now) true) c.args.self.now.live.items refl later refl c.args.self.now.tracked

pub invariant_of-self-then-fails-clause-scripted : goal.invariant_of-self-then-fails-clause-scripted
invariant_of-self-then-fails-clause-scripted c =
    let later : c.note.new.past.items ≡ c.args.self.now.past.items ++ Read c.args.file c.args.at (length c.args.into.now) true ∷ [] = search rules in
    script_quiet c.args.self.now.past.items c.note.new.past.items (Read c.args.file c.args.at (length c.args.into.now) true) (drop c.args.self.now.taken c.args.self.now.script.items) later refl c.args.self.now.scripted

pub invariant_of-self-else-fails-clause-tracked : goal.invariant_of-self-else-fails-clause-tracked
invariant_of-self-else-fails-clause-tracked c =
    let later : c.note.new.past.items ≡ c.args.self.now.past.items ++ Read c.args.file c.args.at (length c.args.into.now) false ∷ [] = search rules in
    tracks_quiet c.args.self.now.past.items c.note.new.past.items (Read c.args.file c.args.at (length c.args.into.now) false) c.args.self.now.live.items refl later refl c.args.self.now.tracked

pub invariant_of-self-else-fails-clause-scripted : goal.invariant_of-self-else-fails-clause-scripted
invariant_of-self-else-fails-clause-scripted c =
    let later : c.note.new.past.items ≡ c.args.self.now.past.items ++ Read c.args.file c.args.at (length c.args.into.now) false ∷ [] = search rules in
    script_quiet c.args.self.now.past.items c.note.new.past.items (Read c.args.file c.args.at (length c.args.into.now) false) (drop c.args.self.now.taken c.args.self.now.script.items) later refl c.args.self.now.scripted
