use Rattle.std.proofs.Common.{rules, refl, ◌≡◌, true, false, ◌++◌, ◌∷◌, [], drop}
use Rattle.sm_site.specs.declared.step.Step.TheVariants.{Sized}
use Rattle.sm_site.proofs.Connections.{tracks_quiet}
use Rattle.sm_site.proofs.Given.{script_quiet}
use Rattle.sm_site.proofs.Ordered.{ordered_step}
use Rattle.sm_site.proofs.memory_disk.MemorySiteDisk.size.Goals as goal

pub invariant_of-self-then-fails-clause-ordered : goal.invariant_of-self-then-fails-clause-ordered
invariant_of-self-then-fails-clause-ordered c =
    let later : c.note.new.past.items ≡ c.args.self.now.past.items ++ Sized c.args.file true ∷ [] = search rules in
    ordered_step c.args.self.now.past.items c.note.new.past.items (Sized c.args.file true) later refl c.args.self.now.ordered

pub invariant_of-self-else-fails-clause-ordered : goal.invariant_of-self-else-fails-clause-ordered
invariant_of-self-else-fails-clause-ordered c =
    let later : c.note.new.past.items ≡ c.args.self.now.past.items ++ Sized c.args.file false ∷ [] = search rules in
    ordered_step c.args.self.now.past.items c.note.new.past.items (Sized c.args.file false) later refl c.args.self.now.ordered

pub invariant_of-self-then-fails-clause-tracked : goal.invariant_of-self-then-fails-clause-tracked
invariant_of-self-then-fails-clause-tracked c =
    let later : c.note.new.past.items ≡ c.args.self.now.past.items ++ Sized c.args.file true ∷ [] = search rules in
    tracks_quiet c.args.self.now.past.items c.note.new.past.items (Sized c.args.file true) c.args.self.now.live.items refl later refl c.args.self.now.tracked

pub invariant_of-self-then-fails-clause-scripted : goal.invariant_of-self-then-fails-clause-scripted
invariant_of-self-then-fails-clause-scripted c =
    let later : c.note.new.past.items ≡ c.args.self.now.past.items ++ Sized c.args.file true ∷ [] = search rules in
    script_quiet c.args.self.now.past.items c.note.new.past.items (Sized c.args.file true) (drop c.args.self.now.taken c.args.self.now.script.items) later refl c.args.self.now.scripted

pub invariant_of-self-else-fails-clause-tracked : goal.invariant_of-self-else-fails-clause-tracked
invariant_of-self-else-fails-clause-tracked c =
    let later : c.note.new.past.items ≡ c.args.self.now.past.items ++ Sized c.args.file false ∷ [] = search rules in
    tracks_quiet c.args.self.now.past.items c.note.new.past.items (Sized c.args.file false) c.args.self.now.live.items refl later refl c.args.self.now.tracked

pub invariant_of-self-else-fails-clause-scripted : goal.invariant_of-self-else-fails-clause-scripted
invariant_of-self-else-fails-clause-scripted c =
    let later : c.note.new.past.items ≡ c.args.self.now.past.items ++ Sized c.args.file false ∷ [] = search rules in
    script_quiet c.args.self.now.past.items c.note.new.past.items (Sized c.args.file false) (drop c.args.self.now.taken c.args.self.now.script.items) later refl c.args.self.now.scripted
