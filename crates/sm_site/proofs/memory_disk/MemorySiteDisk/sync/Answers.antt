use Rattle.std.proofs.Common.{drop, refl, rules, ◌≡◌, true, false, List, ◌++◌, ◌∷◌, [], ap, ◌∙◌, subst, sym}
use Rattle.sm_site.specs.declared.step.Step.{Step}
use Rattle.sm_site.specs.declared.step.Step.TheVariants.{Synced}
use Rattle.sm_site.specs.Image.{bytes_of}
use Rattle.sm_site.specs.Past.{State, Agrees, Range, Undoes, after, start, IsOutcome, image_of, without}
use Rattle.sm_site.proofs.Kept.{undoes_sync}
use Rattle.sm_site.proofs.Connections.{tracks_quiet}
use Rattle.sm_site.proofs.Steps.{after_push}
use Rattle.sm_site.proofs.Given.{script_quiet}
use Rattle.sm_site.proofs.Ordered.{ordered_step}
use Rattle.sm_site.proofs.Outcomes.{agrees_sync, no_more_sync, durable_sync}
use Rattle.sm_site.proofs.memory_disk.MemorySiteDisk.sync.Goals as goal

pub returns-clause-crash : goal.returns-clause-crash
returns-clause-crash c = λ x left.
    let old = after (start c.args.self.now.first.items) c.args.self.now.past.items in
    let later : c.note.new.past.items ≡ c.args.self.now.past.items ++ Synced c.args.file false ∷ [] = search rules in
    let is = ap (λ (l : List Step). after (start c.args.self.now.first.items) l) later ∙ after_push (start c.args.self.now.first.items) c.args.self.now.past.items (Synced c.args.file false) in
    no_more_sync old.contents old.base old.ranges c.args.file x (subst (λ (s : State). IsOutcome s x) is left)

pub returns-clause-durable : goal.returns-clause-durable
returns-clause-durable c = λ x left.
    let old = after (start c.args.self.now.first.items) c.args.self.now.past.items in
    let later : c.note.new.past.items ≡ c.args.self.now.past.items ++ Synced c.args.file false ∷ [] = search rules in
    let is = ap (λ (l : List Step). after (start c.args.self.now.first.items) l) later ∙ after_push (start c.args.self.now.first.items) c.args.self.now.past.items (Synced c.args.file false) in
    durable_sync old.contents old.base old.ranges c.args.file x (subst (λ (s : State). IsOutcome s x) is left) ∙ ap (λ (s : State). bytes_of s.contents c.args.file) (sym is)

pub invariant_of-self-2-clause-ranges : goal.invariant_of-self-2-clause-ranges
invariant_of-self-2-clause-ranges c =
    let old = after (start c.args.self.now.first.items) c.args.self.now.past.items in
    let later : c.note.new.past.items ≡ c.args.self.now.past.items ++ Synced c.args.file false ∷ [] = search rules in
    let is = ap (λ (l : List Step). after (start c.args.self.now.first.items) l) later ∙ after_push (start c.args.self.now.first.items) c.args.self.now.past.items (Synced c.args.file false) in
    ap (λ (s : State). s.ranges) is ∙ ap (λ (rs : List Range). without c.args.file rs) c.args.self.now.ranges ∙ sym c.forget.ensures.ranges

pub invariant_of-self-2-clause-undoes : goal.invariant_of-self-2-clause-undoes
invariant_of-self-2-clause-undoes c =
    let old = after (start c.args.self.now.first.items) c.args.self.now.past.items in
    let later : c.note.new.past.items ≡ c.args.self.now.past.items ++ Synced c.args.file false ∷ [] = search rules in
    let is = ap (λ (l : List Step). after (start c.args.self.now.first.items) l) later ∙ after_push (start c.args.self.now.first.items) c.args.self.now.past.items (Synced c.args.file false) in
    subst (λ (s : State). Undoes c.forget.new.pending.items (image_of c.args.self.now.files.items) s.base) (sym is)
    (undoes_sync c.args.self.now.pending.items c.forget.new.pending.items c.args.file (image_of c.args.self.now.files.items) old.contents old.base c.args.self.now.undoes c.args.self.now.cached c.forget.ensures.own c.forget.ensures.others)

pub invariant_of-self-2-clause-tracked : goal.invariant_of-self-2-clause-tracked
invariant_of-self-2-clause-tracked c =
    let later : c.note.new.past.items ≡ c.args.self.now.past.items ++ Synced c.args.file false ∷ [] = search rules in
    tracks_quiet c.args.self.now.past.items c.note.new.past.items (Synced c.args.file false) c.args.self.now.live.items refl later refl c.args.self.now.tracked

pub invariant_of-self-2-clause-agrees : goal.invariant_of-self-2-clause-agrees
invariant_of-self-2-clause-agrees c =
    let old = after (start c.args.self.now.first.items) c.args.self.now.past.items in
    let later : c.note.new.past.items ≡ c.args.self.now.past.items ++ Synced c.args.file false ∷ [] = search rules in
    let is = ap (λ (l : List Step). after (start c.args.self.now.first.items) l) later ∙ after_push (start c.args.self.now.first.items) c.args.self.now.past.items (Synced c.args.file false) in
    subst (λ (s : State). Agrees s) (sym is) (agrees_sync old.contents old.base old.ranges c.args.file c.args.self.now.agrees)

pub invariant_of-self-2-clause-scripted : goal.invariant_of-self-2-clause-scripted
invariant_of-self-2-clause-scripted c =
    let later : c.note.new.past.items ≡ c.args.self.now.past.items ++ Synced c.args.file false ∷ [] = search rules in
    script_quiet c.args.self.now.past.items c.note.new.past.items (Synced c.args.file false) (drop c.args.self.now.taken c.args.self.now.script.items) later refl c.args.self.now.scripted

pub invariant_of-self-then-fails-clause-ordered : goal.invariant_of-self-then-fails-clause-ordered
invariant_of-self-then-fails-clause-ordered c =
    let later : c.note.new.past.items ≡ c.args.self.now.past.items ++ Synced c.args.file true ∷ [] = search rules in
    ordered_step c.args.self.now.past.items c.note.new.past.items (Synced c.args.file true) later refl c.args.self.now.ordered

pub invariant_of-self-2-clause-ordered : goal.invariant_of-self-2-clause-ordered
invariant_of-self-2-clause-ordered c =
    let later : c.note.new.past.items ≡ c.args.self.now.past.items ++ Synced c.args.file false ∷ [] = search rules in
    ordered_step c.args.self.now.past.items c.note.new.past.items (Synced c.args.file false) later refl c.args.self.now.ordered

pub invariant_of-self-then-fails-clause-tracked : goal.invariant_of-self-then-fails-clause-tracked
invariant_of-self-then-fails-clause-tracked c =
    let later : c.note.new.past.items ≡ c.args.self.now.past.items ++ Synced c.args.file true ∷ [] = search rules in
    tracks_quiet c.args.self.now.past.items c.note.new.past.items (Synced c.args.file true) c.args.self.now.live.items refl later refl c.args.self.now.tracked

pub invariant_of-self-then-fails-clause-scripted : goal.invariant_of-self-then-fails-clause-scripted
invariant_of-self-then-fails-clause-scripted c =
    let later : c.note.new.past.items ≡ c.args.self.now.past.items ++ Synced c.args.file true ∷ [] = search rules in
    script_quiet c.args.self.now.past.items c.note.new.past.items (Synced c.args.file true) (drop c.args.self.now.taken c.args.self.now.script.items) later refl c.args.self.now.scripted
