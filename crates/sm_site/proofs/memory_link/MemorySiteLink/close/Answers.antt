use Rattle.std.proofs.Common.{drop, refl}
use Rattle.sm_site.specs.declared.step.Step.TheVariants.{Shut}
use Rattle.sm_site.specs.Meanings.Deal.{Shut as ShutDeal}
use Rattle.sm_site.proofs.Connections.{tracks_shut}
use Rattle.sm_site.proofs.Given.{script_quiet}
use Rattle.sm_site.proofs.Ordered.{ordered_step}
use Rattle.sm_site.proofs.Opens.{live_open}
use Rattle.sm_site.proofs.Steps.{adds_item, link_step}
use Rattle.sm_site.proofs.memory_link.MemorySiteLink.close.Goals as goal

pub returns-clause-shut : goal.returns-clause-shut
returns-clause-shut c = adds_item c.args.self.now.past.items c.note_shut.new.past.items (Shut c.args.conn) (ShutDeal c.args.conn) refl c.note_shut.ensures.past refl

pub invariant_of-self-clause-tracked : goal.invariant_of-self-clause-tracked
invariant_of-self-clause-tracked c = tracks_shut c.args.self.now.past.items c.note_shut.new.past.items c.args.conn c.args.self.now.live.items c.note_shut.new.live.items c.note_shut.ensures.past c.note_shut.ensures.others
    c.args.self.now.tracked

pub note_shut-requires-clause-room : goal.note_shut-requires-clause-room
note_shut-requires-clause-room c = c.args.self.now.spare (live_open c.args.conn c.args.self.now.past.items c.requires.live)

pub invariant_of-self-clause-scripted : goal.invariant_of-self-clause-scripted
invariant_of-self-clause-scripted c = script_quiet c.args.self.now.past.items c.note_shut.new.past.items (Shut c.args.conn) (drop c.args.self.now.taken c.args.self.now.script.items) c.note_shut.ensures.past refl c.args.self.now.scripted

pub invariant_of-self-clause-ordered : goal.invariant_of-self-clause-ordered
invariant_of-self-clause-ordered c = ordered_step c.args.self.now.past.items c.note_shut.new.past.items (Shut c.args.conn) c.note_shut.ensures.past refl c.args.self.now.ordered

pub returns-clause-link_alone : goal.returns-clause-link_alone
returns-clause-link_alone c = link_step _ _ (Shut c.args.conn) refl c.note_shut.ensures.past (λ s. refl) refl (λ m. refl) refl refl refl
