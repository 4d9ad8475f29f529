use Rattle.std.proofs.Common.{rules, ◌≡◌, ◌++◌, ◌∷◌, [], ℕ, IsTrue}
use Rattle.sm_site.specs.declared.event.Event.TheVariants.{Opened}
use Rattle.sm_site.specs.declared.step.Step.TheVariants.{Took}
use Rattle.sm_site.specs.Past.{is_in}
use Rattle.sm_site.proofs.Connections.{tracks_took}
use Rattle.sm_site.proofs.note.take_event.Goals as goal

pub returns-clause-tracked : goal.returns-clause-tracked
returns-clause-tracked c = λ tracks.
    let own = c.in_ok-own.own in
    let pushed : c.push.new.self.items ≡ c.args.past.now.items ++ Took own ∷ [] = search rules in
    let opened : (n : ℕ) → own ≡ Opened n → IsTrue (is_in n c.put_in.new.live.items) = search rules in
    tracks_took c.args.past.now.items c.push.new.self.items own c.args.live.now.items c.put_in.new.live.items pushed c.put_in.ensures.others opened tracks
