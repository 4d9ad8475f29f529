-- What becomes of a dial.
use Rattle.std.specs.Prelude.{◌≡◌, ◌≤◌, List, ◌++◌, length}
use Rattle.sm_model.specs.declared.entry.Entry.{Entry}
use Rattle.sm_site.specs.Meanings.{Seen}
use Rattle.sm_fetch.specs.declared.dial.Exchange.{Exchange}
use Rattle.sm_world.specs.Dialing.{Dialing, next_number}
use Rattle.sm_world.specs.Numbered.{AreAnswered, AreByNumber}
use Rattle.sm_world.specs.Saying.{StandsAt, TellsOn}
use Rattle.sm_world.specs.Worlds.{World, Stands, GoesOn}

-- Further exchanges were told, and each was answered by what came of it on the way. From each log at which it stood it stands at one that goes
-- on, and on the way they were answered by their numbers, for causes on that way.
pub record HasMade {D : Type 0} (site : Seen D) (old new : D × Dialing) : Type 0 where
  pub more : List Exchange
  pub made : new.1.made ≡ old.1.made ++ more
  pub answered : AreAnswered (site.view old.0) (site.view new.0) old.1.lost old.1.cut old.1.since (length old.1.made) more
  pub on : old.1.since ≤ length old.1.made → (log : List Entry) → StandsAt site old.1.state old.0 log
      → (later : List Entry) × StandsAt site new.1.state new.0 later
      × AreByNumber (site.view old.0) (site.view new.0) old.1.lost old.1.cut (next_number old.1) log more later

-- A dial after any exchanges: the same numbers are lost and cut, counted from the same place; the site was not crashed; and wherever it
-- stood, it stands at a log that goes on.
pub record IsLater {D : Type 0} (site : Seen D) (old new : D × Dialing) : Type 0 where
  pub limits : new.1.limits ≡ old.1.limits
  pub lost : new.1.lost ≡ old.1.lost
  pub cut : new.1.cut ≡ old.1.cut
  pub since : new.1.since ≡ old.1.since
  pub crashes : new.1.crashes ≡ old.1.crashes
  pub tells : TellsOn (site.view old.0) (site.view new.0)
  pub exchanges : HasMade site old new
  pub goes_on : GoesOn site old.1.state old.0 new.1.state new.0

-- Wherever it stood, it stands at a log that began as that one did and goes on from it, through crashes too.
abbrev pub Continues : {D : Type 0} (site : Seen D) → D × Dialing → D × Dialing
    → Type 0
Continues site old new = (w : World) → Stands site w old.1.state old.0
    → (now : World) × Stands site now new.1.state new.0 × (now.first ≡ w.first) × ((more : List Entry) × (now.log ≡ w.log ++ more))
