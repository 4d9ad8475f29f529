-- What pushes leave of an origin in memory.
use Rattle.std.specs.Prelude.{◌≡◌, ◌≤◌, ◌<◌, ◌+◌, ◌^◌, ℕ, List, [], ◌++◌, length, codes}
use Rattle.sm_fetch.specs.declared.dial.Exchange.{Exchange}
use Rattle.sm_site.specs.declared.memory.MemorySite.{MemorySite}
use Rattle.sm_site.specs.Memory.{site_seen}
use Rattle.sm_world.specs.Deeds.{Deed, AreDone, fragments_in, place}
use Rattle.sm_world.specs.Dialing.{Dialing}
use Rattle.sm_world.specs.Header.{header_text}
use Rattle.sm_world.specs.Later.{Continues}
use Rattle.sm_world.specs.Told.{Tell}
use Rattle.sm_world.specs.Worlds.{World, Stands}
use Rattle.sm_world.specs.declared.stage.Stage.{Stage}

-- wherever an origin in memory stood, it stands at a log that goes on
abbrev pub StaysOn : MemorySite × Dialing → MemorySite × Dialing → Type 0
StaysOn old new = Continues site_seen old new

-- This was done to the origin, and further exchanges are its pushes. So many were refused, at most so many of their fragments were known, and
-- the site crashed so often; and what their answers say is counted.
pub record HasPushed (old new : Stage) (deeds : List Deed) (crashes refusals most : ℕ) : Type 0 where
  pub place : new.place ≡ old.place
  pub id : new.id ≡ old.id
  pub header : new.header ≡ old.header
  pub done : AreDone old.place old.id deeds old.dial new.dial
  pub more : List Exchange
  pub made : new.dial.1.made ≡ old.dial.1.made ++ more
  pub known : ℕ
  pub tell : Tell (fragments_in deeds) more known refusals
  pub known_is : new.known ≡ old.known + known
  pub few : known ≤ most
  pub refused_is : new.refused ≡ old.refused + refusals
  pub crashed : old.dial.1.crashes + crashes < 2 ^ 62 → new.dial.1.crashes ≡ old.dial.1.crashes + crashes
  pub stays_on : StaysOn old.dial new.dial

-- Nothing has happened yet: the store is empty, and no exchange is to be lost or cut.
pub record Begins (s : Stage) : Type 0 where
  pub world : World
  pub stands : Stands site_seen world s.dial.1.state s.dial.0
  pub first : world.first ≡ []
  pub log : world.log ≡ []
  pub place : s.place ≡ place
  pub id : s.id ≡ codes "a"
  pub header : s.header ≡ header_text
  pub made : s.dial.1.made ≡ []
  pub lost : s.dial.1.lost ≡ []
  pub cut : s.dial.1.cut ≡ []
  pub crashes : s.dial.1.crashes ≡ 0
  pub known : s.known ≡ 0
  pub refused : s.refused ≡ 0

-- wherever an origin in memory stands, its log has so many entries
abbrev pub HasEntries : MemorySite × Dialing → ℕ → Type 0
HasEntries dial entries = (w : World) → Stands site_seen w dial.1.state dial.0 → length w.log ≡ entries
