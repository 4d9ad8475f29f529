-- A rehearsal that was held.
use Rattle.std.specs.Prelude.{◌≡◌, ◌+◌, ◌*◌, ℕ, List, [], ◌∷◌, ◌++◌, map, codes, false}
use Rattle.sm_fetch.specs.declared.dial.Exchange.{Exchange}
use Rattle.sm_client.specs.Turns.{Meaning}
use Rattle.sm_site.specs.Memory.{site_seen, site_view, faults_of}
use Rattle.sm_site.specs.declared.memory.MemorySite.{MemorySite}
use Rattle.sm_world.specs.Clients.{CrashedBehind, PassedThrough, IsClient, lost_among, cut_among}
use Rattle.sm_world.specs.Deeds.{AreDone, deeds_in, fragments_in, place, requests_of}
use Rattle.sm_world.specs.Dialing.{Dialing}
use Rattle.sm_world.specs.Encoders.{log_of}
use Rattle.sm_world.specs.Header.{header_text}
use Rattle.sm_world.specs.Rounds.{crashes, refusals}
use Rattle.sm_world.specs.Told.{Tell}
use Rattle.sm_world.specs.Worlds.{World, Stands}
use Rattle.sm_world.specs.declared.rehearsal.Rehearsal.{Rehearsal}

-- The store began empty and keeps the channel and all that encoder A pushed, in order. What was drawn for the rounds was done to it, and
-- nothing else: the exchanges of the dial are the pushes of both encoders and then those of the three clients, one for each policy; and the site
-- crashed behind the first client. The numbers are those of the store, of what the pushes were answered, of the rounds that were drawn, and of the
-- clients' exchanges and fragments.
pub record Rehearsed {P : Type 0} (m : Meaning P) (number size : ℕ) (policies : List P) (r : Rehearsal) : Type 0 where
  pub world : World
  pub stands : Stands site_seen world r.dial.1.state r.dial.0
  pub began : world.first ≡ []
  pub log : world.log ≡ log_of size
  pub first : P
  pub second : P
  pub third : P
  pub policies_are : policies ≡ first ∷ second ∷ third ∷ []
  pub pushes : List Exchange
  pub ones : List Exchange
  pub twos : List Exchange
  pub threes : List Exchange
  pub made : r.dial.1.made ≡ ((pushes ++ ones) ++ twos) ++ threes
  pub asked : map (λ (x : Exchange). x.request) pushes ≡ requests_of place (codes "a") (deeds_in header_text size number)
  pub start : MemorySite × Dialing
  pub pushed : MemorySite × Dialing
  pub before : World
  pub stood : Stands site_seen before start.1.state start.0
  pub empty : before.log ≡ []
  pub none_made : start.1.made ≡ []
  pub none_lost : start.1.lost ≡ []
  pub none_cut : start.1.cut ≡ []
  pub done : AreDone place (codes "a") (deeds_in header_text size number) start pushed
  pub pushed_made : pushed.1.made ≡ pushes
  pub crash : CrashedBehind pushed r.dial (pushes ++ ones)
  pub middle : PassedThrough crash.behind r.dial ((pushes ++ ones) ++ twos)
  pub tell : Tell (fragments_in (deeds_in header_text size number)) pushes r.summary.known r.summary.refused
  pub one : IsClient m first (codes "video") size (site_view pushed.0) (site_view crash.before.0) ones r.first
  pub two : IsClient m second (codes "video") size (site_view crash.behind.0) (site_view middle.dial.0) twos r.second
  pub three : IsClient m third (codes "audio") size (site_view middle.dial.0) (site_view r.dial.0) threes r.third
  pub kept : r.summary.kept ≡ 3 * size
  pub refused : r.summary.refused ≡ refusals size number
  pub crashed : r.summary.crashes ≡ 1 + crashes size number
  pub crashes_are : r.summary.crashes ≡ r.dial.1.crashes
  pub lost : r.summary.lost ≡ lost_among ones + lost_among twos + lost_among threes
  pub cut : r.summary.cut ≡ cut_among ones + cut_among twos + cut_among threes
  pub played : r.summary.played ≡ 3 * size
  pub fed : (faults_of r.dial.0).starved ≡ false
