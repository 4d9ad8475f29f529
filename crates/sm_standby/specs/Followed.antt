-- Turns that were taken, and how they ended.
use Rattle.std.specs.Prelude.{◌≡◌, ◌⊎◌, ℕ, List, [], ◌∷◌, ◌++◌, Option}
use Rattle.sm_model.specs.declared.address.Address.{Address}
use Rattle.sm_model.specs.declared.entry.Entry.{Entry}
use Rattle.sm_model.specs.declared.track.Track.{Track}
use Rattle.sm_site.specs.Meanings.{Seen}
use Rattle.sm_site.specs.Clauses.{Rose}
use Rattle.sm_archive.specs.declared.archive.Archive.{Archive}
use Rattle.sm_manin.specs.declared.listing.Listing.{Listing}
use Rattle.sm_fetch.specs.declared.dial.Exchange.{Exchange}
use Rattle.sm_fetch.specs.Exchanges.{Peer}
use Rattle.sm_pull.specs.declared.plan.PullPlan.{PullPlan}
use Rattle.sm_pull.specs.Adds.{Adds, keeps_of}
use Rattle.sm_pull.specs.Asks.{Asks}
use Rattle.sm_standby.specs.declared.held.Later.{Later}
use Rattle.sm_standby.specs.declared.report.FollowEnd.{FollowEnd}
use Rattle.sm_standby.specs.declared.report.FollowEnd.TheVariants as ends
use Rattle.sm_standby.specs.Waiting.{AreOpen}
use Rattle.sm_standby.specs.Turns.{url_of, Whose, address_for, Came, Turn, asked, Standing, IsTurnOf, Turns, made_in, kept_in, AreUpstream}
use Rattle.sm_standby.specs.Asked.{StopsAt}

abbrev pub at : List Entry → List Later → List Address → Standing
at log held rest = record { log = log; held = held; rest = rest }

-- Turns were taken from here on, and the call goes on.
pub record Follows {D C : Type 0} (site : Seen D) (told : C → Option (List Exchange)) (store : C → List Entry → Type 0)
    (goes_on : C → C → Type 0) (faults : C → ℕ) (chosen : C → Option Peer) (disk disk' : D) (dial dial' : C) (plan : PullPlan) (channel : List Track)
    (listing : Listing) (old new : Archive) (s : Standing) (held : List Later) (rest : List Address) : Type 0 where
  pub log : List Entry
  pub turns : List Turn
  pub legal : Turns plan channel listing s turns (at log held rest)
  pub log_is : log ≡ s.log ++ keeps_of (kept_in turns)
  pub asks : Asks told store goes_on faults chosen dial dial' (made_in turns)
  pub up : AreUpstream plan.place listing (store dial) (store dial') turns
  pub adds : Adds site disk disk' old new s.log (kept_in turns) []
  pub waiting : AreOpen log held

-- the last exchanges, and what was to be kept, as a turn that came to nothing
abbrev pub tried_turn : Whose → List Exchange → List Came → List Turn
tried_turn who made [] = []
tried_turn who made (c ∷ cs) = asked who made c ∷ []

-- nothing was asked since, and memory was wanted; or an address was asked for whose turn it was
abbrev pub EndsTurns : PullPlan → List Track → Listing → Standing → Archive → List Exchange → List Turn → FollowEnd → Type 0
EndsTurns plan channel listing s new last tried end =
    ((end ≡ ends.NoMemory) × (last ≡ []) × (tried ≡ []))
    ⊎ ((who : Whose) × (cs : List Came) × IsTurnOf s who × (tried ≡ tried_turn who last cs)
    × StopsAt plan channel (url_of listing (address_for who)) (address_for who) new s.log last cs end)

-- Turns were taken from here on, and then the call ended.
pub record Ends {D C : Type 0} (site : Seen D) (told : C → Option (List Exchange)) (store : C → List Entry → Type 0)
    (goes_on : C → C → Type 0) (faults : C → ℕ) (chosen : C → Option Peer) (disk disk' : D) (dial dial' : C) (plan : PullPlan) (channel : List Track)
    (listing : Listing) (old new : Archive) (s : Standing) (end : FollowEnd) : Type 0 where
  pub to : Standing
  pub turns : List Turn
  pub last : List Exchange
  pub tried : List Turn
  pub legal : Turns plan channel listing s turns to
  pub log_is : to.log ≡ s.log ++ keeps_of (kept_in turns)
  pub stops : EndsTurns plan channel listing to new last tried end
  pub asks : Asks told store goes_on faults chosen dial dial' (made_in turns ++ last)
  pub up : AreUpstream plan.place listing (store dial) (store dial') (turns ++ tried)
  pub adds : Adds site disk disk' old new s.log (kept_in turns) (kept_in tried)
  pub fault : end ≡ ends.DiskFault → Rose (site.view disk).disk_faults (site.view disk').disk_faults
