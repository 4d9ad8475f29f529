-- What is asked for and kept of what is wanted, one after another.
use Rattle.std.specs.Prelude.{◌≡◌, ◌⊎◌, ℕ, List, [], ◌∷◌, ◌++◌, Option, None, IsSome}
use Rattle.sm_model.specs.declared.address.Address.{Address}
use Rattle.sm_model.specs.declared.entry.Entry.{Entry}
use Rattle.sm_model.specs.declared.fragment.Fragment.{Fragment}
use Rattle.sm_model.specs.declared.run.RawFragment.{RawFragment}
use Rattle.sm_log.specs.declared.verdict.Judged.TheVariants.{New}
use Rattle.sm_log.specs.Logs.{kept_at, verdict_on}
use Rattle.sm_site.specs.Meanings.{Seen}
use Rattle.sm_archive.specs.declared.archive.Archive.{Archive}
use Rattle.sm_fetch.specs.declared.dial.Exchange.{Exchange}
use Rattle.sm_fetch.specs.declared.got.Got.TheVariants as got
use Rattle.sm_fetch.specs.Exchanges.{Peer}
use Rattle.sm_fetch.specs.Spelt.{given}
use Rattle.sm_client.specs.declared.report.Miss.{Miss}
use Rattle.sm_client.specs.Stands.{miss_of}
use Rattle.sm_pull.specs.declared.plan.PullPlan.{PullPlan}
use Rattle.sm_pull.specs.declared.stop.Stop.{Stop}
use Rattle.sm_pull.specs.declared.stop.Stop.TheVariants as stop
use Rattle.sm_pull.specs.Asks.{Asks, AsksFragment, Gives, GivesNone, Tries}
use Rattle.sm_pull.specs.Adds.{keeps_of, Adds, NotKept}
use Rattle.sm_relay.specs.Wants.{Want}

-- ---- one address

-- nothing was kept there, it was asked for, and the last of these exchanges gave this fragment
pub record Reads (plan : PullPlan) (log : List Entry) (w : Want) (made : List Exchange) (f : Fragment) : Type 0 where
  pub absent : kept_at log w.address ≡ None
  pub raw : RawFragment
  pub gave : Gives (AsksFragment plan.place w.url w.address) miss_of plan.tries made (got.Fragment raw)
  pub is : f ≡ given w.address.stream w.address.bitrate raw

-- a fragment is kept there already, and nothing was done
pub record Skips (log : List Entry) (w : Want) (made : List Exchange) (added : List Fragment) : Type 0 where
  pub kept : IsSome (kept_at log w.address)
  pub made_is : made ≡ []
  pub added_is : added ≡ []

-- what was read was new, and was kept
pub record Takes (plan : PullPlan) (log : List Entry) (w : Want) (made : List Exchange) (added : List Fragment) : Type 0 where
  pub fragment : Fragment
  pub reads : Reads plan log w made fragment
  pub is_new : verdict_on log fragment ≡ New
  pub added_is : added ≡ fragment ∷ []

abbrev pub IsStep : PullPlan → List Entry → Want → List Exchange → List Fragment → Type 0
IsStep plan log w made added = Skips log w made added ⊎ Takes plan log w made added

-- what was read wasn't kept
pub record Fails (plan : PullPlan) (new : Archive) (log : List Entry) (w : Want) (made : List Exchange) (tried : List Fragment) (why : Stop) : Type 0 where
  pub fragment : Fragment
  pub reads : Reads plan log w made fragment
  pub tried_is : tried ≡ fragment ∷ []
  pub not_kept : NotKept new log fragment w.address why

-- nothing is kept there, and as many tries as are to be made missed it
pub record GivesUp (plan : PullPlan) (log : List Entry) (w : Want) (made : List Exchange) (tried : List Fragment) (address : Address)
    (outcomes : List Miss) : Type 0 where
  pub absent : kept_at log w.address ≡ None
  pub address_is : address ≡ w.address
  pub missed : GivesNone (AsksFragment plan.place w.url w.address) miss_of plan.tries made outcomes
  pub tried_is : tried ≡ []

-- memory was wanting before it was read, or behind that; nothing that is kept was asked for
pub record RunsOut (plan : PullPlan) (log : List Entry) (w : Want) (made : List Exchange) (tried : List Fragment) : Type 0 where
  pub absent : (made ≡ []) ⊎ (kept_at log w.address ≡ None)
  pub tries : Tries (AsksFragment plan.place w.url w.address) plan.tries made
  pub tried_is : tried ≡ []

-- why it ends at this address
abbrev pub StopsAt : PullPlan → Archive → List Entry → Want → List Exchange → List Fragment → Stop → Type 0
StopsAt plan new log w made tried (stop.GaveUp address outcomes) = GivesUp plan log w made tried address outcomes
StopsAt plan new log w made tried (stop.Refused address cause) = Fails plan new log w made tried (stop.Refused address cause)
StopsAt plan new log w made tried stop.Full = Fails plan new log w made tried stop.Full
StopsAt plan new log w made tried stop.DiskFault = Fails plan new log w made tried stop.DiskFault
StopsAt plan new log w made tried stop.NoMemory = RunsOut plan log w made tried ⊎ Fails plan new log w made tried stop.NoMemory
StopsAt plan new log w made tried (stop.NoManifest outcomes) = ⊥
StopsAt plan new log w made tried (stop.NoTrack index) = ⊥

-- ---- addresses

-- each of these is kept, or is asked for and then kept, in order
abbrev pub Walks : PullPlan → List Entry → List Want → List Exchange → List Fragment → Type 0
Walks plan log [] made added = (made ≡ []) × (added ≡ [])
Walks plan log (w ∷ ws) made added =
    (one more : List Exchange) × (kept rest : List Fragment) × IsStep plan log w one kept × Walks plan (log ++ keeps_of kept) ws more rest
    × (made ≡ one ++ more) × (added ≡ kept ++ rest)

-- at one of them it ends
pub record Breaks (plan : PullPlan) (new : Archive) (log : List Entry) (wants : List Want) (made : List Exchange) (added tried : List Fragment)
    (why : Stop) : Type 0 where
  pub front : List Want
  pub want : Want
  pub back : List Want
  pub wants_are : wants ≡ front ++ want ∷ back
  pub walked : List Exchange
  pub walks : Walks plan log front walked added
  pub last : List Exchange
  pub stops : StopsAt plan new (log ++ keeps_of added) want last tried why
  pub made_is : made ≡ walked ++ last

-- ---- calls

-- all of these were gone through
pub record Pulls {D C : Type 0} (site : Seen D) (told : C → Option (List Exchange)) (store : C → List Entry → Type 0)
    (later : C → C → Type 0) (faults : C → ℕ) (chosen : C → Option Peer) (plan : PullPlan) (disk disk' : D) (dial dial' : C)
    (old new : Archive) (log : List Entry) (wants : List Want) : Type 0 where
  pub made : List Exchange
  pub added : List Fragment
  pub asks : Asks told store later faults chosen dial dial' made
  pub adds : Adds site disk disk' old new log added []
  pub walks : Walks plan log wants made added

-- and at one of them it ended
pub record PullStops {D C : Type 0} (site : Seen D) (told : C → Option (List Exchange)) (store : C → List Entry → Type 0)
    (later : C → C → Type 0) (faults : C → ℕ) (chosen : C → Option Peer) (plan : PullPlan) (disk disk' : D) (dial dial' : C)
    (old new : Archive) (log : List Entry) (wants : List Want) (why : Stop) : Type 0 where
  pub made : List Exchange
  pub added : List Fragment
  pub tried : List Fragment
  pub asks : Asks told store later faults chosen dial dial' made
  pub adds : Adds site disk disk' old new log added tried
  pub breaks : Breaks plan new log wants made added tried why
