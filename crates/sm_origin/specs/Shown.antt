-- What a part of a reply shows to its request, and which logs hold it.
use Rattle.std.specs.Prelude.{◌≡◌, ℕ, List, Some, IsSome, All, slice_get}
use Rattle.std.specs.List.{AllByRecursion}
use Rattle.sm_model.specs.declared.address.Address.{Address}
use Rattle.sm_model.specs.declared.entry.Entry.{Entry}
use Rattle.sm_model.specs.declared.entry.Entry.TheVariants.{Declare, Keep}
use Rattle.sm_model.specs.declared.fragment.Fragment.{Fragment}
use Rattle.sm_model.specs.declared.sample.Sample.{Sample}
use Rattle.sm_model.specs.declared.target.Target.{Target}
use Rattle.sm_model.specs.declared.target.Target.TheVariants as targets
use Rattle.sm_model.specs.Entries.{address_of}
use Rattle.sm_model.specs.Fragments.{IsNarrow}
use Rattle.sm_log.specs.Times.{entry_at}
use Rattle.sm_log.specs.Logs.{kept_at, listed_in, IsSound}
use Rattle.sm_head.specs.Shown.{body_of}
use Rattle.sm_moof.specs.Shown.{NamesIn, ServesIn}
use Rattle.sm_manout.specs.Shown.{ListsIn, IsWritable}

-- ---- logs of real entries

-- the numbers of the entry fit their fields, as those of real values do
abbrev pub FitsFields : Entry → Type 0
FitsFields (Declare channel) = All IsWritable channel
FitsFields (Keep f) = All IsNarrow f.samples

-- a sound log of such entries, as every log is that a store has
pub record IsReal (log : List Entry) : Type 0 where
  pub sound : IsSound log
  pub each : AllByRecursion FitsFields log

-- ---- what may be shown

pub data Claim : Type 0 where
  -- a manifest lists that a fragment is there
  Listed : Address → Claim
  -- a fragment names a later start of its stream
  Ahead : List ℕ → ℕ → Claim
  -- a fragment was given whole, with these samples and this duration
  Served : Address → List Sample → ℕ → Claim
  -- a fragment of a push that was told to be well
  Acknowledged : Address → Claim

-- a fragment with these samples and this duration is kept at that address
pub record KeptAs (log : List Entry) (a : Address) (samples : List Sample) (duration : ℕ) : Type 0 where
  pub place : ℕ
  pub fragment : Fragment
  pub kept : kept_at log a ≡ Some (place, fragment)
  pub samples_are : fragment.samples ≡ samples
  pub duration_is : fragment.duration ≡ duration

-- what was listed or acknowledged is kept, what was named ahead is listed, what was served is kept so
abbrev pub Holds : List Entry → Claim → Type 0
Holds log (Listed a) = IsSome (kept_at log a)
Holds log (Ahead stream time) = IsSome (entry_at time (listed_in log stream))
Holds log (Served a samples duration) = KeptAs log a samples duration
Holds log (Acknowledged a) = IsSome (kept_at log a)

-- ---- what shows it

-- what one reply answers: a target that was asked for, or a push that gave these fragments
pub data Request : Type 0 where
  Asked : Target → Request
  Pushed : List Fragment → Request

-- what the part of a reply that went out shows to its request, where the reply says that all is well
pub data Shows (request : Request) (part : List ℕ) (claim : Claim) : Type 0 where
  lists : (a : Address) → request ≡ Asked targets.Manifest → ListsIn (body_of part) a → claim ≡ Listed a → Shows request part claim
  names : (a : Address) (time : ℕ) → request ≡ Asked (targets.Fragment a) → NamesIn (body_of part) time → claim ≡ Ahead a.stream time
      → Shows request part claim
  serves : (a : Address) (samples : List Sample) (duration : ℕ) → request ≡ Asked (targets.Fragment a) → ServesIn (body_of part) samples duration
      → claim ≡ Served a samples duration → Shows request part claim
  acknowledges : (fs : List Fragment) (place : ℕ) (f : Fragment) → request ≡ Pushed fs → slice_get fs place ≡ Some f → claim ≡ Acknowledged (address_of f)
      → Shows request part claim
