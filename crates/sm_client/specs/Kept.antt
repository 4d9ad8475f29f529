-- What a play writes is kept by the origin, at the address that was asked.
use Rattle.std.specs.Prelude.{◌≡◌, ℕ, List, ◌++◌, Some}
use Rattle.std.specs.List.{AllByRecursion}
use Rattle.sm_model.specs.declared.address.Address.{Address}
use Rattle.sm_model.specs.declared.entry.Entry.{Entry}
use Rattle.sm_log.specs.Logs.{kept_at}
use Rattle.sm_model.specs.declared.fragment.Fragment.{Fragment}
use Rattle.sm_model.specs.declared.target.Target.TheVariants as target
use Rattle.sm_model.specs.Entries.{address_of}
use Rattle.sm_addr.specs.Targets.{target_of}
use Rattle.sm_fetch.specs.Origins.{MayBeAsked}
use Rattle.sm_fetch.specs.Requests.{fragment_target}
use Rattle.sm_client.specs.declared.plan.Plan.{Plan}
use Rattle.sm_client.specs.Stands.{Piece}

-- the target that was asked for, by the Url of the manifest
abbrev pub asked_by : Plan → Piece → List ℕ
asked_by plan p = fragment_target plan.place p.url (address_of p.fragment)

-- a fragment of this address, with the time, the duration and the samples of that one
abbrev pub with_address : Address → Fragment → Fragment
with_address a f = record { stream = a.stream; bitrate = a.bitrate; time = f.time; duration = f.duration; signed = f.signed; samples = f.samples }

-- the log keeps it at the address that was asked, at some place
abbrev pub IsKept : Plan → List Entry → Piece → Type 0
IsKept plan log p =
    MayBeAsked plan.place.host plan.place.port (asked_by plan p) → (a : Address) → target_of (asked_by plan p) ≡ target.Fragment a
    → (at : ℕ) × (kept_at log a ≡ Some (at, with_address a p.fragment))

abbrev pub AreKept : Plan → List Entry → List Piece → Type 0
AreKept plan log ps = AllByRecursion (IsKept plan log) ps

-- for each log that is told before, one is told now that goes on from it and keeps these
pub record KeepsOn (plan : Plan) (old now : List Entry → Type 0) (ps : List Piece) : Type 0 where
  pub on : (log : List Entry) → old log → (more : List Entry) × now (log ++ more) × AreKept plan (log ++ more) ps
