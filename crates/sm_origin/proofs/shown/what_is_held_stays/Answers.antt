use Rattle.std.proofs.Common.{◌≡◌, ℕ, List, ◌++◌, Option, Some, None, IsSome, is_some, refl, ap}
use Rattle.sm_model.specs.declared.address.Address.{Address}
use Rattle.sm_model.specs.declared.entry.Entry.{Entry}
use Rattle.sm_model.specs.declared.fragment.Fragment.{Fragment}
use Rattle.sm_log.specs.Times.{entry_at}
use Rattle.sm_log.specs.Logs.{kept_at, listed_in}
use Rattle.sm_origin.specs.Shown.{Claim, Listed, Ahead, Served, Acknowledged, Holds}
use Rattle.sm_origin.proofs.shown.what_is_held_stays.Goals as goal

some_of : {A : Type 0} (o : Option A) → IsSome o → (x : A) × (o ≡ Some x)
some_of None some = absurd (cc)
some_of (Some x) some = (x, refl)

module _ (times : (log more : List Entry) (stream : List ℕ) (start duration : ℕ) → entry_at start (listed_in log stream) ≡ Some duration → entry_at start (listed_in (log ++ more) stream) ≡ Some duration)
    (kept : (log more : List Entry) (address : Address) (place : ℕ) (f : Fragment) → kept_at log address ≡ Some (place, f) → kept_at (log ++ more) address ≡ Some (place, f)) where
  stays_kept : (log more : List Entry) (a : Address) → IsSome (kept_at log a) → IsSome (kept_at (log ++ more) a)
  stays_kept log more a some = let x = some_of (kept_at log a) some in ap is_some (kept log more a x.0.0 x.0.1 x.1)

  stays_held : (log more : List Entry) (claim : Claim) → Holds log claim → Holds (log ++ more) claim
  stays_held log more (Listed a) holds = stays_kept log more a holds
  stays_held log more (Ahead stream time) holds = let x = some_of (entry_at time (listed_in log stream)) holds in ap is_some (times log more stream time x.0 x.1)
  stays_held log more (Served a samples duration) holds = record {
    place = holds.place;
    fragment = holds.fragment;
    kept = kept log more a holds.place holds.fragment holds.kept;
    samples_are = holds.samples_are;
    duration_is = holds.duration_is;
  }
  stays_held log more (Acknowledged a) holds = stays_kept log more a holds

pub returns : goal.returns
returns c log more claim holds = stays_held c.listed_times_stay.ensures.listed c.listed_times_stay.ensures.kept log more claim holds
