-- A log whose Keeps another one keeps.
use Rattle.std.proofs.Common.{◌≡◌, zero, suc, List, [], ◌∷◌, ◌++◌, subst, arith, ⊎_elim}
use Rattle.std.specs.Prelude.{Contains}
use Rattle.std.specs.List.{AllByRecursion}
use Rattle.std.proofs.lemmas.List.Elements.{Contains-append_cases}
use Rattle.sm_model.specs.declared.entry.Entry.{Entry}
use Rattle.sm_model.specs.declared.entry.Entry.TheVariants.{Keep}
use Rattle.sm_model.specs.declared.fragment.Fragment.{Fragment}
use Rattle.sm_model.specs.Entries.{address_of}
use Rattle.sm_log.proofs.AllLogs.{kept_stays}
use Rattle.sm_pull.specs.Adds.{keeps_of, IsFrontOf}
use Rattle.sm_pull.specs.Below.{IsKeptIn, Below}

pub front_all : {A : Type 0} (P : A → Type 0) (xs ys : List A) → AllByRecursion P (xs ++ ys) → AllByRecursion P xs
front_all P [] ys all = tt
front_all P (x ∷ xs) ys all = (all.0, front_all P xs ys all.1)

keeps_same : (f g : Fragment) → Keep f ≡ Keep g → f ≡ g
keeps_same f g e = cc

in_added : (up : List Entry) (fs : List Fragment) → AllByRecursion (IsKeptIn up) fs → (f : Fragment) → Contains (keeps_of fs) (Keep f) → IsKeptIn up f
in_added up [] all f (k, lt, e) = absurd (omega (arith, lt))
in_added up (g ∷ fs) all f (zero, lt, e) = subst (IsKeptIn up) (keeps_same g f e) all.0
in_added up (g ∷ fs) all f (suc k, lt, e) = in_added up fs all.1 f (k, omega (arith, lt), e)

pub below_front : (log up after : List Entry) (added : List Fragment) → AllByRecursion (IsKeptIn up) added → Below log up → IsFrontOf log added after → Below after up
below_front log up after added all below front f there =
    ⊎_elim (below f)
    (in_added up front.front (front_all (IsKeptIn up) front.front front.back (subst (AllByRecursion (IsKeptIn up)) front.whole all)) f)
    (Contains-append_cases log (keeps_of front.front) (Keep f) (subst (λ (l : List Entry). Contains l (Keep f)) front.after_is there))

pub kept_on : (up more : List Entry) (f : Fragment) → IsKeptIn up f → IsKeptIn (up ++ more) f
kept_on up more f k = record {
  place = k.place;
  there = k.there;
  kept = kept_stays (address_of f) 0 up more (k.place, k.there) k.kept;
  duration = k.duration;
  signed = k.signed;
  samples = k.samples;
}

pub below_grows : (log up more : List Entry) → Below log up → Below log (up ++ more)
below_grows log up more below f there = kept_on up more f (below f there)
