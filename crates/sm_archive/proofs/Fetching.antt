-- What stands at a place of a log, and of its bodies.
use Rattle.std.proofs.Common.{◌≡◌, ℕ, zero, suc, ◌+◌, ◌<◌, Bool, true, false, cond, ◌&&◌, eqb, List, [], ◌∷◌, ◌++◌, Option, None, Some, refl, sym, ap, subst, ◌∙◌, arith}
use Rattle.std.specs.Prelude.{IsSome, IfSome, Result, Ok, Err, IfOk, OnErr}
use Rattle.sm_record.specs.declared.fault.RecordFault.{RecordFault}
use Rattle.sm_record.specs.declared.fault.RecordFault.TheVariants as faults
use Rattle.std.specs.List.{AllZip, slice_get}
use Rattle.std.specs.Cmp.Lexicographic.{same_text}
use Rattle.std.proofs.lemmas.Bool.{eqb-true}
use Rattle.std.proofs.lemmas.Option.{slice_get_within}
use Rattle.sm_model.specs.declared.track.Track.{Track}
use Rattle.sm_model.specs.declared.fragment.Fragment.{Fragment}
use Rattle.sm_model.specs.declared.address.Address.{Address}
use Rattle.sm_model.specs.declared.entry.Entry.{Entry}
use Rattle.sm_model.specs.declared.entry.Entry.TheVariants.{Declare, Keep}
use Rattle.sm_model.specs.Entries.{address_of}
use Rattle.sm_log.specs.Adds.{Add, place_of}
use Rattle.sm_model.specs.Same.{is_same}
use Rattle.sm_log.specs.Logs.{adds_from, adds_of, channel_of, IsSound}
use Rattle.sm_model.specs.Fragments.{IsValid}
use Rattle.sm_record.specs.Bodies.{IsBody}
use Rattle.sm_record.specs.Reads.{Reads, Knows}
use Rattle.sm_site.specs.Image.{Image}
use Rattle.sm_seglog.specs.Standing as seg
use Rattle.sm_archive.specs.declared.index.Index.{Index}
use Rattle.sm_archive.specs.declared.archive.Archive.{Archive}
use Rattle.sm_archive.specs.Stands.{IndexIs, IsIndex, Stands}
use Rattle.sm_archive.specs.declared.fetch.Fetched.TheVariants as fetched
use Rattle.sm_archive.proofs.Appending.{log_len}
use Rattle.sm_seglog.specs.Segments.{count_of}

only : {A : Type 0} (x y : A) → (let found : A → Option A = λ z. Some z in found x ≡ found y) → x ≡ y
only x y e = cc

pub all_zip_get : {A B : Type 0} (R : A → B → Type 0) (xs : List A) (ys : List B) (k : ℕ) (x : A) (y : B) → AllZip R xs ys → slice_get xs k ≡ Some x → slice_get ys k ≡ Some y → R x y
all_zip_get R [] ys k x y all ex ey = absurd cc
all_zip_get R (a ∷ xs) [] k x y all ex ey = absurd all
all_zip_get {A} {B} R (a ∷ xs) (b ∷ ys) zero x y all ex ey = subst (λ (p : A). R p y) (only a x ex) (subst (λ (q : B). R a q) (only b y ey) all.0)
all_zip_get R (a ∷ xs) (b ∷ ys) (suc k) x y all ex ey = all_zip_get R xs ys k x y all.1 ex ey

both_true : (a b : Bool) → (a && b) ≡ true → (a ≡ true) × (b ≡ true)
both_true true true e = (refl, refl)
both_true true false e = absurd cc
both_true false b e = absurd cc

address_is : (x a : Address) → (is_same x.stream a.stream && (eqb x.bitrate a.bitrate && eqb x.time a.time)) ≡ true → x ≡ a
address_is x a e =
    let p = both_true (is_same x.stream a.stream) (eqb x.bitrate a.bitrate && eqb x.time a.time) e in
    let q = both_true (eqb x.bitrate a.bitrate) (eqb x.time a.time) p.1 in
    let s : x.stream ≡ a.stream = same_text x.stream a.stream (sym p.0) in
    let b : x.bitrate ≡ a.bitrate = eqb-true x.bitrate a.bitrate q.0 in
    let t : x.time ≡ a.time = eqb-true x.time a.time q.1 in
    ap (λ (v : List ℕ). let r : Address = record { stream = v; bitrate = x.bitrate; time = x.time } in r) s
    ∙ ap (λ (v : ℕ). let r : Address = record { stream = a.stream; bitrate = v; time = x.time } in r) b
    ∙ ap (λ (v : ℕ). let r : Address = record { stream = a.stream; bitrate = a.bitrate; time = v } in r) t

-- the fragment at a place
pub record IsThere (log : List Entry) (a : Address) (k : ℕ) : Type 0 where
  pub fragment : Fragment
  pub there : slice_get log k ≡ Some (Keep fragment)
  pub address : address_of fragment ≡ a

-- at the place that was found behind the first entries
pub record IsBehind (first : ℕ) (log : List Entry) (a : Address) (place : ℕ) : Type 0 where
  pub k : ℕ
  pub place_is : place ≡ first + k
  pub is : IsThere log a k

later : (first : ℕ) (e : Entry) (log : List Entry) (a : Address) (place : ℕ) → IsBehind (suc first) log a place → IsBehind first (e ∷ log) a place
later first e log a place h = record { k = suc h.k; place_is = omega (arith, h.place_is); is = record { fragment = h.is.fragment; there = h.is.there; address = h.is.address } }

choose : (b : Bool) (first : ℕ) (f : Fragment) (log : List Entry) (a : Address) (place : ℕ) → (is_same f.stream a.stream && (eqb f.bitrate a.bitrate && eqb f.time a.time)) ≡ b
    → cond b (Some first) (place_of a (adds_from (suc first) log)) ≡ Some place
    → (place_of a (adds_from (suc first) log) ≡ Some place → IsBehind (suc first) log a place) → IsBehind first (Keep f ∷ log) a place
choose true first f log a place e found go = record { k = 0; place_is = sym (only first place found) ∙ (let r : first ≡ first + 0 = omega arith in r); is = record { fragment = f; there = refl; address = address_is (address_of f) a e } }
choose false first f log a place e found go = later first (Keep f) log a place (go found)

pub place_there : (first : ℕ) (log : List Entry) (a : Address) (place : ℕ) → place_of a (adds_from first log) ≡ Some place → IsBehind first log a place
place_there first [] a place e = absurd cc
place_there first (Declare tracks ∷ log) a place e = later first (Declare tracks) log a place (place_there (suc first) log a place e)
place_there first (Keep f ∷ log) a place e = choose (is_same f.stream a.stream && (eqb f.bitrate a.bitrate && eqb f.time a.time)) first f log a place refl e (place_there (suc first) log a place)

-- ---- of an archive

pub at_place : (a : Archive) (i : Index) (log : List Entry) (doubt : Option Entry) (outcomes : Image → Type 0) (address : Address) (place : ℕ) → Stands a log doubt outcomes → a.index ≡ Some i
    → place_of address i.catalog.adds ≡ Some place → IsThere log address place
at_place a i log doubt outcomes address place s is found =
    let x : IsIndex i log = subst (λ (o : Option Index). IndexIs o log) is s.keeps.index in
    let b = place_there 1 x.rest address place (ap (λ (l : List Add). place_of address l) (sym x.adds) ∙ found) in
    let here : IsThere (Declare i.catalog.channel ∷ x.rest) address (suc b.k) = record { fragment = b.is.fragment; there = b.is.there; address = b.is.address } in
    let p : suc b.k ≡ place = omega (arith, b.place_is) in
    subst (λ (l : List Entry). IsThere l address place) (sym x.log_is) (subst (λ (q : ℕ). IsThere (Declare i.catalog.channel ∷ x.rest) address q) p here)

pub place_low : (a : Archive) (i : Index) (log : List Entry) (doubt : Option Entry) (outcomes : Image → Type 0) (address : Address) (place : ℕ) → Stands a log doubt outcomes → a.index ≡ Some i
    → place_of address i.catalog.adds ≡ Some place → place < (count_of a.log)
place_low a i log doubt outcomes address place s is found =
    let t = at_place a i log doubt outcomes address place s is found in
    omega (arith, slice_get_within log place (Keep t.fragment) t.there, log_len a log doubt outcomes s)

pub place_in_log : (a : Archive) (i : Index) (log : List Entry) (doubt : Option Entry) (outcomes : Image → Type 0) (address : Address) (o : Option ℕ) → Stands a log doubt outcomes → a.index ≡ Some i
    → o ≡ place_of address i.catalog.adds → place_of address (adds_of log) ≡ o
place_in_log a i log doubt outcomes address o s is found =
    let x : IsIndex i log = subst (λ (o : Option Index). IndexIs o log) is s.keeps.index in
    ap (λ (l : List Entry). place_of address (adds_of l)) x.log_is ∙ ap (λ (l : List Add). place_of address l) (sym x.adds) ∙ sym found

pub no_place : (a : Archive) (log : List Entry) (doubt : Option Entry) (outcomes : Image → Type 0) (address : Address) → Stands a log doubt outcomes → a.index ≡ None → place_of address (adds_of log) ≡ None
no_place a log doubt outcomes address s is = let e : log ≡ [] = subst (λ (o : Option Index). IndexIs o log) is s.keeps.index in ap (λ (l : List Entry). place_of address (adds_of l)) e

pub told : {X : Type 0} (o : Option X) (P : Type 0) → IsSome o → IfSome o (λ x. P) → P
told (Some x) P is h = h
told None P is h = absurd cc

-- what was read on a disk that tells its contents is the body of the fragment at the place
pub body_there : {X : Type 0} (contents : Option X) (a : Archive) (i : Index) (log : List Entry) (doubt : Option Entry) (outcomes : Image → Type 0) (address : Address) (place : ℕ) (body : List ℕ) → (s : Stands a log doubt outcomes)
    → a.index ≡ Some i → place_of address i.catalog.adds ≡ Some place → IsSome contents
    → ((bodies : List (List ℕ)) (own : Option (List ℕ)) → seg.Stands a.log bodies own outcomes → IfSome contents (λ x. slice_get bodies place ≡ Some body))
    → (f : Fragment) × (slice_get log place ≡ Some (Keep f)) × (address_of f ≡ address) × IsBody (Some i.catalog.channel) (Keep f) body
body_there contents a i log doubt outcomes address place body s is found some read =
    let t = at_place a i log doubt outcomes address place s is found in
    let x : IsIndex i log = subst (λ (o : Option Index). IndexIs o log) is s.keeps.index in
    let own : slice_get s.bodies place ≡ Some body = told contents (slice_get s.bodies place ≡ Some body) some (read s.bodies s.body s.stands) in
    let is_body : IsBody (channel_of log) (Keep t.fragment) body = all_zip_get (IsBody (channel_of log)) log s.bodies place (Keep t.fragment) body s.keeps.spell t.there own in
    let channel : channel_of log ≡ Some i.catalog.channel = ap (λ (l : List Entry). channel_of l) x.log_is in
    (t.fragment, t.there, t.address, subst (λ (c : Option (List Track)). IsBody c (Keep t.fragment) body) channel is_body)

-- what stands at a place stands behind those before it
split_at : (xs : List Entry) (k : ℕ) (e : Entry) → slice_get xs k ≡ Some e → (front : List Entry) × (back : List Entry) × (xs ≡ front ++ e ∷ back)
split_at [] k e there = absurd cc
split_at (x ∷ xs) zero e there = ([], xs, ap (λ (y : Entry). y ∷ xs) (only x e there))
split_at (x ∷ xs) (suc k) e there = let s = split_at xs k e there in (x ∷ s.0, s.1, ap (λ (l : List Entry). x ∷ l) s.2)

pub valid_there : (log : List Entry) (k : ℕ) (f : Fragment) → IsSound log → slice_get log k ≡ Some (Keep f) → IsValid f
valid_there log k f sound there = let s = split_at log k (Keep f) there in (sound.each s.0 s.1 (Keep f) s.2).0

pub keep_is : (f g : Fragment) → Keep f ≡ Keep g → f ≡ g
keep_is f g e = cc

pub not_declare : (ts : List Track) (f : Fragment) → Declare ts ≡ Keep f → ⊥
not_declare ts f e = cc

-- what reading answers of a body, where it knows which entry it is
pub known_by : (channel : Option (List Track)) (body : List ℕ) (r : Result Entry RecordFault) → ((x y : Entry) (b : List ℕ) → IsBody channel x b → IsBody channel y b → x ≡ y)
    → Reads (λ x. IsBody channel x body) r → (entry : Entry) → IsBody channel entry body → Knows entry r
known_by channel body (Ok e) one h entry is = one e entry body h is
known_by channel body (Err faults.Damaged) one h entry is = h entry is
known_by channel body (Err faults.NoMemory) one h entry is = tt

-- the fragment that was found is the one whose body it is
pub kept_ok : (channel : Option (List Track)) (body : List ℕ) (a : Address) (entry : Entry) (r : Result Fragment RecordFault) → ((e : Entry) → IsBody channel e body → entry ≡ e)
    → IfOk r (λ f. (entry ≡ Keep f) × (address_of f ≡ a) × IsValid f)
    → IfOk r (λ f. (address_of f ≡ a) × IsValid f × ((g : Fragment) → IsBody channel (Keep g) body → g ≡ f))
kept_ok channel body a entry (Ok f) is h = (h.1, h.2, λ g own. keep_is g f (sym (is (Keep g) own) ∙ h.0))
kept_ok channel body a entry (Err e) is h = tt

pub kept_damaged : (channel : Option (List Track)) (body : List ℕ) (a : Address) (entry : Entry) (r : Result Fragment RecordFault) → ((e : Entry) → IsBody channel e body → entry ≡ e)
    → OnErr r ((f : Fragment) → entry ≡ Keep f → address_of f ≡ a → IsValid f → ⊥)
    → r ≡ Err faults.Damaged → (f : Fragment) → IsBody channel (Keep f) body → address_of f ≡ a → IsValid f → ⊥
kept_damaged channel body a entry (Ok g) is h e f own address valid = absurd cc
kept_damaged channel body a entry (Err x) is h e f own address valid = h f (is (Keep f) own) address valid

abbrev failing : RecordFault → Result Fragment RecordFault
failing e = Err e

pub failed_as : (fault : RecordFault) → fault ≡ faults.Damaged → failing fault ≡ failing faults.Damaged
failed_as fault e = ap failing e

pub found_is : (p q : ℕ) (f g : Fragment) → fetched.Found p f ≡ fetched.Found q g → (p ≡ q) × (f ≡ g)
found_is p q f g e = (cc, cc)

-- where it is known which entry a body is, reading it isn't told as damage
pub unknown : (entry : Entry) (fault : RecordFault) → failing fault ≡ failing faults.Damaged → Knows entry (Err fault) → ⊥
unknown entry faults.Damaged e knows = knows
unknown entry faults.NoMemory e knows = absurd cc
