-- The catalog of a sound log, and its last fragments.
use Rattle.std.proofs.Common.{◌≡◌, ◌≤◌, ◌<◌, ◌+◌, ◌^◌, ◌⊎◌, inl, inr, ℕ, zero, suc, Option, Some, List, [], ◌∷◌, ◌++◌, length, map, refl, sym, ap, subst, ◌∙◌, arith}
use Rattle.std.proofs.lemmas.List.{length-append, length-map, map-append}
use Rattle.std.specs.List.{slice_get}
use Rattle.std.specs.Option.{option_map}
use Rattle.sm_model.specs.declared.address.Address.{Address}
use Rattle.sm_model.specs.declared.entry.Entry.{Entry}
use Rattle.sm_model.specs.declared.entry.Entry.TheVariants.{Declare, Keep}
use Rattle.sm_model.specs.declared.fragment.Fragment.{Fragment}
use Rattle.sm_model.specs.declared.track.Track.{Track}
use Rattle.sm_model.specs.Entries.{address_of}
use Rattle.sm_log.specs.Adds.{Add, place_of}
use Rattle.sm_log.specs.Logs.{channel_of, adds_of, IsSound}
use Rattle.sm_log.specs.Digests.{digest_of, keeps_of, bytes_of, window_of}
use Rattle.sm_log.proofs.AllLogs.{kept_place}
use Rattle.sm_catalog.specs.Content.{Content}
use Rattle.sm_shelf.specs.Parts.{placed, stripped, addresses_in, IsListing, IsEnd}
use Rattle.sm_shelf.specs.Laying.{filling}
use Rattle.sm_shelf.proofs.Fronts.{AreKeeps, keeps_long, shape_of, told, digest_is}
use Rattle.sm_shelf.proofs.Windows.{window_over}
use Rattle.sm_shelf.proofs.Places.{placed_at, end_of}
use Rattle.sm_shelf.proofs.Answered.{adds_are, get_entry, kept_here}

stripped_placed : (p : ℕ) (xs : List (Address × ℕ)) → map stripped (placed p xs) ≡ xs
stripped_placed p [] = refl
stripped_placed p (x ∷ xs) = ap (λ (l : List (Address × ℕ)). x ∷ l) (stripped_placed (suc p) xs)

addresses_placed : (p : ℕ) (fs : List Fragment) → addresses_in (placed p (map told fs)) ≡ map address_of fs
addresses_placed p [] = refl
addresses_placed p (f ∷ fs) = ap (λ (l : List Address). address_of f ∷ l) (addresses_placed (suc p) fs)

-- what was added of a log, by its fragments
told_of : (log : List Entry) → IsSound log → map stripped (adds_of log) ≡ map told (keeps_of log)
told_of log sound = ap (map stripped) (sym (adds_are log sound)) ∙ stripped_placed 1 (map told (keeps_of log))

addresses_of : (log : List Entry) → IsSound log → addresses_in (adds_of log) ≡ map address_of (keeps_of log)
addresses_of log sound = ap addresses_in (sym (adds_are log sound)) ∙ addresses_placed 1 (keeps_of log)

pub adds_long : (log : List Entry) → IsSound log → length (adds_of log) ≡ length (keeps_of log)
adds_long log sound =
    let named = ap length (addresses_of log sound) in
    let a = length-map (adds_of log) (λ (x : Add). x.address) in
    let b = length-map (keeps_of log) address_of in
    omega (arith, named, a, b)

get_told : (p : ℕ) (fs : List Fragment) (i : ℕ) (a : Add) → slice_get (placed p (map told fs)) i ≡ Some a → (f : Fragment) × (slice_get fs i ≡ Some f) × (a.address ≡ address_of f)
get_told p [] i a at = absurd cc
get_told p (f ∷ fs) zero a at = let same : (record { address = address_of f; duration = f.duration; place = p }) ≡ a = cc in (f, refl, sym (ap (λ (x : Add). x.address) same))
get_told p (f ∷ fs) (suc i) a at = get_told (suc p) fs i a at

found_in : (log rest : List Entry) (tracks : List Track) (i : ℕ) (a : Add) → IsSound log → log ≡ Declare tracks ∷ rest → AreKeeps rest → slice_get (adds_of log) i ≡ Some a
    → place_of a.address (adds_of log) ≡ Some a.place
found_in log rest tracks i a sound is keeps at =
    let here : slice_get (placed 1 (map told (keeps_of log))) i ≡ Some a = subst (λ (l : List Add). slice_get l i ≡ Some a) (sym (adds_are log sound)) at in
    let f = get_told 1 (keeps_of log) i a here in
    let entry = get_entry rest i f.0 keeps (subst (λ (l : List Entry). slice_get (keeps_of l) i ≡ Some f.0) is f.1) in
    let kept = kept_here log (Declare tracks ∷ entry.0) entry.1 f.0 a.address (suc i) sound (is ∙ ap (λ (l : List Entry). Declare tracks ∷ l) entry.2) (sym f.2) (ap suc entry.3) in
    let place : a.place ≡ 1 + i = placed_at 1 (map told (keeps_of log)) i a here in
    let same : suc i ≡ a.place = omega (arith, place) in
    kept_place a.address 0 log ∙ ap (λ (o : Option (ℕ × Fragment)). option_map (λ (k : ℕ × Fragment). k.0) o) kept ∙ ap (λ (n : ℕ). Some n) same

no_get : (i : ℕ) (a : Add) → slice_get [] i ≡ Some a → ⊥
no_get i a at = absurd cc

found_of : (log : List Entry) (i : ℕ) (a : Add) → IsSound log → slice_get (adds_of log) i ≡ Some a → place_of a.address (adds_of log) ≡ Some a.place
found_of log i a sound at = elim (shape_of log sound) [
  | inl none ↦ absurd (no_get i a (subst (λ (l : List Entry). slice_get (adds_of l) i ≡ Some a) none at))
  | inr s ↦ found_in log s.1 s.0 i a sound s.2 s.3 at
]

few_of : (log : List Entry) → IsSound log → length (adds_of log) + 1 < 2 ^ 32
few_of log sound = elim (shape_of log sound) [
  | inl none ↦ (let zero : length (adds_of log) ≡ 0 = ap (λ (l : List Entry). length (adds_of l)) none in omega (arith, zero))
  | inr s ↦
      let long = adds_long log sound in
      let keeps : length (keeps_of log) ≡ length (keeps_of s.1) = ap (λ (l : List Entry). length (keeps_of l)) s.2 in
      let many = keeps_long s.1 s.3 in
      let whole : length log ≡ suc (length s.1) = ap length s.2 in
      let few = sound.few in
      omega (arith, long, keeps, many, whole, few)
]

pub listing_of : (log : List Entry) → IsSound log → IsListing (adds_of log)
listing_of log sound = record {
  places = sym (ap (placed 1) (told_of log sound) ∙ adds_are log sound);
  found = λ i a at. found_of log i a sound at;
  few = few_of log sound;
}

pub last_of : (log : List Entry) (front back : List Fragment) → IsSound log → keeps_of log ≡ front ++ back
    → (length back ≤ length (adds_of log)) × IsEnd (addresses_in (adds_of log)) (map address_of back)
last_of log front back sound is =
    let long = adds_long log sound in
    let parts = ap length is ∙ length-append front back in (
      omega (arith, long, parts),
      end_of (map address_of front) (map address_of back) (addresses_in (adds_of log))
          (addresses_of log sound ∙ ap (map address_of) is ∙ map-append address_of front back),
    )

window_is : (all front back : List Fragment) → all ≡ front ++ back → (front ≡ []) ⊎ (67108864 < bytes_of back) → window_of back ≡ window_of all
window_is all front back is (inl none) = sym (ap window_of is ∙ ap (λ (l : List Fragment). window_of (l ++ back)) none)
window_is all front back is (inr over) = sym (ap window_of is ∙ window_over front back over)

pub whole_of : (log : List Entry) (c : Content) (front back : List Fragment) → IsSound log → channel_of log ≡ Some c.channel → c.adds ≡ adds_of log → keeps_of log ≡ front ++ back
    → (front ≡ []) ⊎ (67108864 < bytes_of back) → filling c back ≡ digest_of log
whole_of log c front back sound channel adds is enough =
    digest_is (filling c back) (digest_of log) (sym channel) (ap (map stripped) adds ∙ told_of log sound) (window_is (keeps_of log) front back is enough)

-- ---- places

pub added_place : (log : List Entry) (index : ℕ) (a : Add) → IsSound log → slice_get (adds_of log) index ≡ Some a → a.place ≡ index + 1
added_place log index a sound at =
    let is = placed_at 1 (map told (keeps_of log)) index a (subst (λ (l : List Add). slice_get l index ≡ Some a) (sym (adds_are log sound)) at) in
    omega (arith, is)

kept_at_index : (es : List Entry) (index : ℕ) (f : Fragment) → AreKeeps es → slice_get es index ≡ Some (Keep f) → slice_get (keeps_of es) index ≡ Some f
kept_at_index [] index f keeps at = absurd cc
kept_at_index (Declare tracks ∷ es) index f keeps at = absurd keeps
kept_at_index (Keep g ∷ es) zero f keeps at = let same : Keep g ≡ Keep f = cc in let is : g ≡ f = cc in ap (λ (h : Fragment). Some h) is
kept_at_index (Keep g ∷ es) (suc index) f keeps at = kept_at_index es index f keeps at

entry_none : (n : ℕ) (e : Entry) → slice_get [] n ≡ Some e → ⊥
entry_none n e at = absurd cc

pub kept_entry : (log : List Entry) (index : ℕ) (f : Fragment) → IsSound log → slice_get log (index + 1) ≡ Some (Keep f) → slice_get (keeps_of log) index ≡ Some f
kept_entry log index f sound at = elim (shape_of log sound) [
  | inl none ↦ absurd (entry_none (index + 1) (Keep f) (subst (λ (l : List Entry). slice_get l (index + 1) ≡ Some (Keep f)) none at))
  | inr s ↦
      let next : index + 1 ≡ suc index = omega arith in
      let there : slice_get (Declare s.0 ∷ s.1) (suc index) ≡ Some (Keep f) =
      subst (λ (n : ℕ). slice_get (Declare s.0 ∷ s.1) n ≡ Some (Keep f)) next (subst (λ (l : List Entry). slice_get l (index + 1) ≡ Some (Keep f)) s.2 at) in
      subst (λ (l : List Entry). slice_get (keeps_of l) index ≡ Some f) (sym s.2) (kept_at_index s.1 index f s.3 there)
]
