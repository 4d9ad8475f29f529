-- What a body of a fragment shows in front is the fragment's.
use Rattle.std.proofs.Common.{◌≡◌, ℕ, ◌<◌, ◌^◌, List, ◌∷◌, ◌++◌, length, true, leb, Option, Some, refl, ap, ◌∙◌, inl, inr, arith}
use Rattle.std.proofs.lemmas.Nat.{from_be_bytes-to_be_bytes_4, from_be_bytes-to_be_bytes_8}
use Rattle.std.proofs.lemmas.Bool.{le-leb}
use Rattle.sha2.specs.Sha256.{sha256}
use Rattle.sm_model.specs.declared.track.Track.{Track}
use Rattle.sm_model.specs.declared.fragment.Fragment.{Fragment}
use Rattle.sm_model.specs.declared.entry.Entry.TheVariants.{Keep}
use Rattle.sm_model.specs.Numbers.{number32, number64, number32_at, number64_at}
use Rattle.sm_record.specs.Texts.{row_text, flag_text, keep_text}
use Rattle.std.specs.List.{flat_map}
use Rattle.sm_record.specs.declared.meta.Meta.{Meta}
use Rattle.std.specs.Int.{w32, w64, to_be_bytes, from_be_bytes}
use Rattle.sm_record.proofs.Steps.{behind}
use Rattle.sm_record.specs.Bodies.{IsKeep, IsBody}
use Rattle.sm_record.specs.Metas.{meta_of, IsMetaOf}

abbrev meta_with : ℕ → ℕ → ℕ → Option Meta
meta_with place time duration = Some (record { track = place; time = time; duration = duration })

numbers_again : (place time duration : ℕ) → place < 2 ^ 32 → time < 2 ^ 64 → duration < 2 ^ 64
    → meta_with (from_be_bytes w32 (to_be_bytes w32 place)) (from_be_bytes w64 (to_be_bytes w64 time)) (from_be_bytes w64 (to_be_bytes w64 duration)) ≡ meta_with place time duration
numbers_again place time duration lp lt ld =
    ap (λ (n : ℕ). meta_with n (from_be_bytes w64 (to_be_bytes w64 time)) (from_be_bytes w64 (to_be_bytes w64 duration))) (from_be_bytes-to_be_bytes_4 place lp)
    ∙ ap (λ (n : ℕ). meta_with place n (from_be_bytes w64 (to_be_bytes w64 duration))) (from_be_bytes-to_be_bytes_8 time lt)
    ∙ ap (λ (n : ℕ). meta_with place time n) (from_be_bytes-to_be_bytes_8 duration ld)

front_of_plain : (place time duration : ℕ) (rest : List ℕ) → place < 2 ^ 32 → time < 2 ^ 64 → duration < 2 ^ 64
    → meta_of (2 ∷ (number32 place ++ (number64 time ++ (number64 duration ++ rest)))) ≡ meta_with place time duration
unfolding meta_of number32_at number64_at number32 number64
front_of_plain place time duration rest lp lt ld =
    let long : leb 21 (length (2 ∷ (number32 place ++ (number64 time ++ (number64 duration ++ rest))))) ≡ true = le-leb _ _ (omega arith) in
    rw long (numbers_again place time duration lp lt ld)

front_of_sealed : (place time duration : ℕ) (rest : List ℕ) → place < 2 ^ 32 → time < 2 ^ 64 → duration < 2 ^ 64
    → meta_of (18 ∷ (number32 place ++ (number64 time ++ (number64 duration ++ rest)))) ≡ meta_with place time duration
unfolding meta_of number32_at number64_at number32 number64
front_of_sealed place time duration rest lp lt ld =
    let long : leb 21 (length (18 ∷ (number32 place ++ (number64 time ++ (number64 duration ++ rest))))) ≡ true = le-leb _ _ (omega arith) in
    rw long (numbers_again place time duration lp lt ld)

made : (channel : List Track) (f : Fragment) (fields body : List ℕ) (h : IsKeep channel f fields) → meta_of body ≡ Some (record { track = h.place; time = f.time; duration = f.duration }) → (m : Meta) × (meta_of body ≡ Some m)
    × IsMetaOf channel f m
made channel f fields body h e = (record { track = h.place; time = f.time; duration = f.duration }, e, record { of = h.of; time = refl; duration = refl })

pub meta_is : (channel : List Track) (f : Fragment) (body : List ℕ) → IsBody (Some channel) (Keep f) body → (m : Meta) × (meta_of body ≡ Some m) × IsMetaOf channel f m
unfolding keep_text
meta_is channel f body (inl p) =
    made channel f p.fields body p.has (ap meta_of (p.is ∙ ap (λ (x : List ℕ). 2 ∷ x) p.has.text) ∙ front_of_plain p.has.place f.time f.duration _ p.has.low p.has.time p.has.duration)
meta_is channel f body (inr p) =
    let own = p.has.place in
    let behind_numbers : List ℕ = flag_text f.signed ++ (number32 (length f.samples) ++ (flat_map row_text f.samples ++ flat_map (λ s. s.bytes) f.samples)) in
    let digest = sha256 (18 ∷ p.fields) in
    let regrouped : keep_text own f ++ digest ≡ number32 own ++ (number64 f.time ++ (number64 f.duration ++ (behind_numbers ++ digest))) =
    behind (number32 own) _ digest _ (behind (number64 f.time) _ digest _ (behind (number64 f.duration) behind_numbers digest _ refl)) in
    let is : body ≡ 18 ∷ (number32 own ++ (number64 f.time ++ (number64 f.duration ++ (behind_numbers ++ digest)))) =
    p.is ∙ ap (λ (x : List ℕ). 18 ∷ (x ++ digest)) p.has.text ∙ ap (λ (x : List ℕ). 18 ∷ x) regrouped in
    made channel f p.fields body p.has (ap meta_of is ∙ front_of_sealed own f.time f.duration (behind_numbers ++ digest) p.has.low p.has.time p.has.duration)
