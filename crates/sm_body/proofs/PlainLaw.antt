-- One byte more.
use Rattle.std.proofs.Common.{◌≡◌, ℕ, ◌+◌, ◌<◌, List, [], ◌∷◌, ◌++◌, length, take, get_or, ap, ◌∙◌}
use Rattle.std.specs.Prelude.{if◌then◌else◌}
use Rattle.std.proofs.lemmas.List.{append-nil, take_more}
use Rattle.sm_body.specs.declared.place.Place.{Place}
use Rattle.sm_body.specs.Places.{next_place, place_after, body_from, is_data}
use Rattle.sm_body.proofs.LineLaw.{place_after-append}
use Rattle.sm_body.proofs.BodyLaw.{body_on}

pub place_more : (p : Place) (bytes : List ℕ) (i : ℕ) → i < length bytes
    → place_after p (take (i + 1) bytes) ≡ next_place (place_after p (take i bytes)) (get_or bytes i 0)
place_more p bytes i lt = ap (place_after p) (take_more bytes i 0 lt) ∙ place_after-append p (take i bytes) (get_or bytes i 0 ∷ [])

pub body_more : (p : Place) (bytes : List ℕ) (i : ℕ) → i < length bytes
    → body_from p (take (i + 1) bytes) ≡ body_from p (take i bytes) ++ (if is_data (place_after p (take i bytes)) then get_or bytes i 0 ∷ [] else [])
body_more p bytes i lt =
    ap (body_from p) (take_more bytes i 0 lt) ∙ body_on p (take i bytes) (get_or bytes i 0 ∷ [])
    ∙ ap (λ b. body_from p (take i bytes) ++ b) (append-nil (if is_data (place_after p (take i bytes)) then get_or bytes i 0 ∷ [] else []))
