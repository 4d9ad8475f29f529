-- A moov, by what its traks and its mvexes say.
use Rattle.std.proofs.Common.{◌≡◌, ℕ, List, Option, Some, None, Vec, Global, refl, sym, ap, ◌∙◌}
use Rattle.std.specs.Option.{option_map, option_and_then}
use Rattle.sm_model.specs.declared.run.Defaults.{Defaults}
use Rattle.sm_model.specs.declared.heads.TrackHead.{TrackHead}
use Rattle.sm_model.specs.Boxes.{Box, boxes}
use Rattle.sm_model.specs.Moov.{moov, moov_of, settled, traks_of, trexes_of}

-- the items of a vector, if there is one
abbrev pub said : {A : Type 0} → Option (Vec A Global) → Option (List A)
said o = option_map (λ v. v.items) o

abbrev settled_both : Option (List (ℕ × Defaults)) → Option (List TrackHead) → Option (List TrackHead)
settled_both ts hs = option_and_then (λ t. option_and_then (settled t) hs) ts

within : (o : Option (List Box)) → settled_both (option_and_then trexes_of o) (option_and_then traks_of o) ≡ option_and_then moov_of o
unfolding moov_of
within None = refl
within (Some xs) = refl

pub moov_from : (b : List ℕ) (ts : Option (List (ℕ × Defaults))) (hs : Option (List TrackHead))
    → ts ≡ option_and_then trexes_of (boxes b) → hs ≡ option_and_then traks_of (boxes b) → moov b ≡ settled_both ts hs
unfolding moov
moov_from b ts hs t h =
    sym (ap (λ (o : Option (List (ℕ × Defaults))). settled_both o hs) t
    ∙ ap (settled_both (option_and_then trexes_of (boxes b))) h ∙ within (boxes b))

pub no_heads : (ts : Option (List (ℕ × Defaults))) → settled_both ts None ≡ None
no_heads None = refl
no_heads (Some ts) = refl
