-- What a push gives: headers, and fragments with their track_IDs.
use Rattle.std.specs.Prelude.{ℕ, zero, suc, ◌+◌, ◌==◌, ◌&&◌, List, [], ◌∷◌, Option, Some, None, if◌then◌else◌}
use Rattle.sm_model.specs.declared.track.Track.{Track}
use Rattle.sm_model.specs.declared.fragment.Fragment.{Fragment}
use Rattle.sm_model.specs.declared.item.Item.{Item}
use Rattle.sm_model.specs.declared.item.Item.TheVariants as items

-- the channel of a header, or a fragment and its track_ID
pub data Given : Type 0 where
  Header : List Track → Given
  Frag : ℕ → Fragment → Given

abbrev pub given_of : Item → ℕ → Given
given_of (items.Header channel) id = Header channel
given_of (items.Frag fragment) id = Frag id fragment

abbrev pub item_of : Given → Item
item_of (Header channel) = items.Header channel
item_of (Frag id fragment) = items.Frag fragment

-- items with the track_IDs that stand beside them
unfoldable pub givens : List Item → List ℕ → List Given
givens [] ids = []
givens (item ∷ more) [] = given_of item 0 ∷ givens more []
givens (item ∷ more) (id ∷ ids) = given_of item id ∷ givens more ids

abbrev pub id_of : Given → Option ℕ
id_of (Header channel) = None
id_of (Frag id fragment) = Some id

-- the track_ID at an index, from 0; none at a header, and past the end
unfoldable pub id_at : List Given → ℕ → Option ℕ
id_at [] n = None
id_at (g ∷ gs) zero = id_of g
id_at (g ∷ gs) (suc n) = id_at gs n

-- ---- one fragment among the items

-- The first fragment with that track_ID and time, and its place among the fragments, where the first of them has this place. A
-- header has no place.
abbrev pub first_from : ℕ → ℕ → ℕ → List Given → Option (ℕ × Fragment)
first_from place track time [] = None
first_from place track time (Header channel ∷ gs) = first_from place track time gs
first_from place track time (Frag id fragment ∷ gs) =
    if id == track && fragment.time == time then Some (place, fragment) else first_from (place + 1) track time gs

-- places count from 1
abbrev pub first_of : ℕ → ℕ → List Given → Option (ℕ × Fragment)
first_of track time gs = first_from 1 track time gs
