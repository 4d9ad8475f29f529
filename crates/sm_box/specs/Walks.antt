-- Going over the children of a body.
use Rattle.std.specs.Prelude.{◌≡◌, ◌<◌, ◌≤◌, ℕ, ◌+◌, true, false, List, [], length, slice_range}
use Rattle.sm_model.specs.Boxes.{starts_whole, box_of}
use Rattle.sm_box.specs.Place.{Place, left}
use Rattle.sm_box.specs.declared.children.Child.{Child}
use Rattle.sm_box.specs.declared.children.Child.TheVariants.{Item, Done, Bad}

-- a whole box with this length of its head and this size stands in front
pub record IsFront (b : List ℕ) (head size : ℕ) : Type 0 where
  pub whole : starts_whole b ≡ true
  pub eight : 8 ≤ length b
  pub head_is : head ≡ (box_of b).head
  pub size_is : size ≡ (box_of b).size
  pub fits : head ≤ size
  pub inside : size ≤ length b

-- a whole box stands at the old place, and the new place is behind it
pub record IsItem (old new : Place) (kind : List ℕ) (at body_at size : ℕ) : Type 0 where
  pub whole : starts_whole (left old) ≡ true
  pub kind_is : kind ≡ (box_of (left old)).kind
  pub at_is : at ≡ old.at
  pub head : body_at ≡ at + (box_of (left old)).head
  pub size_is : size ≡ (box_of (left old)).size
  pub body : new.body ≡ old.body
  pub next : new.at ≡ old.at + size
  -- these four follow from the others, and let a caller slice and count down
  pub inside : new.at ≤ length old.body
  pub least : body_at ≤ new.at
  pub moves : old.at < new.at
  pub inner : (box_of (left old)).body ≡ slice_range old.body body_at (at + size)

-- the place is the end
pub record IsDone (old new : Place) : Type 0 where
  pub nothing : left old ≡ []
  pub stays : new ≡ old

-- bytes are left, and no whole box stands in front of them
pub record IsBad (old new : Place) (at : ℕ) : Type 0 where
  pub something : 0 < length (left old)
  pub none : starts_whole (left old) ≡ false
  pub at_is : at ≡ old.at
  pub stays : new ≡ old

abbrev pub IsChild : Place → Place → Child → Type 0
IsChild old new (Item kind at body_at size) = IsItem old new kind at body_at size
IsChild old new Done = IsDone old new
IsChild old new (Bad at) = IsBad old new at
