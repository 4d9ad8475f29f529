-- What a transcript has shown by a moment.
use Rattle.std.specs.Prelude.{◌≡◌, ℕ, ◌==◌, true, not, ◌&&◌, nat_le, List, [], ◌∷◌, ◌++◌, Some, slice_get, if◌then◌else◌}
use Rattle.sm_model.specs.declared.fragment.Fragment.{Fragment}
use Rattle.sm_site.specs.Meanings.{Deal, Item}
use Rattle.sm_site.specs.Meanings.Deal.{Began, Came, Left, Over, Sent, Shut}
use Rattle.sm_head.specs.Shown.{shows_status}
use Rattle.sm_wire.specs.declared.item.WireItem.{WireItem}
use Rattle.sm_wire.specs.declared.item.WireItem.TheVariants.{Continue, Get, Header, Frag, End, Refuse}
use Rattle.sm_wire.specs.Wire.{IsWire}
use Rattle.sm_origin.specs.Shown.{Claim, Request, Asked, Pushed, Shows}
use Rattle.sm_serve.specs.Connections.{received}

-- ---- requests

-- What each reply answers, in order: a push is one request, with the fragments that it gave. These are those of the push that is
-- open; it is the last request, as long as nothing ends it.
abbrev pub requests_from : List Fragment → List WireItem → List Request
requests_from fs [] = Pushed fs ∷ []
requests_from fs (Continue ∷ items) = requests_from fs items
requests_from fs (Get target close ∷ items) = Asked target ∷ requests_from [] items
requests_from fs (Header channel ∷ items) = requests_from fs items
requests_from fs (Frag f ∷ items) = requests_from (fs ++ f ∷ []) items
requests_from fs (End close ∷ items) = Pushed fs ∷ requests_from [] items
requests_from fs (Refuse r ∷ items) = Pushed fs ∷ requests_from [] items

-- ---- replies

-- what was sent of each reply, in order; what lets a client go on is none
abbrev pub replies_after : ℕ → List (List ℕ) → Deal → List (List ℕ)
replies_after n was (Began k) = if k == n then [] else was
replies_after n was (Came k bytes) = was
replies_after n was (Left k) = was
replies_after n was Over = was
replies_after n was (Sent k bytes failed) = if (k == n) && not (shows_status 100 bytes) then was ++ bytes ∷ [] else was
replies_after n was (Shut k) = was

abbrev pub replies_from : ℕ → List (List ℕ) → List Item → List (List ℕ)
replies_from n was [] = was
replies_from n was (item ∷ items) = replies_from n (replies_after n was item.deal) items

-- since the connection was opened
unfoldable pub replies : ℕ → List Item → List (List ℕ)
replies n items = replies_from n [] items

-- ---- what is shown

-- the entries up to a moment
abbrev pub until : ℕ → List Item → List Item
until t [] = []
until t (item ∷ items) = if nat_le item.moment t then item ∷ until t items else []

-- By the moment the entries have shown this: a reply on a connection answers the request that stands at the same place, and says that all
-- is well; what was sent of it shows it.
pub record Shown (items : List Item) (t : ℕ) (claim : Claim) : Type 0 where
  pub conn : ℕ
  pub given : List WireItem
  pub wire : IsWire (received conn (until t items)) given
  pub index : ℕ
  pub request : Request
  pub part : List ℕ
  pub asked : slice_get (requests_from [] given) index ≡ Some request
  pub replied : slice_get (replies conn (until t items)) index ≡ Some part
  pub is_well : shows_status 200 part ≡ true
  pub shows : Shows request part claim
