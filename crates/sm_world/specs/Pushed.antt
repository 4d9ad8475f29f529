-- Which fragments were pushed.
use Rattle.std.specs.Prelude.{◌≡◌, ◌⊎◌, List, ◌++◌, ℕ, Contains}
use Rattle.sm_model.specs.declared.entry.Entry.{Entry}
use Rattle.sm_model.specs.declared.entry.Entry.TheVariants.{Keep}
use Rattle.sm_model.specs.declared.fragment.Fragment.{Fragment}
use Rattle.sm_site.specs.Meanings.{Item, IsLive}
use Rattle.sm_wire.specs.declared.item.WireItem.{WireItem}
use Rattle.sm_wire.specs.declared.item.WireItem.TheVariants.{Frag}
use Rattle.sm_wire.specs.Wire.{IsWire}
use Rattle.sm_serve.specs.Connections.{received}

-- by some moment of the transcript, at which a connection was open, the bytes that had come on it gave this fragment, as one of a push
pub record IsPushed (items : List Item) (f : Fragment) : Type 0 where
  pub conn : ℕ
  pub until : List Item
  pub since : List Item
  pub split : items ≡ until ++ since
  pub live : IsLive conn until
  pub given : List WireItem
  pub wire : IsWire (received conn until) given
  pub among : Contains given (Frag f)

-- it was pushed in one of these transcripts
abbrev pub IsPushedIn : List (List Item) → Fragment → Type 0
IsPushedIn transcripts f = (items : List Item) × Contains transcripts items × IsPushed items f

-- The log begins with the first one, and each fragment that it keeps behind that was pushed, in one of the earlier transcripts or in this one.
pub record ComesOf (first : List Entry) (past : List (List Item)) (items : List Item) (log : List Entry) : Type 0 where
  pub more : List Entry
  pub log_is : log ≡ first ++ more
  pub pushed : (f : Fragment) → Contains more (Keep f) → IsPushedIn past f ⊎ IsPushed items f
