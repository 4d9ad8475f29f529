-- Which items are valid.
use Rattle.std.specs.Prelude.{Option, Some, None}
use Rattle.sm_model.specs.Channels.{IsChannel}
use Rattle.sm_model.specs.Fragments.{IsValid}
use Rattle.sm_model.specs.Items.{Given, Header, Frag}

-- the channel of a header, or the fragment, is valid
abbrev pub IsValidItem : Given → Type 0
IsValidItem (Header channel) = IsChannel channel
IsValidItem (Frag id f) = IsValid f

abbrev pub ItemIsValid : Option Given → Type 0
ItemIsValid None = Unit {0}
ItemIsValid (Some g) = IsValidItem g
