-- Items of a push, as items of a connection.
use Rattle.sm_model.specs.Channels.{IsChannel}
use Rattle.sm_model.specs.Fragments.{IsValid}
use Rattle.sm_model.specs.declared.item.Item.{Item}
use Rattle.sm_model.specs.declared.item.Item.TheVariants as items
use Rattle.sm_wire.specs.declared.item.WireItem.{WireItem}
use Rattle.sm_wire.specs.declared.item.WireItem.TheVariants.{Header, Frag}

abbrev pub shown_item : Item → WireItem
shown_item (items.Header channel) = Header channel
shown_item (items.Frag f) = Frag f

-- its channel or fragment is valid
abbrev pub ItemIsValid : Item → Type 0
ItemIsValid (items.Header channel) = IsChannel channel
ItemIsValid (items.Frag f) = IsValid f
