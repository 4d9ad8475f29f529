-- What a reader shows.
use Rattle.std.specs.Prelude.{◌≡◌, ◌≢◌, ◌+◌, ◌≤◌, ◌<◌, ◌^◌, ℕ, Bool, false, List, [], ◌∷◌, length, take, Option, None, Some, slice_get, IsSome}
use Rattle.std.specs.Option.{ForSome}
use Rattle.std.specs.Arc.{arc_value}
use Rattle.sm_model.specs.declared.act.Act.{Act}
use Rattle.sm_model.specs.declared.act.Act.TheVariants.{Manifest, Fragment as Ask, Unknown, Header, Frag, End, Refuse}
use Rattle.sm_model.specs.declared.address.Address.{Address}
use Rattle.sm_model.specs.declared.cause.Cause.TheVariants as cause
use Rattle.sm_model.specs.declared.fragment.Fragment.{Fragment}
use Rattle.sm_model.specs.declared.track.Track.{Track}
use Rattle.sm_model.specs.Channels.{IsChannel}
use Rattle.sm_model.specs.Entries.{address_of}
use Rattle.sm_model.specs.Fragments.{IsValid}
use Rattle.sm_model.specs.FragText.{frag_text}
use Rattle.sm_log.specs.Adds.{Add, ahead, id_in}
use Rattle.sm_log.specs.Digests.{Digest, Extends}
use Rattle.sm_head.specs.declared.reply.Content.TheVariants.{Xml, Mp4}
use Rattle.sm_reply.specs.declared.reply.Reply.{Reply}
use Rattle.sm_reply.specs.Replies.{ok, unplaced, manifest_with}
use Rattle.sm_shelf.specs.Laying.{adds_in}
use Rattle.sm_shelf.specs.declared.found.Held.{Held}
use Rattle.sm_shelf.specs.declared.found.Found.{Found}
use Rattle.sm_shelf.specs.declared.found.Found.TheVariants as found
use Rattle.sm_shelf.specs.declared.found.Listing.{Listing}
use Rattle.sm_shelf.specs.declared.found.Listing.TheVariants as listing
use Rattle.sm_shelf.specs.declared.shown.Shown.{Shown}
use Rattle.sm_shelf.specs.declared.shown.Shown.TheVariants as shown
use Rattle.sm_shelf.specs.declared.replies.Listed.{Listed}

-- ---- what is in the window

-- the fragment stands in the window, and at that place of the log
pub record IsHeld (d : Digest) (a : Address) (place : ℕ) (f : Fragment) : Type 0 where
  pub index : ℕ
  pub at : slice_get d.window index ≡ Some f
  pub address : address_of f ≡ a
  pub place_is : place + length d.window ≡ length d.adds + 1 + index

-- nothing of the window stands at the address
abbrev pub IsNotHeld : Digest → Address → Type 0
IsNotHeld d a = (index : ℕ) (f : Fragment) → slice_get d.window index ≡ Some f → address_of f ≢ a

-- ---- replies

-- up to two listed times behind what is kept at that start
abbrev pub ahead_by : Option (List Track) → List Add → Address → List (ℕ × ℕ)
ahead_by None adds a = []
ahead_by (Some channel) adds a = ahead channel adds a.stream a.time

-- up to two, the second only behind a first
abbrev pub both : Option (ℕ × ℕ) → Option (ℕ × ℕ) → List (ℕ × ℕ)
both None second = []
both (Some first) None = first ∷ []
both (Some first) (Some second) = first ∷ second ∷ []

-- the track_ID of an address
abbrev pub id_by : Option (List Track) → Address → ℕ
id_by None a = 0
id_by (Some channel) a = id_in channel a

-- the reply that gives a fragment of a digest
abbrev pub gives : Digest → Address → ℕ → Fragment → Reply
gives d a place f = ok Mp4 (frag_text place (id_by d.channel a) f (ahead_by d.channel (adds_in d) a))

-- the reply that gives the manifest of a channel and of what was added to it, or says that there is none
abbrev pub lists : Option (List Track) → List Add → Reply
lists None adds = unplaced cause.NoChannel
lists (Some channel) adds = ok Xml (manifest_with channel adds)

-- the fragment that the window has at an address, given
pub record IsGiven (d : Digest) (a : Address) (text : List ℕ) : Type 0 where
  pub place : ℕ
  pub fragment : Fragment
  pub held : IsHeld d a place fragment
  pub text_is : text ≡ (gives d a place fragment).bytes

-- the bytes of a digest's reply
abbrev pub IsReplyTo : Digest → Act → List ℕ → Type 0
IsReplyTo d Manifest text = text ≡ (lists d.channel (adds_in d)).bytes
IsReplyTo d (Ask a) text = IsGiven d a text
IsReplyTo d Unknown text = ⊥
IsReplyTo d (Header header) text = ⊥
IsReplyTo d (Frag f) text = ⊥
IsReplyTo d (End kept known) text = ⊥
IsReplyTo d (Refuse r) text = ⊥

-- the act asks for a fragment, and the window lacks it
abbrev pub IsForwarded : Digest → Act → Type 0
IsForwarded d Manifest = ⊥
IsForwarded d (Ask a) = IsNotHeld d a
IsForwarded d Unknown = ⊥
IsForwarded d (Header header) = ⊥
IsForwarded d (Frag f) = ⊥
IsForwarded d (End kept known) = ⊥
IsForwarded d (Refuse r) = ⊥

-- what is shown is the digest's own; want of memory is free
abbrev pub IsShown : Digest → Act → Shown → Type 0
IsShown d act (shown.Reply text) = IsReplyTo d act text
IsShown d act shown.Forward = IsForwarded d act
IsShown d act shown.NoMemory = Unit {0}

-- the digest seen then goes on from the one seen before, and what is shown is its own
abbrev pub Answers : Digest → Act → Shown → Digest → Type 0
Answers seen act shown seen' = Extends seen' seen × IsShown seen' act shown

-- a shelf answers requests for the manifest and for fragments
abbrev pub IsAsk : Act → Type 0
IsAsk Manifest = Unit {0}
IsAsk (Ask a) = Unit {0}
IsAsk Unknown = ⊥
IsAsk (Header header) = ⊥
IsAsk (Frag f) = ⊥
IsAsk (End kept known) = ⊥
IsAsk (Refuse r) = ⊥

-- ---- what is taken out of a digest, before a reply is written

-- the channel, where it was asked for
pub record IsSeen (d : Digest) (channel : List Track) : Type 0 where
  pub channel_is : d.channel ≡ Some channel
  pub valid : IsChannel channel

-- a fragment of the window, with what is told ahead of it; and the channel for one who doesn't have it yet
pub record IsTaken (d : Digest) (a : Address) (knows : Bool) (h : Held) : Type 0 where
  pub held : IsHeld d a h.place (arc_value h.fragment)
  pub first : h.first ≡ slice_get (ahead_by d.channel (adds_in d) a) 0
  pub second : h.second ≡ slice_get (ahead_by d.channel (adds_in d) a) 1
  pub valid : IsValid (arc_value h.fragment)
  pub small : h.place < 2 ^ 32
  pub channel : ForSome h.channel (IsSeen d)
  pub asked : knows ≡ false → IsSome h.channel

abbrev pub IsFound : Digest → Address → Bool → Found → Type 0
IsFound d a knows (found.Held h) = IsTaken d a knows h
IsFound d a knows found.Forward = IsNotHeld d a
IsFound d a knows found.NoMemory = Unit {0}

-- the digest has a channel, and this is its manifest's text behind the first so many that it has added
pub record IsListed (d : Digest) (count : ℕ) (text : List ℕ) : Type 0 where
  pub declared : d.channel ≢ None
  pub within : count ≤ length d.adds
  pub text_is : text ≡ (lists d.channel (adds_in (record d { adds = take count d.adds }))).bytes

abbrev pub IsListingOf : Digest → Option ℕ → Listing → Type 0
IsListingOf d known listing.Undeclared = d.channel ≡ None
IsListingOf d known listing.Same = known ≡ Some (length d.adds)
IsListingOf d known (listing.New count text) = (d.channel ≢ None) × (count ≡ length d.adds) × (text ≡ (lists d.channel (adds_in d)).bytes)
IsListingOf d known listing.NoMemory = Unit {0}

-- what a reader keeps of the digest that it has seen
pub record IsReader (c : Option (List Track)) (l : Option Listed) (seen : Digest) : Type 0 where
  pub channel : ForSome c (IsSeen seen)
  pub listed : ForSome l (λ k. IsListed seen k.count k.text)
