-- Looking for one fragment among the items of a push, piece by piece.
use Rattle.std.specs.Prelude.{◌≡◌, ◌<◌, ◌⊎◌, ◌+◌, ◌-◌, ◌^◌, min, ◌==◌, ◌&&◌, ℕ, Bool, true, false, List, [], ◌∷◌, ◌++◌, length, slice_index_or, Option, Some, None}
use Rattle.sm_model.specs.declared.fragment.Fragment.{Fragment}
use Rattle.sm_model.specs.declared.cause.Refusal.{Refusal}
use Rattle.sm_model.specs.Items.{Given, Header, Frag, first_from, first_of}
use Rattle.sm_push.specs.Body.{led_by, body}
use Rattle.sm_push.specs.declared.kept.Kept.{Kept}
use Rattle.sm_push.specs.Standing.{rest_of, IsPartial, Stands}
use Rattle.sm_pick.specs.Skim.{standing}
use Rattle.sm_pick.specs.declared.seek.Hit.{Hit}
use Rattle.sm_pick.specs.declared.seek.Tally.{Tally}
use Rattle.sm_pick.specs.declared.search.Search.{Search}

-- ---- the items of one piece

abbrev pub is_fragment : Given → Bool
is_fragment (Header channel) = false
is_fragment (Frag id fragment) = true

abbrev pub is_sought : ℕ → ℕ → Given → Bool
is_sought track time (Header channel) = false
is_sought track time (Frag id fragment) = id == track && fragment.time == time

abbrev pub fragment_of : Given → Option Fragment
fragment_of (Header channel) = None
fragment_of (Frag id fragment) = Some fragment

abbrev pub fragments_in : List Given → ℕ
fragments_in [] = 0
fragments_in (Header channel ∷ gs) = fragments_in gs
fragments_in (Frag id fragment ∷ gs) = fragments_in gs + 1

-- the first fragment sought among these stands here and has this place, where the first of them has the place `first`
pub record IsHit (first track time : ℕ) (gs : List Given) (hit : Hit) : Type 0 where
  pub fragment : Fragment
  pub inside : hit.index < length gs
  pub here : (d : Given) → fragment_of (slice_index_or gs hit.index d) ≡ Some fragment
  pub sought : first_from first track time gs ≡ Some (hit.place, fragment)

abbrev pub Hits : ℕ → ℕ → ℕ → List Given → Option Hit → Type 0
Hits first track time gs None = first_from first track time gs ≡ None
Hits first track time gs (Some hit) = IsHit first track time gs hit

-- the first hit stays
abbrev pub first_hit : Option Hit → Bool → ℕ → ℕ → Option Hit
first_hit (Some hit) here index place = Some hit
first_hit None true index place = Some (record { index = index; place = place })
first_hit None false index place = None

-- one fragment more
abbrev pub tallied : Tally → Bool → ℕ → Tally
tallied before here index = record { count = before.count + 1; hit = first_hit before.hit here index (before.count + 1) }

-- a hit stands among these items
abbrev pub IsAmong : List Given → Option Hit → Type 0
IsAmong gs None = Unit {0}
IsAmong gs (Some hit) = hit.index < length gs

-- ---- the bytes that came so far

-- nothing is refused in them, these are all their fragments, and the first one sought
pub record IsLooking (s : Search) (b : List ℕ) : Type 0 where
  pub stands : Stands true (standing s.skim) b
  pub partial : IsPartial s.skim.kept
  pub count : s.count ≡ fragments_in (body true b).items
  pub found : s.found ≡ first_of s.track s.time (body true b).items

-- with these bytes, which are all of an mdat that is passed over, there is one fragment more, which isn't the one sought
pub record Comes (k : Kept) (b rest : List ℕ) (track time : ℕ) : Type 0 where
  pub id : ℕ
  pub fragment : Fragment
  pub other : is_sought track time (Frag id fragment) ≡ false
  pub later : (more : List ℕ) → body true (b ++ (rest ++ more)) ≡ led_by ((body true b).items ++ Frag id fragment ∷ []) (rest_of k (rest ++ more))

-- with these the bytes end inside a box, and nothing new has come
pub record IsInside (b part : List ℕ) : Type 0 where
  pub clear : (body true (b ++ part)).refusal ≡ None
  pub inside : (body true (b ++ part)).inside ≡ true
  pub items : (body true (b ++ part)).items ≡ (body true b).items

-- so many bytes of an mdat are left to pass over
pub record IsOver (k : Kept) (b : List ℕ) (track time : ℕ) : Type 0 where
  pub some : 0 < k.skip
  pub inside : (part : List ℕ) → length part < k.skip → IsInside b part
  pub whole : (rest : List ℕ) → length rest ≡ k.skip → Comes k b rest track time

-- the same where an mdat is passed over: its fragment is counted already
pub record IsPassing (s : Search) (b : List ℕ) : Type 0 where
  pub over : IsOver s.skim.kept b s.track s.time
  pub partial : IsPartial s.skim.kept
  pub bytes : s.skim.bytes ≡ min (length b) (2 ^ 64 - 1)
  pub count : s.count ≡ fragments_in (body true b).items + 1
  pub found : s.found ≡ first_of s.track s.time (body true b).items

abbrev pub LooksBy : Option Refusal → Search → List ℕ → Type 0
LooksBy None s b = IsLooking s b ⊎ IsPassing s b
LooksBy (Some r) s b = (body true b).refusal ≡ Some r

-- what is known of the bytes
abbrev pub Looks : Search → List ℕ → Type 0
Looks s b = LooksBy s.refusal s b
