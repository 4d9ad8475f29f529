-- What a step on one connection takes, and what it leaves.
use Rattle.std.specs.Prelude.{◌≡◌, ℕ, Bool, List, ◌∷◌, ◌++◌, Option, Some, None, is_some, IfSome, IsTrue, if◌then◌else◌}
use Rattle.sm_model.specs.declared.act.Act.{Act}
use Rattle.sm_site.specs.Meanings.{IsLive, Seen}
use Rattle.sm_site.specs.Clauses.{SameOutcomes}
use Rattle.sm_conn.specs.Parts.{PartItem}
use Rattle.sm_wire.specs.declared.item.WireItem.{WireItem}
use Rattle.sm_wire.specs.Wire.{Left}
use Rattle.sm_reply.specs.declared.reply.Counted.{Counted}
use Rattle.sm_origin.specs.declared.origin.Origin.{Origin}
use Rattle.sm_origin.specs.Machine.{Machine}
use Rattle.sm_serve.specs.declared.handler.Handler.{Handler}
use Rattle.sm_serve.specs.declared.live.Live.{Live}
use Rattle.sm_serve.specs.declared.still.Still.{Still}
use Rattle.sm_serve.specs.declared.still.Still.TheVariants.{Open, Closed}
use Rattle.sm_serve.specs.Run.{Phase, idle, acting, act_of, closes}
use Rattle.sm_serve.specs.Between.{TakesNone}
use Rattle.sm_serve.specs.Standing.{History, StandsOn, StandsForSome, Keeps, Reaches, stays_open, counts_with}
use Rattle.sm_serve.specs.Resting.{PlaceIs}
use Rattle.sm_serve.specs.Giving.{IsAt, Comes, PartGives}

-- the connection is open
abbrev pub IsLiveOn : {D : Type 0} (site : Seen D) → ℕ → D → Type 0
IsLiveOn site n d = IfSome (site.view d).transcript (IsLive n)

-- a step on the connection may act on the origin
pub record MayAct {D : Type 0} (site : Seen D) (handler : Handler D) : Type 0 where
  pub stands : StandsForSome site handler.origin.now handler.site.now
  pub live : IsLiveOn site handler.live.now.number handler.site.now

-- Nothing was done but to send and to close: whatever an origin stood for it stands for, and no event was taken.
pub record OnlySent {D : Type 0} (site : Seen D) (old new : D) : Type 0 where
  pub stands : (m : Machine) (origin : Origin) → StandsOn site m origin old → StandsOn site m origin new
  pub same : SameOutcomes (site.may_leave old) (site.may_leave new)
  pub contents : (site.view new).contents ≡ (site.view old).contents
  pub link : TakesNone (site.view old) (site.view new)

-- A step that only sends. From the phase in front of further items the run goes on to these, or to the next event where the connection was closed.
pub record Sends {D : Type 0} (site : Seen D) (n : ℕ) (phase : List WireItem → Phase) (close : Bool) (old new : D) (result : Still) : Type 0 where
  pub goes_on : (h : History) (more : List WireItem) (origin : Origin) → Keeps site h old → StandsOn site h.point.machine origin old
      → h.point.phase ≡ phase more
      → Reaches site h n (stays_open result) (if stays_open result then acting n more else idle) (h.point.counts n) origin new
  pub closed : IsTrue close → result ≡ Closed
  pub live : result ≡ Open → IsLiveOn site n new
  pub sent : OnlySent site old new

-- the same site, origin and connection are held
pub record SameBorrows {D : Type 0} (old new : Handler D) : Type 0 where
  pub site : new.site.ghost_name ≡ old.site.ghost_name
  pub origin : new.origin.ghost_name ≡ old.origin.ghost_name
  pub live : new.live.ghost_name ≡ old.live.ghost_name

-- A step that may act on the origin leaves it standing for some machine, and the connection as it was but for what may differ. No event was taken.
pub record Leaves {D : Type 0} (site : Seen D) (Same : Live → Live → Type 0) (old new : Handler D) (result : Still) : Type 0 where
  pub borrows : SameBorrows old new
  pub stands : StandsForSome site new.origin.now new.site.now
  pub live : result ≡ Open → IsLiveOn site old.live.now.number new.site.now
  pub same : Same old.live.now new.live.now
  pub link : TakesNone (site.view old.site.now) (site.view new.site.now)

-- A step that takes items which stand in front of further ones: the run goes on to these, or to the next event where the connection was closed.
abbrev pub TakesItems : {D : Type 0} (site : Seen D) → (List WireItem → List WireItem) → Handler D → Handler D → Still → Type 0
TakesItems site front old new result =
    (h : History) (more : List WireItem) → IsAt site h (front more) old → Comes site h old.live.now.number result more new

-- A step that takes parts which stand in front of further ones, where a push is open at this place or none is.
abbrev pub TakesParts : {D : Type 0} (site : Seen D) → Option (List ℕ) → List PartItem → Handler D → Handler D → Still → Type 0
TakesParts site place parts old new result = (h : History) (more : List PartItem) (items : List WireItem) → IsAt site h items old
    → PlaceIs old.live.now.push place → Left place (parts ++ more) items → PartGives site h old.live.now.number result place parts more new

-- what became of a connection by an act that counts something, or by one that closed it
abbrev pub still_of : Option Counted → Still
still_of None = Closed
still_of (Some counted) = Open

-- A step that acts on one item: the run goes on behind its reply, and the connection counts what the act does.
abbrev pub Acts : {D : Type 0} (site : Seen D) → Act → Bool → Handler D → Handler D → Option Counted → Type 0
Acts site act close old new result = let n = old.live.now.number in (h : History) (item : WireItem) (more : List WireItem) → Keeps site h old.site.now
    → StandsOn site h.point.machine old.origin.now old.site.now → h.point.phase ≡ acting n (item ∷ more)
    → act_of (h.point.counts n) item ≡ Some act → closes item ≡ close
    → Reaches site h n (is_some result) (if is_some result then acting n more else idle) (counts_with item result (h.point.counts n)) new.origin.now new.site.now
