-- What parts give to a run.
use Rattle.std.specs.Prelude.{◌≡◌, ℕ, Bool, false, List, [], ◌++◌, Option, Some, None, Result, IsTrue, if◌then◌else◌}
use Rattle.sm_site.specs.Meanings.{Seen}
use Rattle.sm_model.specs.Items.{Given}
use Rattle.sm_push.specs.declared.fault.PushFault.{PushFault}
use Rattle.sm_push.specs.Standing.{Standing, Answers, Ends}
use Rattle.sm_conn.specs.Parts.{PartItem}
use Rattle.sm_wire.specs.declared.item.WireItem.{WireItem}
use Rattle.sm_wire.specs.Wire.{Left}
use Rattle.sm_origin.specs.declared.origin.Origin.{Origin}
use Rattle.sm_serve.specs.Run.{Point, Moves, idle, acting, at}
use Rattle.sm_serve.specs.Standing.{History, StandsOn, Keeps, moved, Reaches, stays_open}
use Rattle.sm_serve.specs.Resting.{PlaceIs, counts_of, Rests}
use Rattle.sm_serve.specs.Connections.{received}
use Rattle.sm_serve.specs.declared.handler.Handler.{Handler}
use Rattle.sm_serve.specs.declared.live.Live.{Live}
use Rattle.sm_serve.specs.declared.still.Still.{Still}
use Rattle.sm_serve.specs.declared.still.Still.TheVariants.{Open, Closed}
use Rattle.sm_site.specs.Meanings.Deal.{Came}

abbrev pub FedPush : List ℕ → List ℕ → Option Standing → Result (List Given) PushFault → Type 0
FedPush b piece None result = ⊥
FedPush b piece (Some push) result = Answers false b piece push result

abbrev pub EndedPush : List ℕ → Result (Unit {0}) PushFault → Type 0
EndedPush b result = Ends false b result

-- the run stands in front of these items of the connection
pub record IsAt {D : Type 0} (site : Seen D) (h : History) (items : List WireItem) (handler : Handler D) : Type 0 where
  pub keeps : Keeps site h handler.site.now
  pub stands : StandsOn site h.point.machine handler.origin.now handler.site.now
  pub phase : h.point.phase ≡ acting handler.live.now.number items
  pub counts : h.point.counts handler.live.now.number ≡ counts_of handler.live.now

-- the run goes on to these items, or to the next event where the connection was closed
abbrev pub Comes : {D : Type 0} (site : Seen D) → History → ℕ → Still → List WireItem → Handler D → Type 0
Comes site h n still items handler =
    Reaches site h n (stays_open still) (if stays_open still then acting n items else idle) (counts_of handler.live.now) handler.origin.now handler.site.now

-- Behind these parts the connection is still open. Whatever parts follow, they give behind what was given what they give with the push that is open now.
pub record StaysOpen {D : Type 0} (site : Seen D) (h : History) (n : ℕ) (before : Option (List ℕ)) (parts more : List PartItem) (handler : Handler D) : Type 0 where
  pub after : Option (List ℕ)
  pub after_is : PlaceIs handler.live.now.push after
  pub given : List WireItem
  pub on : (qs : List PartItem) (ws : List WireItem) → Left after qs ws → Left before (parts ++ qs) (given ++ ws)
  pub left : List WireItem
  pub left_is : Left after more left
  pub reaches : Comes site h n Open left handler

abbrev pub PartGives : {D : Type 0} (site : Seen D) → History → ℕ → Still → Option (List ℕ) → List PartItem → List PartItem → Handler D → Type 0
PartGives site h n Open before parts more handler = StaysOpen site h n before parts more handler
PartGives site h n Closed before parts more handler = Comes site h n Closed [] handler

-- A piece was taken: the run goes on from its event to the next one, and an open connection rests with the piece.
pub record PieceGives {D : Type 0} (site : Seen D) (h : History) (m : ℕ)
    (piece : List ℕ) (n : ℕ)
    (is_open : Bool) (live : Live)
    (origin : Origin) (d : D) : Type 0 where
  pub from : Point
  pub from_counts : from.counts ≡ h.point.counts
  pub move : Moves false h.items h.point (at m (Came n piece)) [] from
  pub reaches : Reaches site (moved h (at m (Came n piece)) from) n is_open idle (counts_of live) origin d
  pub rests : IsTrue is_open → Rests live (received n h.items ++ piece)
