-- A connection between two pieces.
use Rattle.std.specs.Prelude.{◌≡◌, ℕ, false, List, [], ◌++◌, Option, Some, None}
use Rattle.sm_push.specs.Standing.{Standing, Stands}
use Rattle.sm_conn.specs.Parts.{PartItem}
use Rattle.sm_conn.specs.Stands.{StandsFor}
use Rattle.sm_wire.specs.declared.item.WireItem.{WireItem}
use Rattle.sm_wire.specs.Wire.{wire, Left}
use Rattle.sm_serve.specs.declared.live.Live.{Live}
use Rattle.sm_serve.specs.Run.{Counts, no_counts}

abbrev pub counts_of : Live → Counts
counts_of live = record { kept = live.kept; known = live.known }

-- only the counts differ
pub record SameBut (old new : Live) : Type 0 where
  pub number : new.number ≡ old.number
  pub conn : new.conn ≡ old.conn
  pub push : new.push ≡ old.push

pub record SameConn (old new : Live) : Type 0 where
  pub number : new.number ≡ old.number
  pub conn : new.conn ≡ old.conn

-- the push that is open has these bytes
abbrev pub PlaceIs : Option Standing → Option (List ℕ) → Type 0
PlaceIs None None = Unit {0}
PlaceIs None (Some b) = ⊥
PlaceIs (Some push) None = ⊥
PlaceIs (Some push) (Some b) = Stands false push b

-- The connection was given these bytes: what further parts give with the push that is open is what the bytes with them give beyond
-- what the bytes give.
pub record Rests (live : Live) (bytes : List ℕ) : Type 0 where
  pub parts : List PartItem
  pub stands : StandsFor live.conn bytes parts
  pub place : Option (List ℕ)
  pub place_is : PlaceIs live.push place
  pub later : (more : List PartItem) (items : List WireItem) → Left place more items → wire None (parts ++ more) ≡ wire None parts ++ items

-- a connection that has sent nothing
pub record IsNewborn (number : ℕ) (live : Live) : Type 0 where
  pub number_is : live.number ≡ number
  pub rests : Rests live []
  pub counts : counts_of live ≡ no_counts
