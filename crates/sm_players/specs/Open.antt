-- The live connections of a player.
use Rattle.std.specs.Prelude.{◌≡◌, ◌≢◌, ◌⊎◌, ℕ, List, [], ◌∷◌, ◌++◌, IfSome}
use Rattle.sm_site.specs.Meanings.{Item, IsLive, View}
use Rattle.sm_site.specs.declared.event.Event.{Event}
use Rattle.sm_site.specs.declared.event.Event.TheVariants.{Opened, Piece, Closed, Ended}
use Rattle.sm_conn.specs.Parts.{PartItem}
use Rattle.sm_conn.specs.Stands.{StandsFor}
use Rattle.sm_players.specs.declared.live.Live.{Live}

-- a live connection, and what it has sent since it was opened
pub record Known : Type 0 where
  pub number : ℕ
  pub bytes : List ℕ

-- it is none of these
abbrev pub IsApart : ℕ → List Live → Type 0
IsApart n [] = Unit {0}
IsApart n (l ∷ ls) = (l.number ≢ n) × IsApart n ls

-- each is open, and no two have one number
abbrev pub AreOpen : List Item → List Live → Type 0
AreOpen items [] = Unit {0}
AreOpen items (l ∷ ls) = IsLive l.number items × IsApart l.number ls × AreOpen items ls

-- the same of all but one
abbrev pub AreOpenBut : ℕ → List Item → List Live → Type 0
AreOpenBut n items [] = Unit {0}
AreOpenBut n items (l ∷ ls) = (l.number ≢ n → IsLive l.number items) × IsApart l.number ls × AreOpenBut n items ls

-- what an event leaves of the wire: the live connections are open, and no fault is counted
pub record LeavesOpen (lives : List Live) (old new : View) : Type 0 where
  pub open_ : IfSome new.transcript (λ items. AreOpen items lives)
  pub link_faults : new.link_faults ≡ old.link_faults

-- the connection was given these bytes, and gave what they give
pub record IsKnown (k : Known) (l : Live) : Type 0 where
  pub number_is : k.number ≡ l.number
  pub given : List PartItem
  pub stands : StandsFor l.conn k.bytes given

abbrev pub AreKnown : List Known → List Live → Type 0
AreKnown [] [] = Unit {0}
AreKnown [] (l ∷ ls) = ⊥
AreKnown (k ∷ ks) [] = ⊥
AreKnown (k ∷ ks) (l ∷ ls) = IsKnown k l × AreKnown ks ls

abbrev pub numbers_of : List Live → List ℕ
numbers_of [] = []
numbers_of (l ∷ ls) = l.number ∷ numbers_of ls

-- a connection that has sent nothing
pub record IsNewborn (number : ℕ) (live : Live) : Type 0 where
  pub number_is : live.number ≡ number
  pub stands : StandsFor live.conn [] []

-- the number is that of no live connection
abbrev pub IsNone : ℕ → List Known → Type 0
IsNone n [] = Unit {0}
IsNone n (k ∷ ks) = (k.number ≢ n) × IsNone n ks

-- a live connection is one of these, and is taken out
pub record IsTakenOut (n : ℕ) (lives after : List Known) : Type 0 where
  pub front : List Known
  pub back : List Known
  pub one : Known
  pub number_is : one.number ≡ n
  pub lives_is : lives ≡ front ++ one ∷ back
  pub after_is : after ≡ front ++ back

-- The connection of a number is out of the list, if it was in it.
pub record Forgets (n : ℕ) (old new : List Live) : Type 0 where
  pub open_ : (items : List Item) → AreOpenBut n items old → AreOpen items new
  pub known : (lives : List Known) → AreKnown lives old → (after : List Known) × AreKnown after new
      × (IsTakenOut n lives after ⊎ (IsNone n lives × (after ≡ lives)))

-- an event that was just taken may be handled: its connection is open and new, and the live ones are open
abbrev pub MayHandle : Event → List Live → List Item → Type 0
MayHandle (Opened n) lives items = IsLive n items × IsApart n lives × AreOpen items lives
MayHandle (Piece n piece) lives items = AreOpen items lives
MayHandle (Closed n) lives items = AreOpenBut n items lives
MayHandle Ended lives items = AreOpen items lives
