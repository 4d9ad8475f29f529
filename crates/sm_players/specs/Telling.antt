-- What a player sends, in the transcript of its wire.
use Rattle.std.specs.Prelude.{◌≡◌, ◌≢◌, ℕ, ◌+◌, ◌-◌, ◌^◌, ◌≤◌, min, Bool, true, false, IsTrue, List, [], ◌∷◌, ◌++◌, map, take, Option, IfSome}
use Rattle.sm_site.specs.Meanings.{Deal, Item, IsLive, View}
use Rattle.sm_site.specs.Meanings.Deal.{Sent, Shut}
use Rattle.sm_site.specs.Clauses.{Both}
use Rattle.sm_players.specs.declared.telling.Outcome.{Outcome}
use Rattle.sm_players.specs.declared.telling.Outcome.TheVariants.{Open, Closed, Failed}

-- the transcript goes on by entries of these deals, where it is told
abbrev pub Goes : Option (List Item) → Option (List Item) → List Deal → Type 0
Goes old new deals = Both old new (λ before now. (es : List Item) × (now ≡ before ++ es) × (map (λ (e : Item). e.deal) es ≡ deals))

-- the other connections that are open stay so
abbrev pub StaysBeside : ℕ → Option (List Item) → Option (List Item) → Type 0
StaysBeside n old new = (m : ℕ) → m ≢ n → IfSome old (IsLive m) → IfSome new (IsLive m)

-- What a turn on one connection leaves of the wire: this one is open or not, the others that are open stay so, and no fault is counted.
pub record LeavesWire (number : ℕ) (open_ : Bool) (old new : View) : Type 0 where
  pub live : IsTrue open_ → IfSome new.transcript (IsLive number)
  pub others : StaysBeside number old.transcript new.transcript
  pub link_faults : new.link_faults ≡ old.link_faults

-- what it leaves of the wire and of the way to the loop, which may have failed meanwhile
pub record LeavesBoth (number : ℕ) (open_ : Bool) (old new : View) (before now : ℕ) : Type 0 where
  pub wire : LeavesWire number open_ old new
  pub later : before ≤ now

-- bytes are told on a connection, behind which it is closed or not
pub data Tells (n : ℕ) (text : List ℕ) (close : Bool) (deals : List Deal) (result : Outcome) : Type 0 where
  -- they are sent
  sent : close ≡ false → deals ≡ Sent n text false ∷ [] → result ≡ Open → Tells n text close deals result
  -- they are sent, and the connection is closed
  closed : close ≡ true → deals ≡ Sent n text false ∷ Shut n ∷ [] → result ≡ Closed → Tells n text close deals result
  -- a part of them is sent, then the send fails, and the connection is closed
  failed : (k : ℕ) → deals ≡ Sent n (take k text) true ∷ Shut n ∷ [] → result ≡ Failed → Tells n text close deals result
  -- the send fails, and leaves no entry; the connection is closed
  unsent : deals ≡ Shut n ∷ [] → result ≡ Failed → Tells n text close deals result

abbrev pub is_open : Outcome → Bool
is_open Open = true
is_open Closed = false
is_open Failed = false

-- the count of final replies that were sent whole
abbrev pub one_more : ℕ → ℕ
one_more n = min (n + 1) (2 ^ 64 - 1)

abbrev pub counted : Outcome → ℕ → ℕ
counted Open n = one_more n
counted Closed n = one_more n
counted Failed n = n
