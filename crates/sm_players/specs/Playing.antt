-- What a player does, event by event.
use Rattle.std.specs.Prelude.{◌≡◌, ◌⊎◌, ℕ, ◌+◌, ◌<◌, ◌≤◌, Bool, true, false, List, [], ◌∷◌, ◌++◌, length, Option}
use Rattle.sm_log.specs.Digests.{Digest}
use Rattle.sm_model.specs.declared.cause.Cause.TheVariants.{TooManyConnections}
use Rattle.sm_site.specs.Meanings.{Deal, Item}
use Rattle.sm_site.specs.Meanings.Deal.{Began, Came, Left, Over, Sent, Shut}
use Rattle.sm_head.specs.declared.reply.TheConstants.{NO_MEMORY}
use Rattle.sm_conn.specs.Parts.{PartItem, IsParts}
use Rattle.sm_players.specs.declared.played.Played.{Played}
use Rattle.sm_players.specs.declared.played.Played.TheVariants.{Done, LinkFault, NoMemory}
use Rattle.sm_players.specs.declared.telling.Outcome.{Outcome}
use Rattle.sm_players.specs.Asking.{Asking, behind}
use Rattle.sm_players.specs.Telling.{Goes, Tells}
use Rattle.sm_players.specs.Replying.{refusal}
use Rattle.sm_players.specs.Taking.{Standing, Takes}
use Rattle.sm_players.specs.Open.{Known, IsNone}

-- a connection beyond the 16th is told so, or memory is wanting
abbrev pub IsCrowded : List ℕ → Type 0
IsCrowded text = (text ≡ (refusal TooManyConnections).text) ⊎ (text ≡ NO_MEMORY.now)

-- the connection with further bytes, if it is still open
abbrev pub with_bytes : Bool → Known → List ℕ → List Known
with_bytes true k bytes = (record { number = k.number; bytes = k.bytes ++ bytes }) ∷ []
with_bytes false k bytes = []

-- One event is dealt with: what is told behind it, what the loop is asked, and the live connections then.
pub data Turns (lives : List Known) (p : Standing) (deal : Deal) (told : List Deal) (asked : List Asking) (after : List Known) (q : Standing) : Type 0 where
  -- a connection begins
  opened : (n : ℕ) → deal ≡ Began n → length lives < 16 → told ≡ [] → asked ≡ []
      → after ≡ lives ++ (record { number = n; bytes = [] }) ∷ [] → q ≡ p → Turns lives p deal told asked after q
  -- where 16 are live it is refused and closed
  crowded : (n : ℕ) (text : List ℕ) (result : Outcome) → deal ≡ Began n → 16 ≤ length lives → IsCrowded text → Tells n text true told result
      → asked ≡ [] → after ≡ lives → q ≡ p → Turns lives p deal told asked after q
  -- or memory is wanting for it
  unborn : (n : ℕ) (result : Outcome) → deal ≡ Began n → Tells n NO_MEMORY.now true told result → asked ≡ [] → after ≡ lives → q ≡ p
      → Turns lives p deal told asked after q
  -- a live connection brings bytes, which have these items more: they are handled in their order
  came : (front back : List Known) (k : Known) (bytes : List ℕ) (given more : List PartItem) (open_ : Bool) → deal ≡ Came k.number bytes
      → lives ≡ front ++ k ∷ back → IsParts k.bytes given → IsParts (k.bytes ++ bytes) (given ++ more)
      → Takes k.number p more told asked open_ q → after ≡ front ++ (with_bytes open_ k bytes ++ back) → Turns lives p deal told asked after q
  -- want of memory while they are taken in gives 500 in place of their items, and closes
  unread : (front back : List Known) (k : Known) (bytes : List ℕ) (result : Outcome) → deal ≡ Came k.number bytes → lives ≡ front ++ k ∷ back
      → Tells k.number NO_MEMORY.now true told result → asked ≡ [] → after ≡ front ++ back → q ≡ p → Turns lives p deal told asked after q
  -- bytes of a connection that isn't live are passed over
  passed : (n : ℕ) (bytes : List ℕ) → deal ≡ Came n bytes → IsNone n lives → told ≡ [] → asked ≡ [] → after ≡ lives → q ≡ p
      → Turns lives p deal told asked after q
  -- the peer closes a live connection, or another
  left : (front back : List Known) (k : Known) → deal ≡ Left k.number → lives ≡ front ++ k ∷ back → told ≡ [] → asked ≡ [] → after ≡ front ++ back
      → q ≡ p → Turns lives p deal told asked after q
  left_alone : (n : ℕ) → deal ≡ Left n → IsNone n lives → told ≡ [] → asked ≡ [] → after ≡ lives → q ≡ p → Turns lives p deal told asked after q
  over : deal ≡ Over → told ≡ [] → asked ≡ [] → after ≡ lives → q ≡ p → Turns lives p deal told asked after q

-- nothing more comes
abbrev pub is_over : Deal → Bool
is_over (Began n) = false
is_over (Came n bytes) = false
is_over (Left n) = false
is_over Over = true
is_over (Sent n bytes failed) = false
is_over (Shut n) = false

-- So many events are dealt with, one after the other, and nothing comes behind one that says that nothing more comes.
pub data Plays (first : Standing) : ℕ → List Deal → List Asking → List Known → Bool → Standing → Type 0 where
  begins : (taken : ℕ) → taken ≡ 0 → Plays first taken [] [] [] false first
  goes_on : (n taken : ℕ) (ds es deals : List Deal) (xs ys asked : List Asking) (ks lives : List Known) (p last : Standing) (deal : Deal) (ended : Bool)
      → Plays first n ds xs ks false p → Turns ks p deal es ys lives last → taken ≡ n + 1 → deals ≡ ds ++ deal ∷ es → asked ≡ xs ++ ys
      → ended ≡ is_over deal → Plays first taken deals asked lives ended last

-- Done exactly where nothing more comes or so many events were taken, with the count of final replies that were sent whole. Another end comes
-- before that.
abbrev pub EndsAs : Played → ℕ → ℕ → Bool → ℕ → Type 0
EndsAs (Done answered) turns taken ended count = (answered ≡ count) × (taken ≤ turns) × ((ended ≡ true) ⊎ (taken ≡ turns))
EndsAs LinkFault turns taken ended count = (taken < turns) × (ended ≡ false)
EndsAs NoMemory turns taken ended count = (taken < turns) × (ended ≡ false)

-- where a player begins
abbrev pub start : Digest → Standing
start seen = record { seen = seen; answered = 0 }

-- A player played: from no live connection and the digest that its reader had seen, over the entries of its wire since.
pub record HasPlayed (seen seen' : Digest) (old new : Option (List Item)) (was now : Option (List Asking)) (turns : ℕ) (result : Played) : Type 0 where
  pub taken : ℕ
  pub deals : List Deal
  pub asked : List Asking
  pub lives : List Known
  pub ended : Bool
  pub last : Standing
  pub plays : Plays (start seen) taken deals asked lives ended last
  pub told : Goes old new deals
  pub asks : now ≡ behind was asked
  pub sees : last.seen ≡ seen'
  pub ends : EndsAs result turns taken ended last.answered
