-- What a connection sent, answered.
use Rattle.std.specs.Prelude.{◌≡◌, ℕ, Bool, true, false, List, [], ◌∷◌, ◌++◌}
use Rattle.sm_log.specs.Digests.{Digest}
use Rattle.sm_site.specs.Meanings.{Deal}
use Rattle.sm_head.specs.declared.reply.TheConstants.{NO_MEMORY}
use Rattle.sm_conn.specs.Parts.{PartItem, continued}
use Rattle.sm_conn.specs.Stands.{StandsFor}
use Rattle.sm_players.specs.declared.live.Live.{Live}
use Rattle.sm_players.specs.declared.replying.Final.{Final}
use Rattle.sm_players.specs.declared.telling.Outcome.{Outcome}
use Rattle.sm_players.specs.Asking.{Asking}
use Rattle.sm_players.specs.Telling.{Tells, is_open, counted}
use Rattle.sm_players.specs.Replying.{IsReplied, IsStarved}

-- the digest that was seen last, and how many final replies were sent whole
pub record Standing : Type 0 where
  pub seen : Digest
  pub answered : ℕ

-- One item of a connection is handled, or memory is wanting for what comes next: what is told, what the loop is asked, and whether the
-- connection is still open.
pub data Handles (n : ℕ) (p : Standing) (items : List PartItem) (told : List Deal) (asked : List Asking) (open_ : Bool) (q : Standing) : Type 0 where
  -- a client that waits for leave to send a body gets no reply but the final one to its head, which comes next
  skips : items ≡ continued ∷ [] → told ≡ [] → asked ≡ [] → open_ ≡ true → q ≡ p → Handles n p items told asked open_ q
  -- a request gets its final reply
  replies : (item : PartItem) (f : Final) (result : Outcome) → items ≡ item ∷ [] → IsReplied p.seen item q.seen asked f
      → Tells n f.text f.close told result → open_ ≡ is_open result → q.answered ≡ counted result p.answered
      → Handles n p items told asked open_ q
  -- want of memory gives 500 in place of what comes next, and closes
  starves : (result : Outcome) → IsStarved p.seen items q.seen asked → Tells n NO_MEMORY.now true told result → open_ ≡ false
      → q.answered ≡ p.answered → Handles n p items told asked open_ q

-- Items of a connection are handled one after the other, up to where it is closed.
pub data Takes (n : ℕ) (p : Standing) : List PartItem → List Deal → List Asking → Bool → Standing → Type 0 where
  nothing : Takes n p [] [] [] true p
  next : (was more items : List PartItem) (ds es told : List Deal) (xs ys asked : List Asking) (open_ : Bool) (r q : Standing) → Takes n p was ds xs true r
      → Handles n r more es ys open_ q → items ≡ was ++ more → told ≡ ds ++ es → asked ≡ xs ++ ys → Takes n p items told asked open_ q
  -- what comes behind a reply that closes is passed over
  stops : (was rest items : List PartItem) (told : List Deal) (asked : List Asking) (q : Standing) → Takes n p was told asked false q → items ≡ was ++ rest
      → Takes n p items told asked false q

abbrev pub standing : Digest → ℕ → Standing
standing seen answered = record { seen = seen; answered = answered }

-- A piece of a live connection was taken in and answered: what the bytes give with it beyond what they gave, or memory was wanting for it.
pub data PieceGives (n : ℕ) (p : Standing) (bytes : List ℕ) (given : List PartItem) (piece : List ℕ) (told : List Deal) (asked : List Asking)
    (open_ : Bool) (live : Live) (q : Standing) : Type 0 where
  taken : (more : List PartItem) → StandsFor live.conn (bytes ++ piece) (given ++ more) → Takes n p more told asked open_ q
      → PieceGives n p bytes given piece told asked open_ live q
  unread : (result : Outcome) → Tells n NO_MEMORY.now true told result → asked ≡ [] → open_ ≡ false → q ≡ p
      → PieceGives n p bytes given piece told asked open_ live q
