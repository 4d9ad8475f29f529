-- A piece that was taken.
use Rattle.std.proofs.Common.{◌≡◌, ℕ, Bool, true, false, List, [], ◌++◌, Option, Some, None, refl, sym, ◌∙◌, ap, subst, append_assoc}
use Rattle.std.proofs.lemmas.List.{append-nil}
use Rattle.std.specs.Prelude.{map}
use Rattle.sm_site.specs.Meanings.{Seen}
use Rattle.sm_site.specs.Meanings.Deal.{Came}
use Rattle.sm_model.specs.declared.cause.Refusal.{Refusal}
use Rattle.sm_push.specs.Body.{body}
use Rattle.sm_push.specs.Standing.{Standing}
use Rattle.sm_conn.specs.Parts.{PartItem}
use Rattle.sm_wire.specs.declared.item.WireItem.{WireItem}
use Rattle.sm_wire.specs.Wire.{wire, Left, pushed, shown}
use Rattle.sm_wire.proofs.WireLaw.{same_rest}
use Rattle.sm_conn.specs.declared.conn.Conn.{Conn}
use Rattle.sm_conn.specs.Stands.{StandsFor as Gave}
use Rattle.sm_origin.specs.declared.origin.Origin.{Origin}
use Rattle.sm_serve.specs.declared.live.Live.{Live}
use Rattle.sm_head.specs.declared.reply.TheConstants.{NO_MEMORY}
use Rattle.sm_serve.specs.Connections.{received, is_open}
use Rattle.sm_serve.specs.Run.{Counts, Moves, idle, acting, sending, came, unread, done, at, at_event, in_phase}
use Rattle.sm_serve.specs.declared.handler.Handler.{Handler}
use Rattle.sm_serve.specs.declared.still.Still.{Still}
use Rattle.sm_serve.specs.declared.still.Still.TheVariants.{Open, Closed}
use Rattle.sm_serve.specs.Standing.{History, Keeps, Pending, moved, Reaches, is_told, stays_open}
use Rattle.sm_serve.specs.Resting.{counts_of, PlaceIs, Rests}
use Rattle.sm_serve.specs.Giving.{PartGives, PieceGives}
use Rattle.sm_serve.proofs.Going.{silent_move, paused}
use Rattle.sm_serve.proofs.Sending.{follows_then}
use Rattle.sm_serve.proofs.Reaching.{follows_itself}
use Rattle.sm_serve.proofs.Lasting.{on_paused}
use Rattle.sm_serve.proofs.Giving.{place_clear}

-- nothing is left where no part is left
none_left : (push : Option Standing) (place : Option (List ℕ)) (left : List WireItem) → PlaceIs push place → Left place [] left → left ≡ []
unfolding wire
none_left push None left is l = sym l
none_left push (Some b) left is l =
    let clear = place_clear push b is in
    let none : map shown (body false b).items ++ [] ≡ map shown (body false b).items ++ left = sym (ap (λ (r : Option Refusal). pushed (body false b) r []) clear) ∙ l in
    sym (same_rest (map shown (body false b).items) [] left none)

module _ {D : Type 0} (site : Seen D) where
  -- the run awaits the next event
  pub rests_now : (h : History) (n : ℕ) (left : List WireItem) (counts : Counts) (origin : Origin) (d : D) → left ≡ [] → Reaches site h n true (acting n left) counts origin d
      → Reaches site h n true idle counts origin d
  rests_now h n left counts origin d none was =
      let k = was.later in
      let phase : k.point.phase ≡ acting n [] = was.phase_is ∙ ap (acting n) none in
      record {
        later = paused site k (in_phase k.point idle);
        keeps = silent_move site k d (in_phase k.point idle) was.keeps (done n phase refl refl refl) refl refl refl refl;
        stands = was.stands;
        follows = follows_then n true h k (paused site k (in_phase k.point idle)) was.follows (follows_itself n k (paused site k (in_phase k.point idle)) refl refl refl refl refl
            (on_paused false k (in_phase k.point idle) (done n phase refl refl refl)) (λ j other. refl) refl);
        phase_is = refl;
        counts_are = was.counts_are;
      }

  -- what was read of a piece
  pub came_move : (told : Bool) (h : History) (m n : ℕ) (piece : List ℕ) (live : Live) (conn : Conn) (ps : List PartItem) → h.point.phase ≡ idle → is_open n h.items ≡ true
      → (rests : Rests live (received n h.items)) → Gave conn (received n h.items ++ piece) (rests.parts ++ ps) → (items : List WireItem) → Left rests.place (ps ++ []) items
      → Moves told h.items h.point (at m (Came n piece)) [] (at_event h.point (acting n items) m)
  came_move told h m n piece live conn ps phase is_live rests gave items left =
      let all : wire None (rests.parts ++ ps) ≡ wire None rests.parts ++ items = ap (λ (qs : List PartItem). wire None (rests.parts ++ qs)) (sym (append-nil ps)) ∙ rests.later (ps ++ []) items left in
      came m n piece (wire None rests.parts) items phase is_live refl refl (rests.parts, (_, rests.stands), refl) (rests.parts ++ ps, (_, gave), sym all) refl

  pub read_move : (h : History) (m n : ℕ) (piece : List ℕ) (live : Live) (conn : Conn) (ps : List PartItem) (d : D) → Pending site h m (Came n piece) d → h.point.phase ≡ idle → is_open n h.items ≡ true
      → (rests : Rests live (received n h.items)) → Gave conn (received n h.items ++ piece) (rests.parts ++ ps) → (items : List WireItem) → Left rests.place (ps ++ []) items
      → Keeps site (moved h (at m (Came n piece)) (at_event h.point (acting n items) m)) d
  read_move h m n piece live conn ps d pending phase is_live rests gave items left =
      pending (at_event h.point (acting n items) m) (came_move (is_told (site.view d)) h m n piece live conn ps phase is_live rests gave items left) refl refl refl refl

  pub unread_move : (h : History) (m n : ℕ) (piece : List ℕ) (d : D) → Pending site h m (Came n piece) d → h.point.phase ≡ idle → is_open n h.items ≡ true
      → Keeps site (moved h (at m (Came n piece)) (at_event h.point (sending n NO_MEMORY.now true []) m)) d
  unread_move h m n piece d pending phase is_live = pending (at_event h.point (sending n NO_MEMORY.now true []) m) (unread m n piece phase is_live refl refl refl) refl refl refl refl

  -- what a handler leaves is what its connection, origin and site are then
  pub piece_left : (h : History) (m n : ℕ) (piece : List ℕ) (is_open : Bool) {live now : Live} {origin after : Origin} {d e : D} → live ≡ now → origin ≡ after → d ≡ e
      → PieceGives site h m piece n is_open live origin d → PieceGives site h m piece n is_open now after e
  piece_left h m n piece is_open {live} {now} {origin} {after} {d} {e} same_live same_origin same_site gives =
      subst (λ (x : D). PieceGives site h m piece n is_open now after x) same_site
      (subst (λ (o : Origin). PieceGives site h m piece n is_open now o d) same_origin
      (subst (λ (l : Live). PieceGives site h m piece n is_open l origin d) same_live gives))

  -- the connection rests behind the piece
  pub piece_gives : (h : History) (m n : ℕ) (piece : List ℕ) (old : Live) (r : Still) (ps : List PartItem) (items : List WireItem) (new : Handler D) (rests : Rests old (received n h.items))
      → Gave new.live.now.conn (received n h.items ++ piece) (rests.parts ++ ps) → Moves false h.items h.point (at m (Came n piece)) [] (at_event h.point (acting n items) m)
      → PartGives site (moved h (at m (Came n piece)) (at_event h.point (acting n items) m)) n r rests.place ps [] new
      → PieceGives site h m piece n (stays_open r) new.live.now new.origin.now new.site.now
  piece_gives h m n piece old Closed ps items new rests gave move gives = record {
    from = at_event h.point (acting n items) m;
    from_counts = refl;
    move = move;
    reaches = gives;
    rests = λ t. absurd (cc);
  }
  piece_gives h m n piece old Open ps items new rests gave move gives =
      let none : gives.left ≡ [] = none_left new.live.now.push gives.after gives.left gives.after_is gives.left_is in
      let all : wire None (rests.parts ++ ps) ≡ wire None rests.parts ++ gives.given =
      ap (λ (qs : List PartItem). wire None (rests.parts ++ qs)) (sym (append-nil ps))
      ∙ rests.later (ps ++ []) (gives.given ++ gives.left) (gives.on [] gives.left gives.left_is)
      ∙ ap (λ (ws : List WireItem). wire None rests.parts ++ (gives.given ++ ws)) none ∙ ap (λ (ws : List WireItem). wire None rests.parts ++ ws) (append-nil gives.given) in
      record {
        from = at_event h.point (acting n items) m;
        from_counts = refl;
        move = move;
        reaches = rests_now (moved h (at m (Came n piece)) (at_event h.point (acting n items) m)) n gives.left (counts_of new.live.now) new.origin.now new.site.now none gives.reaches;
        rests = λ t. record {
          parts = rests.parts ++ ps;
          stands = gave;
          place = gives.after;
          place_is = gives.after_is;
          later = λ qs ws l.
              ap (wire None) (append_assoc rests.parts ps qs) ∙ rests.later (ps ++ qs) (gives.given ++ ws) (gives.on qs ws l)
              ∙ sym (append_assoc (wire None rests.parts) gives.given ws) ∙ ap (λ (us : List WireItem). us ++ ws) (sym all);
        };
      }
