-- Events that were taken.
use Rattle.std.proofs.Common.{◌≡◌, ◌≢◌, ℕ, ◌<◌, Bool, true, false, ◌==◌, if◌then◌else◌, List, [], ◌∷◌, ◌++◌, length, get_or, refl, sym, ◌∙◌, ap, subst}
use Rattle.std.specs.Prelude.{slice_set}
use Rattle.std.specs.List.{remove}
use Rattle.std.proofs.lemmas.Bool.{eq-eqb, ne_eqb}
use Rattle.sm_site.specs.Meanings.{Seen}
use Rattle.sm_site.specs.Meanings.Deal.{Began, Came, Left, Over}
use Rattle.sm_origin.specs.declared.origin.Origin.{Origin}
use Rattle.sm_serve.specs.Standing.{StandsOn}
use Rattle.sm_serve.specs.declared.live.Live.{Live}
use Rattle.sm_serve.specs.declared.state.State.{State}
use Rattle.sm_serve.specs.Connections.{received, live, without, is_among, AreDistinct, deals_in}
use Rattle.sm_serve.specs.Run.{Counts, no_counts, Point, Moves, idle, passed, left, over, at, at_event}
use Rattle.sm_serve.specs.Standing.{History, Pending, moved, Follows, Reaches}
use Rattle.sm_serve.proofs.Lasting.{on_behind, on_moved}
use Rattle.sm_serve.specs.Resting.{Rests, counts_of, IsNewborn}
use Rattle.sm_serve.specs.Giving.{PieceGives}
use Rattle.sm_serve.specs.Serving.{numbers_of, IsResting, AreResting, IsAtRest, Turns, Forgets}
use Rattle.sm_serve.proofs.Transcripts.{received_push, live_push, deals_push}
use Rattle.sm_serve.proofs.Lives.{rest_others, rest_push, push_numbers, set_numbers, remove_numbers, live_distinct, rest_set, rest_remove, rest_all, without_none}

-- a resting connection whose bytes and counts are the same
pub same_rest : (h k : History) (l : Live) → received l.number k.items ≡ received l.number h.items → k.point.counts l.number ≡ h.point.counts l.number → IsResting h l → IsResting k l
same_rest h k l bytes counts rest = record { rests = subst (λ (b : List ℕ). Rests l b) (sym bytes) rest.rests; counts = counts ∙ rest.counts }

pub other_bytes : (j n m : ℕ) (piece : List ℕ) (h : History) → j ≢ n → received j (h.items ++ at m (Came n piece)) ≡ received j h.items
other_bytes j n m piece h other =
    received_push j h.items (record { moment = m; deal = Came n piece }) ∙ ap (λ (b : Bool). if b then received j h.items ++ piece else received j h.items) (ne_eqb n j (λ e. other (sym e)))

pub these_bytes : (n m : ℕ) (piece : List ℕ) (h : History) → received n (h.items ++ at m (Came n piece)) ≡ received n h.items ++ piece
these_bytes n m piece h =
    received_push n h.items (record { moment = m; deal = Came n piece }) ∙ ap (λ (b : Bool). if b then received n h.items ++ piece else received n h.items) (eq-eqb n n refl)

pub distinct_numbers : (h : History) (ls : List Live) → numbers_of ls ≡ live h.items → AreDistinct (numbers_of ls)
distinct_numbers h ls is = subst (λ (ns : List ℕ). AreDistinct ns) (sym is) (live_distinct h.items)

module _ {D : Type 0} (site : Seen D) where
  others_after : (h k : History) (m n : ℕ) (piece : List ℕ) (q : Point) (r : Bool) → q.counts ≡ h.point.counts → Follows n r (moved h (at m (Came n piece)) q) k
      → (l : Live) → l.number ≢ n → IsResting h l → IsResting k l
  others_after h k m n piece q r counts follows l other rest =
      same_rest h k l (follows.received l.number ∙ other_bytes l.number n m piece h other) (follows.counts l.number other ∙ ap (λ (f : ℕ → Counts). f l.number) counts) rest

  now_resting : (h k : History) (m n : ℕ) (piece : List ℕ) (q : Point) (new : Live) → Follows n true (moved h (at m (Came n piece)) q) k → new.number ≡ n → Rests new (received n h.items ++ piece)
      → k.point.counts n ≡ counts_of new → IsResting k new
  now_resting h k m n piece q new follows number rests counts = record {
    rests = subst (λ (b : List ℕ). Rests new b) (sym (ap (λ (j : ℕ). received j k.items) number ∙ follows.received n ∙ these_bytes n m piece h)) rests;
    counts = ap (λ (j : ℕ). k.point.counts j) number ∙ counts;
  }

  pub taken_open : (h : History) (m n i : ℕ) (piece : List ℕ) (old : List Live) (new : Live) (state : State) (e : D) → AreResting h old → numbers_of old ≡ live h.items → i < length old → get_or (numbers_of old) i 0 ≡ n
      → new.number ≡ n → state.lives.items ≡ slice_set old i new → PieceGives site h m piece n true new state.origin e → (j : ℕ) → n ≡ j → Turns site h (Came j piece ∷ []) state e
  taken_open h m n i piece old new state e rest numbers within is number lives gives j same =
      let r = gives.reaches in
      let k = r.later in
      let same_live : live k.items ≡ live h.items = r.follows.live ∙ live_push h.items (record { moment = m; deal = Came n piece }) in
      record {
        later = k;
        serves = record {
          keeps = r.keeps;
          rest = record {
            stands = r.stands;
            phase_is = r.phase_is;
            numbers = ap numbers_of lives ∙ set_numbers old i new within (number ∙ sym is) ∙ numbers ∙ sym same_live;
            resting = subst (λ (ls : List Live). AreResting k ls) (sym lives)
                (rest_set h k n (others_after h k m n piece gives.from true gives.from_counts r.follows) old i new (distinct_numbers h old numbers) within is
                (now_resting h k m n piece gives.from new r.follows number (gives.rests refl) (r.counts_are refl)) rest);
          };
        };
        since = record { first = r.follows.first; begin = r.follows.begin; base = r.follows.base; found = r.follows.found; on = on_behind false h k _ _ gives.move r.follows.on };
        taken = r.follows.deals ∙ deals_push h.items _ ∙ ap (λ (l : ℕ). deals_in h.items ++ Came l piece ∷ []) same;
        no_ladder = r.follows.no_ladder;
      }

  pub taken_shut : (h : History) (m n i : ℕ) (piece : List ℕ) (old : List Live) (new : Live) (state : State) (e : D) → AreResting h old → numbers_of old ≡ live h.items → i < length old → get_or (numbers_of old) i 0 ≡ n
      → state.lives.items ≡ remove old i → PieceGives site h m piece n false new state.origin e → (j : ℕ) → n ≡ j → Turns site h (Came j piece ∷ []) state e
  taken_shut h m n i piece old new state e rest numbers within is lives gives j same =
      let r = gives.reaches in
      let k = r.later in
      let less_live : live k.items ≡ without n (live h.items) = r.follows.live ∙ ap (without n) (live_push h.items (record { moment = m; deal = Came n piece })) in
      record {
        later = k;
        serves = record {
          keeps = r.keeps;
          rest = record {
            stands = r.stands;
            phase_is = r.phase_is;
            numbers = ap numbers_of lives ∙ remove_numbers old i n (distinct_numbers h old numbers) within is ∙ ap (without n) numbers ∙ sym less_live;
            resting = subst (λ (ls : List Live). AreResting k ls) (sym lives)
                (rest_remove h k n (others_after h k m n piece gives.from false gives.from_counts r.follows) old i (distinct_numbers h old numbers) within is rest);
          };
        };
        since = record { first = r.follows.first; begin = r.follows.begin; base = r.follows.base; found = r.follows.found; on = on_behind false h k _ _ gives.move r.follows.on };
        taken = r.follows.deals ∙ deals_push h.items _ ∙ ap (λ (l : ℕ). deals_in h.items ++ Came l piece ∷ []) same;
        no_ladder = r.follows.no_ladder;
      }

  -- a piece of a connection that isn't live
  pub piece_passed : (h : History) (m n : ℕ) (piece : List ℕ) (state : State) (d : D) → Pending site h m (Came n piece) d → IsAtRest site h state d → is_among n (numbers_of state.lives.items) ≡ false
      → Turns site h (Came n piece ∷ []) state d
  piece_passed h m n piece state d pending rest none =
      let q = at_event h.point idle m in
      let k = moved h (at m (Came n piece)) q in
      let gone : is_among n (live h.items) ≡ false = subst (λ (ns : List ℕ). is_among n ns ≡ false) rest.numbers none in
      record {
        later = k;
        serves = record {
          keeps = pending q (passed m n piece rest.phase_is gone refl refl refl) refl refl refl refl;
          rest = record {
            stands = rest.stands;
            phase_is = refl;
            numbers = rest.numbers ∙ sym (live_push h.items (record { moment = m; deal = Came n piece }));
            resting = rest_others h k n (λ l other was. same_rest h k l (other_bytes l.number n m piece h other) refl was) state.lives.items none rest.resting;
          };
        };
        since = record { first = refl; begin = refl; base = refl; found = refl; on = on_moved false h (at m (Came n piece)) q (passed m n piece rest.phase_is gone refl refl refl) };
        taken = deals_push h.items _;
        no_ladder = refl;
      }

began_others : (j n m : ℕ) (h : History) → j ≢ n → received j (h.items ++ at m (Began n)) ≡ received j h.items
began_others j n m h other =
    received_push j h.items (record { moment = m; deal = Began n }) ∙ ap (λ (b : Bool). if b then [] else received j h.items) (ne_eqb n j (λ e. other (sym e)))

began_itself : (n m : ℕ) (h : History) → received n (h.items ++ at m (Began n)) ≡ []
began_itself n m h =
    received_push n h.items (record { moment = m; deal = Began n }) ∙ ap (λ (b : Bool). if b then [] else received n h.items) (eq-eqb n n refl)

began_live : (n m : ℕ) (h : History) → is_among n (live h.items) ≡ false → live (h.items ++ at m (Began n)) ≡ live h.items ++ n ∷ []
began_live n m h none = live_push h.items (record { moment = m; deal = Began n }) ∙ ap (λ (ns : List ℕ). ns ++ n ∷ []) (without_none n (live h.items) none)

without_last : (n : ℕ) (ns : List ℕ) → without n (ns ++ n ∷ []) ≡ without n ns
without_last n [] = ap (λ (b : Bool). if b then [] else n ∷ []) (eq-eqb n n refl)
without_last n (j ∷ ns) = ap (λ (ks : List ℕ). if j == n then ks else j ∷ ks) (without_last n ns)

module _ {D : Type 0} (site : Seen D) where
  -- a connection that was opened and closed again
  pub opened_shut : (told : Bool) (h : History) (m n : ℕ) (q : Point) (counts : Counts) (state : State) (e : D) → numbers_of state.lives.items ≡ live h.items → AreResting h state.lives.items → is_among n (live h.items) ≡ false
      → Moves told h.items h.point (at m (Began n)) [] q
      → ((j : ℕ) → j ≢ n → q.counts j ≡ h.point.counts j) → Reaches site (moved h (at m (Began n)) q) n false idle counts state.origin e → Turns site h (Began n ∷ []) state e
  opened_shut told h m n q counts state e numbers rest none move others r =
      let k = r.later in
      let same_live : live k.items ≡ live h.items = r.follows.live ∙ ap (without n) (began_live n m h none) ∙ without_last n (live h.items) ∙ without_none n (live h.items) none in
      record {
        later = k;
        serves = record {
          keeps = r.keeps;
          rest = record {
            stands = r.stands;
            phase_is = r.phase_is;
            numbers = numbers ∙ sym same_live;
            resting = rest_others h k n (λ l other was. same_rest h k l (r.follows.received l.number ∙ began_others l.number n m h other) (r.follows.counts l.number other ∙ others l.number other) was)
                state.lives.items (subst (λ (ns : List ℕ). is_among n ns ≡ false) (sym numbers) none) rest;
          };
        };
        since = record { first = r.follows.first; begin = r.follows.begin; base = r.follows.base; found = r.follows.found; on = on_behind told h k _ _ move r.follows.on };
        taken = r.follows.deals ∙ deals_push h.items _;
        no_ladder = r.follows.no_ladder;
      }

  -- a connection that was taken in
  pub opened_open : (told : Bool) (h : History) (m n : ℕ) (q : Point) (old : List Live) (new : Live) (state : State) (e : D) → numbers_of old ≡ live h.items → AreResting h old → is_among n (live h.items) ≡ false
      → Moves told h.items h.point (at m (Began n)) [] q
      → ((j : ℕ) → j ≢ n → q.counts j ≡ h.point.counts j) → IsNewborn n new → state.lives.items ≡ old ++ new ∷ [] → Reaches site (moved h (at m (Began n)) q) n true idle no_counts state.origin e
      → Turns site h (Began n ∷ []) state e
  opened_open told h m n q old new state e numbers rest none move others born lives r =
      let k = r.later in
      let more_live : live k.items ≡ live h.items ++ n ∷ [] = r.follows.live ∙ began_live n m h none in
      let resting_old = rest_others h k n (λ l other was. same_rest h k l (r.follows.received l.number ∙ began_others l.number n m h other) (r.follows.counts l.number other ∙ others l.number other) was)
      old (subst (λ (ns : List ℕ). is_among n ns ≡ false) (sym numbers) none) rest in
      let bytes : received new.number k.items ≡ [] = ap (λ (j : ℕ). received j k.items) born.number_is ∙ r.follows.received n ∙ began_itself n m h in
      let now : IsResting k new = record {
        rests = subst (λ (b : List ℕ). Rests new b) (sym bytes) born.rests;
        counts = ap (λ (j : ℕ). k.point.counts j) born.number_is ∙ r.counts_are refl ∙ sym born.counts;
      } in
      record {
        later = k;
        serves = record {
          keeps = r.keeps;
          rest = record {
            stands = r.stands;
            phase_is = r.phase_is;
            numbers = ap numbers_of lives ∙ push_numbers old new ∙ ap (λ (j : ℕ). numbers_of old ++ j ∷ []) born.number_is ∙ ap (λ (ns : List ℕ). ns ++ n ∷ []) numbers ∙ sym more_live;
            resting = subst (λ (ls : List Live). AreResting k ls) (sym lives) (rest_push k old new resting_old now);
          };
        };
        since = record { first = r.follows.first; begin = r.follows.begin; base = r.follows.base; found = r.follows.found; on = on_behind told h k _ _ move r.follows.on };
        taken = r.follows.deals ∙ deals_push h.items _;
        no_ladder = r.follows.no_ladder;
      }

  -- ---- events without a call

  left_bytes : (j n m : ℕ) (h : History) → received j (h.items ++ at m (Left n)) ≡ received j h.items
  left_bytes j n m h = received_push j h.items (record { moment = m; deal = Left n })

  pub was_left : (h : History) (m n : ℕ) (old new : State) (d : D) → Pending site h m (Left n) d → IsAtRest site h old d → Forgets n old new → Turns site h (Left n ∷ []) new d
  was_left h m n old new d pending rest forgets =
      let q = at_event h.point idle m in
      let k = moved h (at m (Left n)) q in
      let distinct = distinct_numbers h old.lives.items rest.numbers in
      record {
        later = k;
        serves = record {
          keeps = pending q (left m n rest.phase_is refl refl refl) refl refl refl refl;
          rest = record {
            stands = subst (λ (o : Origin). StandsOn site h.point.machine o d) (sym forgets.origin) rest.stands;
            phase_is = refl;
            numbers = forgets.numbers distinct ∙ ap (without n) rest.numbers ∙ sym (live_push h.items (record { moment = m; deal = Left n }));
            resting = forgets.resting h k (λ l other was. same_rest h k l (left_bytes l.number n m h) refl was) distinct rest.resting;
          };
        };
        since = record { first = refl; begin = refl; base = refl; found = refl; on = on_moved false h (at m (Left n)) q (left m n rest.phase_is refl refl refl) };
        taken = deals_push h.items _;
        no_ladder = refl;
      }

  pub was_over : (h : History) (m : ℕ) (state : State) (d : D) → Pending site h m Over d → IsAtRest site h state d → Turns site h (Over ∷ []) state d
  was_over h m state d pending rest =
      let q = at_event h.point idle m in
      let k = moved h (at m Over) q in
      record {
        later = k;
        serves = record {
          keeps = pending q (over m rest.phase_is refl refl refl) refl refl refl refl;
          rest = record {
            stands = rest.stands;
            phase_is = refl;
            numbers = rest.numbers ∙ sym (live_push h.items (record { moment = m; deal = Over }));
            resting = rest_all h k (λ l was. same_rest h k l (received_push l.number h.items (record { moment = m; deal = Over })) refl was) state.lives.items rest.resting;
          };
        };
        since = record { first = refl; begin = refl; base = refl; found = refl; on = on_moved false h (at m Over) q (over m rest.phase_is refl refl refl) };
        taken = deals_push h.items _;
        no_ladder = refl;
      }
