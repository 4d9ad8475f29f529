-- A stream goes on.
use Rattle.std.proofs.Common.{◌≡◌, ◌<◌, ◌+◌, ℕ, true, false, List, [], ◌∷◌, ◌++◌, length, take, Option, Some, None, refl, ap, sym, ◌∙◌, subst, arith, append_assoc, append-nil, length-append}
use Rattle.std.specs.Io.KnownBytes.{Appends}
use Rattle.std.proofs.KnownBytes.{Appends-nil, Appends-trans}
use Rattle.sm_model.specs.declared.entry.Entry.{Entry}
use Rattle.sm_model.specs.declared.fragment.Fragment.{Fragment}
use Rattle.sm_model.specs.declared.run.RawFragment.{RawFragment}
use Rattle.sm_model.specs.FragText.{frag_text}
use Rattle.sm_manin.specs.declared.listing.StreamListing.{StreamListing}
use Rattle.sm_fetch.specs.declared.dial.Exchange.{Exchange}
use Rattle.sm_fetch.specs.declared.got.Got.TheVariants as got
use Rattle.sm_client.specs.declared.plan.Plan.{Plan}
use Rattle.sm_client.specs.declared.report.Miss.{Miss}
use Rattle.sm_client.specs.declared.report.End.{End}
use Rattle.sm_client.specs.declared.report.End.TheVariants as ends
use Rattle.sm_client.specs.declared.piece.Wanted.{Wanted}
use Rattle.sm_client.specs.declared.standing.Standing as code
use Rattle.sm_client.specs.declared.stream.Stream.{Stream}
use Rattle.sm_client.specs.Turns.{Meaning, Turn}
use Rattle.sm_client.specs.Starts.{has, AreAfter}
use Rattle.sm_client.specs.Stands.{Item, Piece, unread, standing, Standing, State, piece_of, wrote, wrote_by, after_piece, written_at}
use Rattle.sm_client.specs.Ends.{texts, piece_text}
use Rattle.sm_client.specs.Kept.{KeepsOn}
use Rattle.sm_client.specs.Calls.{at, Holds, HasLevels, Went, ListEnded, BegunStanding, SoughtFound, MayPiece, PieceTaken, PieceStopped, Follows, Streams, StreamsOn, StreamsEnd, StreamsBy, WritesFront}
use Rattle.sm_fetch.specs.Origins.{Grows}
use Rattle.sm_client.proofs.Went.{went-more, went-took, went-lists}
use Rattle.sm_client.proofs.Kept.{keeps-none, keeps-more}

-- ---- texts

pub texts-append : (n : ℕ) (xs ys : List Piece) → texts n (xs ++ ys) ≡ texts n xs ++ texts (n + length xs) ys
texts-append n [] ys = ap (λ k. texts k ys) (omega arith)
texts-append n (x ∷ xs) ys =
    ap (λ l. piece_text n x ++ l) (texts-append (n + 1) xs ys ∙ ap (λ k. texts (n + 1) xs ++ texts k ys) (omega arith)) ∙ sym (append_assoc (piece_text n x) (texts (n + 1) xs) (texts (n + length (x ∷ xs)) ys))

-- where a stream is listed, and the expected start is known, it may be asked for
pub may-piece : {plan : Plan} {s : code.Standing} {p : Standing} {w : Wanted} → Holds s p → s.listing ≡ Some w.listing.now → w.start ≡ s.expected → length p.written < plan.count
    → has p.expected p.known ≡ true → ((q : Standing) → Holds s q → has q.expected q.known ≡ true → (after : List ℕ) × AreAfter q.known q.expected after × (length after ≡ w.ahead))
    → MayPiece plan p w
may-piece {p = p} h is start more known counts = let c = counts p h known in record {
  last = sym h.listing ∙ is;
  expects = start ∙ h.expected;
  known = known;
  more = more;
  after = c.0;
  behind = c.1;
  counted = c.2;
}

-- nothing is listed where no start is known
pub not-listed : {s : code.Standing} {p : Standing} → Holds s p → s.listing ≡ None → has p.expected p.known ≡ true → ⊥
not-listed {p = p} h is known = let none : has p.expected p.known ≡ false = rw (h.unlisted (sym h.listing ∙ is)) refl in cc

-- the state that a fragment leads to
gave : (name : List ℕ) (p : Standing) {listing : StreamListing} (raw : RawFragment) (level : ℕ) (missed : List Miss) → p.listing ≡ Some listing
    → after_piece name (at (standing p) missed) (got.Fragment raw) level ≡ at (standing (wrote name p listing level raw)) []
gave name p raw level missed is = ap (λ l. at (standing (wrote_by name p l level raw)) []) is

pub follows : (name : List ℕ) {p : Standing} {listing : StreamListing} (raw : RawFragment) (level expected : ℕ) → p.listing ≡ Some listing → raw.time ≡ p.expected → expected ≡ raw.time + raw.duration
    → Follows p (wrote name p listing level raw) expected raw.ahead
follows name {p = p} {listing = listing} raw level expected listed time is = record {
  later = omega (arith, time, is);
  listed = refl;
  is_listed = (listing, listed);
  expects = sym is;
  knows = refl;
  more = length-append p.written (piece_of name listing level raw ∷ []);
  anew = refl;
}

written-text : (track track' : Option (List ℕ)) {name : List ℕ} {seq id : ℕ} {f : Fragment} (listing : StreamListing) (raw : RawFragment) (level : ℕ) (ps : List Piece) → seq ≡ length ps + 1 → id ≡ level + 1
    → f ≡ (piece_of name listing level raw).fragment → Appends track track' (frag_text seq id f []) → Appends track track' (texts (length ps + 1) (piece_of name listing level raw ∷ []) ++ [])
written-text track track' {name = name} {seq = seq} {id = id} {f = f} listing raw level ps same place one w =
    let one' = piece_of name listing level raw in
    let e : frag_text seq id f [] ≡ texts (length ps + 1) (one' ∷ []) ++ [] =
    ap (λ (g : Fragment). frag_text seq id g []) one ∙ (ap (λ n. frag_text n id one'.fragment []) same ∙ (ap (λ n. frag_text (length ps + 1) n one'.fragment []) place
    ∙ (sym (append-nil (piece_text (length ps + 1) one')) ∙ sym (append-nil (texts (length ps + 1) (one' ∷ [])))))) in
    let A : List ℕ → Type 0 = λ l. Appends track track' l in
    subst A e w

module _ {P : Type 0} {m : Meaning P} {plan : Plan} {name : List ℕ} where
  -- only exchanges
  pub streams-went : {start now : Turn P} {from to : State} {last : List Item} {log log' : Option (List Exchange)} {store store' : List Entry → Type 0} (track : Option (List ℕ)) → Grows store store'
      → Went m plan name start now from to last log log' → written_at to.stand ≡ written_at from.stand → Streams m plan name start now from to last [] log log' store store' track track
  streams-went {store = store} {store' = store'} track g w same = record { went = w; added = []; written = same ∙ sym (append-nil _); text = Appends-nil track; kept = keeps-none plan {s = store} {t = store'} g }

  pub streams-more : {start mid now : Turn P} {from by to : State} {last : List Item} {tail : List ℕ} {old log new : Option (List Exchange)} {store kept store' : List Entry → Type 0} {track there track' : Option (List ℕ)}
      → Streams m plan name start mid from by [] [] old log store kept track there → Streams m plan name mid now by to last tail log new kept store' there track'
      → Streams m plan name start now from to last tail old new store store' track track'
  streams-more {from = from} {by = by} {tail = tail} {store = store} {kept = kept} {store' = store'} {track = track} {there = there} {track' = track'} r s =
      let n = length (written_at from.stand) + 1 in
      let len : length (written_at by.stand) + 1 ≡ n + length r.added = omega (arith, ap length r.written, length-append (written_at from.stand) r.added) in
      record {
        went = went-more r.went s.went;
        added = r.added ++ s.added;
        written = s.written ∙ (ap (λ l. l ++ s.added) r.written ∙ append_assoc (written_at from.stand) r.added s.added);
        text =
            let first : Appends track there (texts n r.added) = rw append-nil at r.text in
            let both : Appends track track' (texts n r.added ++ (texts (length (written_at by.stand) + 1) s.added ++ tail)) = Appends-trans track there track' (texts n r.added) _ first s.text in
            let same : texts n (r.added ++ s.added) ++ tail ≡ texts n r.added ++ (texts (length (written_at by.stand) + 1) s.added ++ tail) =
            ap (λ l. l ++ tail) (texts-append n r.added s.added) ∙ (append_assoc (texts n r.added) (texts (n + length r.added) s.added) tail ∙ ap (λ k. texts n r.added ++ (texts k s.added ++ tail)) (sym len)) in
            rw same both;
        kept = keeps-more store kept store' r.added s.added r.kept s.kept;
      }

  -- ---- an end

  pub ends-lists : {from : State} {number count : ℕ} {end : End} {log log' : Option (List Exchange)} {store store' : List Entry → Type 0} (t : Turn P) (track : Option (List ℕ))
      → Grows store store' → ListEnded plan name number from end log log' → count ≡ length (written_at from.stand) → StreamsEnd m plan name number from t t count end log log' store store' track track
  ends-lists t track g e is = record {
    to = e.to;
    last = e.last;
    tail = [];
    streams = streams-went track g (went-lists m t e.went) e.written;
    ends = e.ends;
    behind = e.tail;
    counted = is ∙ ap length (sym e.written);
  }

  pub ends-more : {start mid now : Turn P} {from by : State} {number count : ℕ} {end : End} {old log new : Option (List Exchange)} {store kept store' : List Entry → Type 0} {track there track' : Option (List ℕ)}
      → Streams m plan name start mid from by [] [] old log store kept track there → StreamsEnd m plan name number by mid now count end log new kept store' there track'
      → StreamsEnd m plan name number from start now count end old new store store' track track'
  ends-more r s = record { to = s.to; last = s.last; tail = s.tail; streams = streams-more r s.streams; ends = s.ends; behind = s.behind; counted = s.counted }

  -- ---- one fragment

  pub ends-gave_up : {s : code.Standing} {p : Standing} {start now : Turn P} {outcomes : List Miss} {log log' : Option (List Exchange)}
      {store store' : List Entry → Type 0} {number count : ℕ} (track : Option (List ℕ))
      → Grows store store' → Holds s p → length p.written < plan.count → has p.expected p.known ≡ true → Went m plan name start now (at (standing p) []) (at (standing p) outcomes) [] log log' × (length outcomes ≡ plan.tries)
      → count ≡ length p.written
      → StreamsEnd m plan name number (at (standing p) []) start now count (ends.GaveUp s.expected outcomes) log log' store store' track track
  ends-gave_up {p = p} {outcomes = outcomes} track g h more known r is = record {
    to = at (standing p) outcomes;
    last = [];
    tail = [];
    streams = streams-went track g r.0 refl;
    ends = record { at = p; stands = refl; more = more; start = h.expected; known = rw h.expected known; missed = refl; all = r.1 };
    behind = record { last_is = refl; tail_is = refl };
    counted = is;
  }

  pub ends-stopped : {p : Standing} {start now : Turn P} {log log' : Option (List Exchange)} {store store' : List Entry → Type 0} {number count : ℕ} (track : Option (List ℕ))
      → Grows store store' → PieceStopped m plan name p start now log log' → count ≡ length p.written
      → StreamsEnd m plan name number (at (standing p) []) start now count ends.NoMemory log log' store store' track track
  ends-stopped {p = p} track g r is = record { to = at (standing p) r.missed; last = r.last; tail = []; streams = streams-went track g r.went refl; ends = tt; behind = refl; counted = is }

  -- the fragment came, and memory ran out before its text
  pub ends-untold : {p : Standing} {listing : StreamListing} {start now : Turn P} {raw : RawFragment} {level : ℕ} {log log' : Option (List Exchange)} {store store' : List Entry → Type 0} {number count : ℕ} (track : Option (List ℕ))
      → Grows store store' → PieceTaken m plan name p listing start now log log' raw level → count ≡ length p.written
      → StreamsEnd m plan name number (at (standing p) []) start now count ends.NoMemory log log' store store' track track
  ends-untold {p = p} track g r is = record { to = at (standing p) r.missed; last = _; tail = []; streams = streams-went track g r.went refl; ends = tt; behind = refl; counted = is }

  -- its text was written in part, or not at all
  pub ends-unwritten : {p : Standing} {listing : StreamListing} {start now : Turn P} {raw : RawFragment} {level : ℕ} {log log' : Option (List Exchange)}
      {store store' : List Entry → Type 0} {track track' : Option (List ℕ)} {number count : ℕ}
      (end : End) (seq id : ℕ) (f : Fragment) → Grows store store' → p.listing ≡ Some listing → PieceTaken m plan name p listing start now log log' raw level
      → seq ≡ length p.written + 1 → id ≡ level + 1 → f ≡ (piece_of name listing level raw).fragment → WritesFront track track' (frag_text seq id f []) end → count ≡ length p.written
      → StreamsEnd m plan name number (at (standing p) []) start now count end log log' store store' track track'
  ends-unwritten {p = p} {listing = listing} {raw = raw} {level = level} {store = store} {store' = store'} {track = track} {track' = track'} ends.WriteFault seq id f g listed r same place one w is =
      record {
        to = at (standing p) r.missed;
        last = _;
        tail = take w.0 (frag_text seq id f []);
        streams = record { went = r.went; added = []; written = sym (append-nil _); text = w.1; kept = keeps-none plan {s = store} {t = store'} g };
        ends = tt;
        behind = record {
          one = piece_of name listing level raw;
          gave = ap (λ s. written_at s.stand) (gave name p {listing = listing} raw level r.missed listed);
          count = w.0;
          front = ap (λ (g : Fragment). take w.0 (frag_text seq id g [])) one ∙ ap (λ n. take w.0 (frag_text n id (piece_of name listing level raw).fragment [])) same ∙ ap (λ n. take w.0 (frag_text (length p.written + 1) n
              (piece_of name listing level raw).fragment [])) place;
        };
        counted = is;
      }
  ends-unwritten {p = p} {store = store} {store' = store'} ends.NoMemory seq id f g listed r same place one w is =
      record {
        to = at (standing p) r.missed;
        last = _;
        tail = [];
        streams = record { went = r.went; added = []; written = sym (append-nil _); text = w; kept = keeps-none plan {s = store} {t = store'} g };
        ends = tt;
        behind = refl;
        counted = is;
      }
  ends-unwritten ends.Done seq id f g listed r same place one w is = absurd w
  ends-unwritten (ends.NoMore e) seq id f g listed r same place one w is = absurd w
  ends-unwritten (ends.Hole e n) seq id f g listed r same place one w is = absurd w
  ends-unwritten (ends.GaveUp t os) seq id f g listed r same place one w is = absurd w
  ends-unwritten (ends.NoManifest os) seq id f g listed r same place one w is = absurd w
  ends-unwritten (ends.NoStream k) seq id f g listed r same place one w is = absurd w

  -- its text was written
  wrote-streams : {p : Standing} {listing : StreamListing} {start now : Turn P} {raw : RawFragment} {level : ℕ} {log log' : Option (List Exchange)} {store store' : List Entry → Type 0} {track track' : Option (List ℕ)}
      (seq id : ℕ) (f : Fragment) → p.listing ≡ Some listing → PieceTaken m plan name p listing start now log log' raw level → KeepsOn plan store store' (piece_of name listing level raw ∷ [])
      → seq ≡ length p.written + 1 → id ≡ level + 1 → f ≡ (piece_of name listing level raw).fragment → Appends track track' (frag_text seq id f [])
      → Streams m plan name start now (at (standing p) []) (at (standing (wrote name p listing level raw)) []) [] [] log log' store store' track track'
  wrote-streams {p = p} {listing = listing} {raw = raw} {level = level} {track = track} {track' = track'} seq id f listed r kept same place one w = record {
    went = went-took _ r.went tt (gave name p raw level r.missed listed);
    added = piece_of name listing level raw ∷ [];
    written = refl;
    text = written-text track track' listing raw level p.written same place one w;
    kept = kept;
  }

  pub streams-on : {p : Standing} {listing : StreamListing} {start now : Turn P} {raw : RawFragment} {level : ℕ} {log log' : Option (List Exchange)} {store store' : List Entry → Type 0} {track track' : Option (List ℕ)}
      (new : code.Standing)
      (seq id : ℕ) (f : Fragment) → p.listing ≡ Some listing → PieceTaken m plan name p listing start now log log' raw level → KeepsOn plan store store' (piece_of name listing level raw ∷ [])
      → seq ≡ length p.written + 1 → id ≡ level + 1 → f ≡ (piece_of name listing level raw).fragment → Appends track track' (frag_text seq id f [])
      → Holds new (wrote name p listing level raw) → StreamsOn m plan name p start now new log log' store store' track track'
  streams-on {p = p} {listing = listing} {raw = raw} {level = level} new seq id f listed r kept same place one w holds = record {
    to = wrote name p listing level raw;
    holds = holds;
    more = length-append p.written (piece_of name listing level raw ∷ []);
    streams = wrote-streams seq id f listed r kept same place one w;
  }

  -- and memory ran out behind it
  pub ends-written : {p : Standing} {listing : StreamListing} {start now : Turn P} {raw : RawFragment} {level : ℕ} {log log' : Option (List Exchange)} {store store' : List Entry → Type 0} {track track' : Option (List ℕ)}
      {number count : ℕ}
      (seq id : ℕ) (f : Fragment) → p.listing ≡ Some listing → PieceTaken m plan name p listing start now log log' raw level → KeepsOn plan store store' (piece_of name listing level raw ∷ [])
      → seq ≡ length p.written + 1 → id ≡ level + 1 → f ≡ (piece_of name listing level raw).fragment → Appends track track' (frag_text seq id f []) → count ≡ length p.written + 1
      → StreamsEnd m plan name number (at (standing p) []) start now count ends.NoMemory log log' store store' track track'
  ends-written {p = p} {listing = listing} {raw = raw} {level = level} seq id f listed r kept same place one w is = record {
    to = at (standing (wrote name p listing level raw)) [];
    last = [];
    tail = [];
    streams = wrote-streams seq id f listed r kept same place one w;
    ends = tt;
    behind = refl;
    counted = is ∙ sym (length-append p.written (piece_of name listing level raw ∷ []));
  }

-- ---- seeking, and then one fragment

sought-streams : {P : Type 0} {plan : Plan} {name : List ℕ} {p : Standing} {s : code.Standing} {log log' : Option (List Exchange)} {store store' : List Entry → Type 0}
    (m : Meaning P) (t : Turn P) (track : Option (List ℕ)) → Grows store store' → (f : SoughtFound plan name p s log log')
    → Streams m plan name t t (at (standing p) []) (at (standing f.to) []) [] [] log log' store store' track track
sought-streams m t track g f = streams-went track g (went-lists m t f.went) f.written

pub sought-on : {P C T : Type 0} {s : code.Standing} (m : Meaning P) (st : Stream) (then : code.Standing) (t now : Turn P) (log : C → Option (List Exchange)) (store : C → List Entry → Type 0)
    (d mid d' : C) (held : T → ℕ → Option (List ℕ)) (tracks tracks' : T)
    (r : Option End) (p : Standing) → Grows (store d) (store mid) → length p.written < st.plan.now.count → SoughtFound st.plan.now st.name.now p s (log d) (log mid)
    → ((q : Standing) → Holds s q → length q.written < st.plan.now.count → has q.expected q.known ≡ true → StreamsBy m st q t now then log store mid d' held tracks tracks' r)
    → StreamsBy m st p t now then log store d d' held tracks tracks' r
sought-on m st then t now log store d mid d' held tracks tracks' r p g more f added = by r (added f.to f.holds (rw f.written more) f.known)
  where
    by : (r : Option End) → StreamsBy m st f.to t now then log store mid d' held tracks tracks' r → StreamsBy m st p t now then log store d d' held tracks tracks' r
    by None b = record {
      to = b.to;
      holds = b.holds;
      more = b.more ∙ ap (λ l. length l + 1) f.written;
      streams = streams-more (sought-streams m t (held tracks st.number) g f) b.streams;
    }
    by (Some end) b = ends-more (sought-streams m t (held tracks st.number) g f) b

-- ---- the whole stream

-- so many fragments were written
pub record Streaming {P : Type 0} (m : Meaning P) (plan : Plan) (name : List ℕ) (start now : Turn P) (s : code.Standing) (count : ℕ)
    (log log' : Option (List Exchange)) (store store' : List Entry → Type 0) (track track' : Option (List ℕ)) : Type 0 where
  pub to : Standing
  pub holds : Holds s to
  pub counted : length to.written ≡ count
  pub streams : Streams m plan name start now (at unread []) (at (standing to) []) [] [] log log' store store' track track'

pub streaming-start : {P : Type 0} {plan : Plan} {name : List ℕ} {s : code.Standing} {log log' : Option (List Exchange)} {store store' : List Entry → Type 0}
    (m : Meaning P) (t : Turn P) (track : Option (List ℕ)) → Grows store store' → BegunStanding plan name s log log'
    → Streaming m plan name t t s 0 log log' store store' track track
streaming-start m t track g b = record { to = b.to; holds = b.holds; counted = ap length b.written; streams = streams-went track g (went-lists m t b.went) b.written }

pub streaming-more : {P : Type 0} {m : Meaning P} {plan : Plan} {name : List ℕ} {start mid now : Turn P} {s then : code.Standing} {count : ℕ} {old log new : Option (List Exchange)} {store kept store' : List Entry → Type 0}
    {track there track' : Option (List ℕ)}
    → (k : Streaming m plan name start mid s count old log store kept track there) → count < plan.count → StreamsOn m plan name k.to mid now then log new kept store' there track'
    → Streaming m plan name start now then (count + 1) old new store store' track track'
streaming-more k fits b = record { to = b.to; holds = b.holds; counted = b.more ∙ ap (λ n. n + 1) k.counted; streams = streams-more k.streams b.streams }

pub streaming-ended : {P : Type 0} {m : Meaning P} {plan : Plan} {name : List ℕ} {start mid now : Turn P} {s : code.Standing} {count number written : ℕ} {end : End} {old log new : Option (List Exchange)}
    {store kept store' : List Entry → Type 0} {track there track' : Option (List ℕ)}
    → (k : Streaming m plan name start mid s count old log store kept track there) → StreamsEnd m plan name number (at (standing k.to) []) mid now written end log new kept store' there track'
    → StreamsEnd m plan name number (at unread []) start now written end old new store store' track track'
streaming-ended k e = ends-more k.streams e

pub streaming-done : {P : Type 0} {m : Meaning P} {plan : Plan} {name : List ℕ} {start now : Turn P} {s : code.Standing} {count : ℕ} {old new : Option (List Exchange)} {store store' : List Entry → Type 0}
    {track track' : Option (List ℕ)} (number : ℕ)
    → Streaming m plan name start now s count old new store store' track track' → count ≡ plan.count → StreamsEnd m plan name number (at unread []) start now s.written ends.Done old new store store' track track'
streaming-done number k all = record {
  to = at (standing k.to) [];
  last = [];
  tail = [];
  streams = k.streams;
  ends = record { at = k.to; stands = refl; all = k.counted ∙ all };
  behind = record { last_is = refl; tail_is = refl };
  counted = k.holds.written;
}

pub begun-levels : {plan : Plan} {name : List ℕ} {s : code.Standing} {log log' : Option (List Exchange)} → BegunStanding plan name s log log' → HasLevels s.listing
begun-levels b = rw b.holds.listing b.holds.levels

pub begun-written : {plan : Plan} {name : List ℕ} {s : code.Standing} {log log' : Option (List Exchange)} → BegunStanding plan name s log log' → s.written ≡ 0
begun-written b = b.holds.written ∙ ap length b.written
