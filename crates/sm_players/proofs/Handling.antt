-- Items that are handled, one after the other.
use Rattle.std.proofs.Common.{◌≡◌, ◌⊎◌, inl, inr, ℕ, ◌+◌, ◌<◌, ◌≤◌, Bool, true, false, List, [], ◌∷◌, ◌++◌, length, take, drop, get_or, Option, Some, None, IfSome, IsTrue, refl, sym, ◌∙◌, ap, subst}
use Rattle.std.specs.Prelude.{Ok, slice_set}
use Rattle.std.proofs.lemmas.List.{append-nil, take_more, take-append-drop}
use Rattle.std.proofs.lemmas.Grind.{flat_map-append}
use Rattle.sm_site.specs.Meanings.{Deal, Item, IsLive, View}
use Rattle.sm_site.specs.Meanings.Deal.{Began, Came, Left, Over}
use Rattle.sm_log.specs.Digests.{Digest}
use Rattle.sm_head.specs.declared.reply.TheConstants.{NO_MEMORY}
use Rattle.sm_conn.specs.declared.part.Part.{Part}
use Rattle.sm_conn.specs.Parts.{PartItem}
use Rattle.sm_conn.specs.Stands.{items_of, joined, mode_of}
use Rattle.sm_players.specs.declared.live.Live.{Live}
use Rattle.sm_players.specs.declared.replying.Final.{Final}
use Rattle.sm_players.specs.declared.telling.Outcome.{Outcome}
use Rattle.sm_players.specs.declared.telling.Outcome.TheVariants.{Open, Closed, Failed}
use Rattle.sm_players.specs.Asking.{Asking, behind}
use Rattle.sm_players.specs.Telling.{Goes, LeavesWire, StaysBeside, Tells, is_open, counted}
use Rattle.sm_players.specs.Replying.{IsStarved, IsAnswer}
use Rattle.sm_players.specs.Taking.{Standing, standing, Handles, replies, starves, Takes, nothing, next, stops, PieceGives, taken, unread}
use Rattle.sm_players.specs.Open.{Known, AreKnown, AreOpen, AreOpenBut, IsApart, IsNone, IsNewborn, IsTakenOut, Forgets, LeavesOpen}
use Rattle.sm_players.specs.Playing.{Turns, opened, crowded, unborn, came, unread as unread_turn, passed, left, left_alone, over, IsCrowded}
use Rattle.sm_players.specs.Given.{TurnGives}
use Rattle.sm_players.proofs.Going.{behind_nil, behind_then, goes_then, goes_nil}
use Rattle.sm_players.proofs.Lists.{IsAt, but_of, none_but, known_push, known_many, none_known, push_open}

pub open_is : (o : Outcome) → IsTrue (is_open o) → o ≡ Open
open_is Open t = refl
open_is Closed t = absurd (cc)
open_is Failed t = absurd (cc)

-- a reply that is sent handles what it answers
pub reply_handles : (n : ℕ) (seen seen' : Digest) (was now : ℕ) (items : List PartItem) (told : List Deal) (asked : List Asking) (o : Bool) (f : Final) (outcome : Outcome) → IsAnswer seen items seen' asked (Ok f)
    → Tells n f.text f.close told outcome → o ≡ is_open outcome → now ≡ counted outcome was → Handles n (standing seen was) items told asked o (standing seen' now)
reply_handles n seen seen' was now items told asked o f outcome (item, is, replied) tells open_ count = replies item f outcome is replied tells open_ count

pub starved_handles : (n : ℕ) (seen seen' : Digest) (was : ℕ) (items : List PartItem) (told : List Deal) (asked : List Asking) (outcome : Outcome) → IsStarved seen items seen' asked
    → Tells n NO_MEMORY.now true told outcome → Handles n (standing seen was) items told asked false (standing seen' was)
starved_handles n seen seen' was items told asked outcome starved tells = starves outcome starved tells refl refl

-- ---- parts

pub joined_take : (ps : List Part) (i : ℕ) (x : Part) → i < length ps → x ≡ get_or ps i x → joined (take (i + 1) ps) ≡ joined (take i ps) ++ items_of x
joined_take ps i x within is =
    ap joined (take_more ps i x within) ∙ flat_map-append items_of (take i ps) (get_or ps i x ∷ []) ∙ ap (λ (qs : List PartItem). joined (take i ps) ++ qs) (append-nil (items_of (get_or ps i x)))
    ∙ ap (λ (y : Part). joined (take i ps) ++ items_of y) (sym is)

pub joined_split : (ps : List Part) (i : ℕ) → joined ps ≡ joined (take i ps) ++ joined (drop i ps)
joined_split ps i = ap joined (sym (take-append-drop i ps)) ∙ flat_map-append items_of (take i ps) (drop i ps)

-- what was told and asked so far, with the standing that it led to
pub record Taken (n : ℕ) (p : Standing) (old new : Option (List Item)) (was now : Option (List Asking)) (items : List PartItem) (o : Bool) (q : Standing) : Type 0 where
  pub told : List Deal
  pub asked : List Asking
  pub goes : Goes old new told
  pub asks : now ≡ behind was asked
  pub takes : Takes n p items told asked o q

-- nothing so far
pub taken_nothing : (n : ℕ) (p : Standing) (old : Option (List Item)) (was : Option (List Asking)) → Taken n p old old was was [] true p
taken_nothing n p old was = record { told = []; asked = []; goes = goes_nil old; asks = behind_nil was; takes = nothing }

-- one part more
pub taken_then : (n : ℕ) (p r q : Standing) (old mid new : Option (List Item)) (was then_ now : Option (List Asking)) (items more all : List PartItem) (told : List Deal) (asked : List Asking) (o : Bool)
    → Taken n p old mid was then_ items true r → Goes mid new told → now ≡ behind then_ asked → Handles n r more told asked o q → all ≡ items ++ more → Taken n p old new was now all o q
taken_then n p r q old mid new was then_ now items more all told asked o so goes asks one is = record {
  told = so.told ++ told;
  asked = so.asked ++ asked;
  goes = goes_then old mid new so.told told so.goes goes;
  asks = behind_then was then_ now so.asked asked so.asks asks;
  takes = next items more all so.told told (so.told ++ told) so.asked asked (so.asked ++ asked) o r q so.takes one is refl refl;
}

-- what comes behind a reply that closes
pub taken_stops : (n : ℕ) (p q : Standing) (old new : Option (List Item)) (was now : Option (List Asking)) (items rest all : List PartItem) → Taken n p old new was now items false q → all ≡ items ++ rest
    → Taken n p old new was now all false q
taken_stops n p q old new was now items rest all so is =
    record { told = so.told; asked = so.asked; goes = so.goes; asks = so.asks; takes = stops items rest all so.told so.asked q so.takes is }

-- ---- the connections behind an event

-- those that are open, where one alone was told something
pub open_but : (n : ℕ) (a b : Option (List Item)) (told : List Deal) (ls : List Live) → StaysBeside n a b → Goes a b told → IfSome a (λ items. AreOpen items ls) → IfSome b (λ items. AreOpenBut n items ls)
open_but n None None told ls beside goes open_ = tt
open_but n None (Some y) told ls beside goes open_ = absurd goes
open_but n (Some x) None told ls beside goes open_ = tt
open_but n (Some x) (Some y) told ls beside goes open_ = but_of n x y ls beside open_

pub if_both : (o : Option (List Item)) (P Q R : List Item → Type 0) → ((x : List Item) → P x → Q x → R x) → IfSome o P → IfSome o Q → IfSome o R
if_both None P Q R so p q = tt
if_both (Some x) P Q R so p q = so x p q

pub if_then : (o : Option (List Item)) (P R : List Item → Type 0) → ((x : List Item) → P x → R x) → IfSome o P → IfSome o R
if_then None P R so p = tt
if_then (Some x) P R so p = so x p

-- a new connection that was told something is none of the live ones
pub open_apart : (n : ℕ) (a b : Option (List Item)) (told : List Deal) (ls : List Live) → StaysBeside n a b → Goes a b told → IfSome a (λ items. IsLive n items × IsApart n ls × AreOpen items ls)
    → IfSome b (λ items. AreOpen items ls)
open_apart n None None told ls beside goes may = tt
open_apart n None (Some y) told ls beside goes may = absurd goes
open_apart n (Some x) None told ls beside goes may = tt
open_apart n (Some x) (Some y) told ls beside goes may = none_but n y ls may.1 (but_of n x y ls beside may.2)

pub leaves_apart : (n : ℕ) (open_ : Bool) (v w : View) (told : List Deal) (ls : List Live) → LeavesWire n open_ v w → Goes v.transcript w.transcript told
    → IfSome v.transcript (λ items. IsLive n items × IsApart n ls × AreOpen items ls) → LeavesOpen ls v w
leaves_apart n open_ v w told ls leaves goes may = record {
  open_ = open_apart n v.transcript w.transcript told ls leaves.others goes may;
  link_faults = leaves.link_faults;
}

pub open_push : (a : Option (List Item)) (n : ℕ) (ls : List Live) (x : Live) → x.number ≡ n → IfSome a (λ items. IsLive n items × IsApart n ls × AreOpen items ls) → IfSome a (λ items. AreOpen items (ls ++ x ∷ []))
open_push None n ls x is may = tt
open_push (Some items) n ls x is may =
    push_open items ls x may.2 (subst (λ (m : ℕ). IsLive m items) (sym is) may.0) (subst (λ (m : ℕ). IsApart m ls) (sym is) may.1)

-- ---- what events give

-- a connection that is told it is refused
pub crowded_gives : (n : ℕ) (a b : Option (List Item)) (was : Option (List Asking)) (ks : List Known) (p : Standing) (ls : List Live) (told : List Deal) (text : List ℕ) (result : Outcome) → 16 ≤ length ls → Goes a b told
    → IsCrowded text → Tells n text true told result → AreKnown ks ls → TurnGives (Began n) a b was was ks p ls p
crowded_gives n a b was ks p ls told text result many goes is tells known = record {
  told = told;
  goes = goes;
  asked = [];
  asks = behind_nil was;
  after = ks;
  turns = crowded n text result refl (subst (λ (m : ℕ). 16 ≤ m) (sym (known_many ks ls known)) many) is tells refl refl refl;
  known = known;
}

pub unborn_gives : (n : ℕ) (a b : Option (List Item)) (was : Option (List Asking)) (ks : List Known) (p : Standing) (ls : List Live) (told : List Deal) (result : Outcome) → Goes a b told
    → Tells n NO_MEMORY.now true told result → AreKnown ks ls → TurnGives (Began n) a b was was ks p ls p
unborn_gives n a b was ks p ls told result goes tells known =
    record { told = told; goes = goes; asked = []; asks = behind_nil was; after = ks; turns = unborn n result refl tells refl refl refl; known = known }

pub opened_gives : (n : ℕ) (a : Option (List Item)) (was : Option (List Asking)) (ks : List Known) (p : Standing) (ls : List Live) (x : Live) → length ls < 16 → IsNewborn n x → AreKnown ks ls
    → TurnGives (Began n) a a was was ks p (ls ++ x ∷ []) p
opened_gives n a was ks p ls x few new known = record {
  told = [];
  goes = goes_nil a;
  asked = [];
  asks = behind_nil was;
  after = ks ++ (record { number = n; bytes = [] }) ∷ [];
  turns = opened n refl (subst (λ (m : ℕ). m < 16) (sym (known_many ks ls known)) few) refl refl refl refl;
  known = known_push ks ls (record { number = n; bytes = [] }) x known (record { number_is = sym new.number_is; given = []; stands = new.stands });
}

-- bytes of a connection that isn't live
pub passed_gives : (n : ℕ) (bytes : List ℕ) (a : Option (List Item)) (was : Option (List Asking)) (ks : List Known) (p : Standing) (ls : List Live) → IsApart n ls → AreKnown ks ls
    → TurnGives (Came n bytes) a a was was ks p ls p
passed_gives n bytes a was ks p ls apart known =
    record { told = []; goes = goes_nil a; asked = []; asks = behind_nil was; after = ks; turns = passed n bytes refl (none_known n ks ls known apart) refl refl refl refl; known = known }

-- a live connection
module _ (n : ℕ) (piece : List ℕ) (ks : List Known) (ls : List Live) (i : ℕ) (x y : Live) (p q : Standing) (at : IsAt ks ls i x) (number : x.number ≡ n) (same : y.number ≡ x.number) where
  one_is : at.one.number ≡ n
  one_is = at.known.number_is ∙ number

  abbrev now_open : Known
  now_open = record { number = at.one.number; bytes = at.one.bytes ++ piece }

  pub open_turns : (told : List Deal) (asked : List Asking) → PieceGives x.number p at.one.bytes at.known.given piece told asked true y q
      → Turns ks p (Came n piece) told asked (at.front ++ (now_open ∷ at.back)) q × AreKnown (at.front ++ (now_open ∷ at.back)) (slice_set ls i y)
  open_turns told asked (taken more stands takes) = (
    came at.front at.back at.one piece at.known.given more true (ap (λ (m : ℕ). Came m piece) (sym one_is)) at.is (mode_of x.conn, at.known.stands) (mode_of y.conn, stands)
        (subst (λ (m : ℕ). Takes m p more told asked true q) (sym at.known.number_is) takes) refl,
    at.set now_open y (record { number_is = at.known.number_is ∙ sym same; given = at.known.given ++ more; stands = stands }),
  )
  open_turns told asked (unread result tells none open_ stays) = absurd (let no : true ≡ false = open_ in cc)

  pub shut_turns : (told : List Deal) (asked : List Asking) → PieceGives x.number p at.one.bytes at.known.given piece told asked false y q → Turns ks p (Came n piece) told asked (at.front ++ at.back) q
  shut_turns told asked (taken more stands takes) =
      came at.front at.back at.one piece at.known.given more false (ap (λ (m : ℕ). Came m piece) (sym one_is)) at.is (mode_of x.conn, at.known.stands) (mode_of y.conn, stands)
      (subst (λ (m : ℕ). Takes m p more told asked false q) (sym at.known.number_is) takes) refl
  shut_turns told asked (unread result tells none open_ stays) =
      unread_turn at.front at.back at.one piece result (ap (λ (m : ℕ). Came m piece) (sym one_is)) at.is (subst (λ (m : ℕ). Tells m NO_MEMORY.now true told result) (sym at.known.number_is) tells) none refl stays

-- the peer closes one
pub left_gives : (n : ℕ) (a : Option (List Item)) (was : Option (List Asking)) (ks : List Known) (p : Standing) (old new : List Live) → Forgets n old new → AreKnown ks old → TurnGives (Left n) a a was was ks p new p
left_gives n a was ks p old new forgets known = go (forgets.known ks known)
  where
    go : (after : List Known) × AreKnown after new × (IsTakenOut n ks after ⊎ (IsNone n ks × (after ≡ ks))) → TurnGives (Left n) a a was was ks p new p
    go (after, now, inl out) = record {
      told = [];
      goes = goes_nil a;
      asked = [];
      asks = behind_nil was;
      after = after;
      turns = left out.front out.back out.one (ap (λ (m : ℕ). Left m) (sym out.number_is)) out.lives_is refl refl out.after_is refl;
      known = now;
    }
    go (after, now, inr (none, same)) =
        record { told = []; goes = goes_nil a; asked = []; asks = behind_nil was; after = after; turns = left_alone n refl none refl refl same refl; known = now }

pub over_gives : (a : Option (List Item)) (was : Option (List Asking)) (ks : List Known) (p : Standing) (ls : List Live) → AreKnown ks ls → TurnGives Over a a was was ks p ls p
over_gives a was ks p ls known = record { told = []; goes = goes_nil a; asked = []; asks = behind_nil was; after = ks; turns = over refl refl refl refl refl; known = known }
