-- Events that a player dealt with, one after the other.
use Rattle.std.proofs.Common.{◌≡◌, ℕ, ◌+◌, ◌<◌, ◌≤◌, Bool, true, false, ◌≢◌, ◌==◌, if◌then◌else◌, List, [], ◌∷◌, ◌++◌, Option, Some, None, IfSome, refl, sym, ◌∙◌, ap, subst}
use Rattle.std.specs.Prelude.{not}
use Rattle.sm_log.specs.Digests.{Digest, Extends}
use Rattle.sm_site.specs.Meanings.{View, Deal, Item, IsLive, open_after, open_from}
use Rattle.sm_site.specs.Meanings.Deal.{Began, Came, Left, Over}
use Rattle.sm_site.specs.Clauses.{Both, Adds}
use Rattle.sm_site.specs.Event.{deal_of, IsNext}
use Rattle.sm_site.specs.declared.event.Event.{Event}
use Rattle.sm_site.specs.declared.event.Event.TheVariants.{Opened, Piece, Closed, Ended}
use Rattle.sm_site.proofs.Transcripts.{open_push}
use Rattle.std.proofs.lemmas.Bool.{eq-eqb, ne_eqb}
use Rattle.sm_players.specs.declared.live.Live.{Live}
use Rattle.sm_players.specs.declared.played.Played.{Played as Outcome}
use Rattle.sm_players.specs.Asking.{Asking, behind}
use Rattle.sm_players.specs.Telling.{Goes}
use Rattle.sm_players.specs.Taking.{Standing, standing}
use Rattle.sm_players.specs.Open.{Known, AreKnown, AreOpen, MayHandle}
use Rattle.sm_players.specs.Playing.{is_over, Plays, begins, goes_on, EndsAs, start, HasPlayed}
use Rattle.sm_players.specs.Given.{TurnGives}
use Rattle.sm_players.proofs.Going.{goes_nil, goes_one, goes_then, behind_nil, behind_then}
use Rattle.sm_players.proofs.Lists.{but_of, all_of, fresh_apart}
use Rattle.sm_players.proofs.Seeing.{plays_sees}

-- so many events were dealt with
pub record Played (seen : Digest) (old new : Option (List Item)) (was now : Option (List Asking)) (taken : ℕ) (left : List Live) (ended : Bool) (last : Standing) : Type 0 where
  pub deals : List Deal
  pub asked : List Asking
  pub lives : List Known
  pub plays : Plays (start seen) taken deals asked lives ended last
  pub told : Goes old new deals
  pub asks : now ≡ behind was asked
  pub known : AreKnown lives left

pub played_nothing : (seen : Digest) (a : Option (List Item)) (was : Option (List Asking)) → Played seen a a was was 0 [] false (standing seen 0)
played_nothing seen a was =
    record { deals = []; asked = []; lives = []; plays = begins 0 refl; told = goes_nil a; asks = behind_nil was; known = tt }

-- one event more: it was taken, and then dealt with
pub played_then : (seen : Digest) (old : Option (List Item)) (v w : View) (x : Option (List Item)) (was then_ now : Option (List Asking)) (taken : ℕ) (ls left : List Live) (p q : Standing) (event : Event)
    → (so : Played seen old v.transcript was then_ taken ls false p) → Adds (deal_of event) v w → TurnGives (deal_of event) w.transcript x then_ now so.lives p left q
    → Played seen old x was now (taken + 1) left (is_over (deal_of event)) q
played_then seen old v w x was then_ now taken ls left p q event so adds turn = record {
  deals = so.deals ++ (deal_of event ∷ turn.told);
  asked = so.asked ++ turn.asked;
  lives = turn.after;
  plays = goes_on taken (taken + 1) so.deals turn.told (so.deals ++ (deal_of event ∷ turn.told)) so.asked turn.asked (so.asked ++ turn.asked) so.lives turn.after p q (deal_of event) (is_over (deal_of event)) so.plays
      turn.turns refl refl refl refl;
  told = goes_then old v.transcript x so.deals (deal_of event ∷ turn.told) so.told
      (goes_then v.transcript w.transcript x (deal_of event ∷ []) turn.told (goes_one v w (deal_of event) adds) turn.goes);
  asks = behind_then was then_ now so.asked turn.asked so.asks turn.asks;
  known = turn.known;
}

pub has_played : (seen seen' : Digest) (answered : ℕ) (old new : Option (List Item)) (was now : Option (List Asking)) (turns : ℕ) (result : Outcome) (taken : ℕ) (left : List Live) (ended : Bool)
    → Played seen old new was now taken left ended (standing seen' answered) → EndsAs result turns taken ended answered → HasPlayed seen seen' old new was now turns result
has_played seen seen' answered old new was now turns result taken left ended so ends = record {
  taken = taken;
  deals = so.deals;
  asked = so.asked;
  lives = so.lives;
  ended = ended;
  last = standing seen' answered;
  plays = so.plays;
  told = so.told;
  asks = so.asks;
  sees = refl;
  ends = ends;
}

-- nothing was taken
pub played_still : (seen : Digest) (old a b : Option (List Item)) (was now : Option (List Asking)) (taken : ℕ) (left : List Live) (ended : Bool) (last : Standing) → b ≡ a → Played seen old a was now taken left ended last
    → Played seen old b was now taken left ended last
played_still seen old a b was now taken left ended last same so =
    subst (λ (o : Option (List Item)). Played seen old o was now taken left ended last) (sym same) so

-- ---- an event that was taken may be handled

live_after : (m : ℕ) (items : List Item) (item : Item) (was : Bool) → open_from false m items ≡ was → open_after was m item.deal ≡ true → IsLive m (items ++ item ∷ [])
live_after m items item was is now = open_push false m items item ∙ ap (λ (b : Bool). open_after b m item.deal) is ∙ now

began_open : (n m : ℕ) → open_after true m (Began n) ≡ true
began_open n m = elim (n == m) as (λ b. (if b then true else true) ≡ true) [ true ↦ refl | false ↦ refl ]

left_open : (n m : ℕ) → m ≢ n → open_after true m (Left n) ≡ true
left_open n m other = ap (λ (b : Bool). if b then false else true) (ne_eqb n m (λ e. other (sym e)))

pub may_after : (items : List Item) (moment : ℕ) (event : Event) (ls : List Live) → IsNext event items → AreOpen items ls → MayHandle event ls (items ++ (record { moment = moment; deal = deal_of event }) ∷ [])
may_after items moment (Opened n) ls next open_ =
    let item : Item = record { moment = moment; deal = Began n } in (
      open_push false n items item ∙ ap (λ (b : Bool). if b then true else open_from false n items) (eq-eqb n n refl),
      fresh_apart n items ls next open_,
      all_of items (items ++ item ∷ []) ls (λ m live. live_after m items item true live (began_open n m)) open_,
    )
may_after items moment (Piece n piece) ls next open_ =
    let item : Item = record { moment = moment; deal = Came n piece } in
    all_of items (items ++ item ∷ []) ls (λ m live. live_after m items item true live refl) open_
may_after items moment (Closed n) ls next open_ =
    let item : Item = record { moment = moment; deal = Left n } in
    but_of n items (items ++ item ∷ []) ls (λ m other live. live_after m items item true live (left_open n m other)) open_
may_after items moment Ended ls next open_ =
    let item : Item = record { moment = moment; deal = Over } in
    all_of items (items ++ item ∷ []) ls (λ m live. live_after m items item true live refl) open_

pub may_handle : (v w : View) (event : Event) (ls : List Live) → Adds (deal_of event) v w → IfSome v.transcript (IsNext event) → IfSome v.transcript (λ items. AreOpen items ls)
    → IfSome w.transcript (MayHandle event ls)
may_handle v w event ls adds next open_ = go v.transcript w.transcript adds next open_
  where
    go : (a b : Option (List Item)) → Both a b (λ before now. (m : ℕ) × (v.moment < m) × (m ≤ w.moment) × (now ≡ before ++ (record { moment = m; deal = deal_of event }) ∷ [])) → IfSome a (IsNext event)
        → IfSome a (λ items. AreOpen items ls) → IfSome b (MayHandle event ls)
    go None None both next open_ = tt
    go None (Some y) both next open_ = absurd both
    go (Some x) None both next open_ = tt
    go (Some x) (Some y) (m, lt, le, on) next open_ = subst (MayHandle event ls) (sym on) (may_after x m event ls next open_)

pub none_open : (o : Option (List Item)) (ls : List Live) → ls ≡ [] → IfSome o (λ items. AreOpen items ls)
none_open None ls none = tt
none_open (Some items) ls none = subst (λ (ms : List Live). AreOpen items ms) (sym none) tt

pub is_ended : (b : Bool) → false ≡ not b → b ≡ true
is_ended true e = refl
is_ended false e = absurd (cc)

pub goes_still : (b : Bool) → true ≡ not b → b ≡ false
goes_still false e = refl
goes_still true e = absurd (cc)

-- what a player has seen goes on
pub seen_by : {seen seen' : Digest} {old new : Option (List Item)} {was now : Option (List Asking)} {turns : ℕ} {result : Outcome} → HasPlayed seen seen' old new was now turns result → Extends seen' seen
seen_by {seen = seen} h = subst (λ (d : Digest). Extends d seen) h.sees (plays_sees (start seen) h.last h.taken h.deals h.asked h.lives h.ended h.plays)
