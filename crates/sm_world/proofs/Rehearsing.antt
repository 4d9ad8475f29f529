-- What a rehearsal comes to.
use Rattle.std.proofs.Common.{◌≡◌, ℕ, ◌+◌, ◌*◌, ◌≤◌, ◌<◌, false, List, [], ◌∷◌, ◌++◌, Option, Some, length, refl, sym, ◌∙◌, ap, subst, arith}
use Rattle.std.specs.Prelude.{option_to_list, codes, map}
use Rattle.std.proofs.lemmas.List.{length-append}
use Rattle.sm_fetch.specs.declared.dial.Exchange.{Exchange}
use Rattle.sm_client.specs.Turns.{Meaning}
use Rattle.sm_site.specs.declared.memory.MemorySite.{MemorySite}
use Rattle.sm_site.specs.Memory.{faults_of}
use Rattle.sm_world.specs.Clients.{HavePlayed}
use Rattle.sm_fetch.specs.declared.place.Place.{Place}
use Rattle.sm_world.specs.Deeds.{AreDone, deeds_in, fragments_in, place, requests_of}
use Rattle.sm_world.specs.Dialing.{Dialing}
use Rattle.sm_world.specs.Encoders.{entries_after}
use Rattle.sm_world.specs.Header.{header_text}
use Rattle.sm_world.specs.Rehearsed.{Rehearsed}
use Rattle.sm_world.specs.Rounds as rounds
use Rattle.sm_world.specs.Stages.{Begins, HasEntries, HasPushed}
use Rattle.sm_world.specs.Told.{Tell}
use Rattle.sm_world.specs.declared.clients.Clients.{Clients}
use Rattle.sm_world.specs.declared.stage.Stage.{Stage}
use Rattle.std.proofs.lemmas.List.{append_cancel_left}
use Rattle.sm_world.proofs.Staging.{asked_by, few_crashes}

module _ {P : Type 0} (m : Meaning P) (number size : ℕ) (policies : List P) (first second third : P) (old new : Stage) (d : MemorySite × Dialing) (c : Clients) (n : ℕ)
    (are : policies ≡ first ∷ second ∷ third ∷ []) (few : size ≤ 2000) (begins : Begins old)
    (pushed : HasPushed old new (deeds_in old.header size number) (rounds.crashes size number) (rounds.refusals size number) (9 * size)) (has : 0 < size → HasEntries new.dial (entries_after size))
    (played : HavePlayed m first second third size new.dial d c) (fed : (faults_of d.0).starved ≡ false) (counted : n ≡ d.1.crashes) where
  crashed : n ≡ 1 + rounds.crashes size number
  crashed =
      let most = few_crashes size number in
      let none = begins.crashes in
      let a = pushed.crashed (omega (arith, most, few, none)) in
      let b = played.crashes (omega (arith, a, most, few, none)) in
      omega (arith, a, b, none, counted)

  done : AreDone place (codes "a") (deeds_in header_text size number) old.dial new.dial
  done =
      subst (λ (p : Place). AreDone p (codes "a") (deeds_in header_text size number) old.dial new.dial) begins.place
      (subst (λ (i : List ℕ). AreDone old.place i (deeds_in header_text size number) old.dial new.dial) begins.id
      (subst (λ (h : List ℕ). AreDone old.place old.id (deeds_in h size number) old.dial new.dial) begins.header pushed.done))

  asked : map (λ (x : Exchange). x.request) pushed.more ≡ requests_of place (codes "a") (deeds_in header_text size number)
  asked =
      let x = asked_by place (codes "a") (deeds_in header_text size number) old.dial new.dial done in
      let same : pushed.more ≡ x.more = append_cancel_left old.dial.1.made pushed.more x.more (sym pushed.made ∙ x.made) in
      ap (λ (l : List Exchange). map (λ (x : Exchange). x.request) l) same ∙ x.asked

  pub rehearsed : Rehearsed m number size policies (record {
    summary = record {
      kept = 3 * size;
      known = new.known;
      refused = new.refused;
      crashes = n;
      lost = c.first.lost + c.second.lost + c.third.lost;
      cut = c.first.cut + c.second.cut + c.third.cut;
      played = c.first.played + c.second.played + c.third.played;
    };
    dial = d;
    first = c.first.tracks;
    second = c.second.tracks;
    third = c.third.tracks;
  })
  rehearsed =
      let x = pushed.stays_on begins.world begins.stands in
      let y = played.client has x.0 x.1 in
      let made : new.dial.1.made ≡ pushed.more = pushed.made ∙ ap (λ (l : List Exchange). l ++ pushed.more) begins.made in
      let known : pushed.known ≡ new.known = (let a = pushed.known_is in let b = begins.known in omega (arith, a, b)) in
      let refused : new.refused ≡ rounds.refusals size number = (let a = pushed.refused_is in let b = begins.refused in omega (arith, a, b)) in
      record {
        world = y.3.0;
        stands = y.3.1;
        began = y.3.2 ∙ x.2 ∙ begins.first;
        log = y.3.3;
        first = first;
        second = second;
        third = third;
        policies_are = are;
        pushes = pushed.more;
        ones = played.ones;
        twos = played.twos;
        threes = played.threes;
        made = played.made ∙ ap (λ (l : List Exchange). ((l ++ played.ones) ++ played.twos) ++ played.threes) made;
        asked = asked;
        start = old.dial;
        pushed = new.dial;
        before = begins.world;
        stood = begins.stands;
        empty = begins.log;
        none_made = begins.made;
        none_lost = begins.lost;
        none_cut = begins.cut;
        done = done;
        pushed_made = made;
        crash = record {
          before = played.crash.before;
          behind = played.crash.behind;
          from = played.crash.from;
          until = played.crash.until;
          when = played.crash.when ∙ ap (λ (l : List Exchange). l ++ played.ones) made;
          crash = played.crash.crash;
          since = played.crash.since;
          on = played.crash.on;
        };
        middle = record {
          dial = played.middle.dial;
          from = played.middle.from;
          until = played.middle.until;
          when = played.middle.when ∙ ap (λ (l : List Exchange). (l ++ played.ones) ++ played.twos) made;
          since = played.middle.since;
          on = played.middle.on;
        };
        tell = subst (λ (h : List ℕ). Tell (fragments_in (deeds_in h size number)) pushed.more new.known new.refused) begins.header
            (subst (λ (k : ℕ). Tell (fragments_in (deeds_in old.header size number)) pushed.more k new.refused) known
            (subst (Tell (fragments_in (deeds_in old.header size number)) pushed.more pushed.known) (sym refused) pushed.tell));
        one = y.0;
        two = y.1;
        three = y.2;
        kept = refl;
        refused = refused;
        crashed = crashed;
        crashes_are = counted;
        lost = played.lost;
        cut = played.cut;
        played = played.played;
        fed = fed;
      }

-- ---- the policies

-- three that were taken from the end of a list of three
pub three_of : {P : Type 0} (xs ys zs ws : List P) (a b c : Option P) (first second third : P) → xs ≡ ys ++ option_to_list a → ys ≡ zs ++ option_to_list b → zs ≡ ws ++ option_to_list c
    → a ≡ Some third → b ≡ Some second → c ≡ Some first → length xs ≡ 3 → xs ≡ first ∷ second ∷ third ∷ []
three_of {P} xs ys zs ws a b c first second third x y z is_a is_b is_c three =
    let x' : xs ≡ ys ++ third ∷ [] = x ∙ ap (λ (o : Option P). ys ++ option_to_list o) is_a in
    let y' : ys ≡ zs ++ second ∷ [] = y ∙ ap (λ (o : Option P). zs ++ option_to_list o) is_b in
    let z' : zs ≡ ws ++ first ∷ [] = z ∙ ap (λ (o : Option P). ws ++ option_to_list o) is_c in
    let all : xs ≡ ((ws ++ first ∷ []) ++ second ∷ []) ++ third ∷ [] =
    x' ∙ ap (λ (l : List P). l ++ third ∷ []) (y' ∙ ap (λ (l : List P). l ++ second ∷ []) z')
    in
    let one = length-append ws (first ∷ []) in
    let two = length-append (ws ++ first ∷ []) (second ∷ []) in
    let len = length-append ((ws ++ first ∷ []) ++ second ∷ []) (third ∷ []) in
    let sum : length xs ≡ length (((ws ++ first ∷ []) ++ second ∷ []) ++ third ∷ []) = ap (λ (l : List P). length l) all in
    let none : ws ≡ [] = empty ws (omega (arith, one, two, len, sum, three)) in
    all ∙ ap (λ (l : List P). ((l ++ first ∷ []) ++ second ∷ []) ++ third ∷ []) none
  where
    empty : (l : List P) → length l ≡ 0 → l ≡ []
    empty [] is = refl
    empty (p ∷ ps) is = absurd (omega (arith, is))
