-- The clients of a rehearsal, one after another.
use Rattle.std.proofs.Common.{◌≡◌, ℕ, zero, suc, ◌≤◌, ◌<◌, List, [], ◌∷◌, ◌++◌, Option, None, length, refl, sym, ◌∙◌, ap, subst, arith, append_assoc, append-nil}
use Rattle.std.specs.Prelude.{codes}
use Rattle.std.proofs.lemmas.List.{length-append}
use Rattle.sm_model.specs.declared.entry.Entry.{Entry}
use Rattle.sm_fetch.specs.declared.dial.Exchange.{Exchange}
use Rattle.sm_client.specs.Turns.{Meaning}
use Rattle.sm_serve.specs.declared.state.State.{State}
use Rattle.sm_site.specs.declared.memory.MemorySite.{MemorySite}
use Rattle.sm_ends.specs.TracksHeld.{TracksState}
use Rattle.sm_site.specs.Meanings.{View, SameLink}
use Rattle.sm_site.specs.Memory.{site_seen, site_view}
use Rattle.sm_world.specs.Clients.{HasPlayed, HasPlayedFirst, HavePlayed, IsClient}
use Rattle.sm_world.specs.Deeds.{IsCrash}
use Rattle.sm_world.specs.Dialing.{Dialing}
use Rattle.sm_world.specs.Encoders.{entries_after, log_of}
use Rattle.sm_world.specs.LaterLaws.{continues_then}
use Rattle.sm_world.specs.Saying.{TellsOn}
use Rattle.sm_world.specs.Stages.{HasEntries, StaysOn}
use Rattle.sm_world.specs.Wider.{tells_link, tells_same, tells_then}
use Rattle.sm_world.specs.Worlds.{World, IsClosed, Stands, Crashes}
use Rattle.sm_world.specs.declared.client.Client.{Client}
use Rattle.sm_world.proofs.Numbers.{due_wider, length_log}

-- ---- logs

no_more : (more : List Entry) → length more ≡ 0 → more ≡ []
no_more [] none = refl
no_more (e ∷ more) none = absurd (omega (arith, none))

-- a log that goes on to one of the same length is that
same_log : (a b more : List Entry) → b ≡ a ++ more → length b ≤ length a → a ≡ b
same_log a b more is short =
    let sum = length-append a more in
    let len : length b ≡ length (a ++ more) = ap length is in
    let none : more ≡ [] = no_more more (omega (arith, sum, len, short)) in
    sym (is ∙ ap (λ (l : List Entry). a ++ l) none ∙ append-nil a)

-- the one before, where it has as many entries as the one behind, or where that has none
was_log_of : (count : ℕ) (a b : List Entry) (more : List Entry) → b ≡ a ++ more → b ≡ log_of count → (0 < count → length a ≡ entries_after count) → a ≡ log_of count
was_log_of zero a b more is all len =
    let none : length b ≡ 0 = ap length all in
    same_log a b more is (omega (arith, none)) ∙ all
was_log_of (suc n) a b more is all len =
    let here : length a ≡ entries_after (suc n) = len (omega arith) in
    let there : length b ≡ entries_after (suc n) = ap length all ∙ length_log (suc n) in
    same_log a b more is (omega (arith, here, there)) ∙ all

module _ {P : Type 0} (m : Meaning P) (count : ℕ) where
  -- for causes on a longer way
  client_wider : (p : P) (name : List ℕ) (a b c : View) (xs : List Exchange) (tracks : TracksState) → TellsOn a b → IsClient m p name count b c xs tracks → IsClient m p name count a c xs tracks
  client_wider p name a b c xs tracks before x = record {
    part = x.part;
    plays = x.plays;
    made = x.made;
    due = due_wider a b c c before (tells_same c) (log_of count) 1 xs x.due;
    done = x.done;
    whole = x.whole;
    gapless = x.gapless;
    kept = x.kept;
  }

  pub played_first : (p : P) (old d e f : MemorySite × Dialing) (c : Client) → HasPlayed m p (codes "video") count old d c → HasEntries d (entries_after count)
      → ((w : World) → Stands site_seen w d.1.state d.0
      → (now : World) × Stands site_seen now e.1.state e.0 × Crashes (site_view d.0).transcript w now)
      → IsCrash 0 d e → f.1 ≡ e.1
      → ((w : World) → IsClosed site_seen w e.0 → IsClosed site_seen w f.0)
      → ((w : World) → IsClosed site_seen w e.0 → w.log ≡ log_of count)
      → (site_view e.0).disk_faults ≤ (site_view f.0).disk_faults → SameLink (site_view e.0) (site_view f.0) → HasPlayedFirst m p count old f c
  played_first p old d e f c played entries crash by same stays kept no_fewer link = record {
    more = played.more;
    made = ap (λ (x : Dialing). x.made) same ∙ ap (λ (x : Dialing). x.made) by.dialing ∙ played.made;
    client = λ has w stands. (
        let x = played.stays_on w stands in
        let y = crash x.0 x.1 in
        let none : e.1.state ≡ None = ap (λ (z : Dialing). z.state) by.dialing in
        let still : f.1.state ≡ None = ap (λ (z : Dialing). z.state) same ∙ none in
        let closed : IsClosed site_seen y.0 e.0 = subst (λ (o : Option State). Stands site_seen y.0 o e.0) none y.1 in
        let all = kept y.0 closed in
        let on : y.0.log ≡ w.log ++ (x.3.0 ++ y.2.more) = y.2.log ∙ ap (λ (l : List Entry). l ++ y.2.more) x.3.1 ∙ append_assoc w.log x.3.0 y.2.more in (
          played.client w stands (was_log_of count w.log y.0.log (x.3.0 ++ y.2.more) on all (λ some. has some w stands)) entries,
          (
            y.0,
            subst (λ (o : Option State). Stands site_seen y.0 o f.0) (sym still) (stays y.0 closed),
            y.2.first ∙ x.2,
            all,
          ),
        ));
    few = played.few;
    lost = played.lost;
    cut = played.cut;
    played = played.played;
    crash = record {
      before = d;
      behind = e;
      from = played.stays_on;
      until = played.tells;
      when = played.made;
      crash = by;
      since = tells_link (site_view e.0) (site_view f.0) no_fewer link;
      on = λ w stands.
          let none : e.1.state ≡ None = ap (λ (z : Dialing). z.state) by.dialing in
          let still : f.1.state ≡ None = ap (λ (z : Dialing). z.state) same ∙ none in
          let closed : IsClosed site_seen w e.0 = subst (λ (o : Option State). Stands site_seen w o e.0) none stands in (
            w,
            subst (λ (o : Option State). Stands site_seen w o f.0) (sym still) (stays w closed),
            refl,
            ([], sym (append-nil w.log)),
          );
    };
    crashes = λ low.
        (let a = played.crashes in
        let b = ap (λ (x : Dialing). x.crashes) by.dialing in
        let g = ap (λ (x : Dialing). x.crashes) same in
        omega (arith, a, b, g, low));
  }

  -- one client more, behind which the store has as many entries
  still_all : (a b : List Entry) (more : List Entry) → b ≡ a ++ more → a ≡ log_of count → length b ≡ entries_after count → b ≡ log_of count
  still_all a b more is all len =
      let before : length a ≡ entries_after count = ap length all ∙ length_log count in
      sym (same_log a b more is (omega (arith, before, len))) ∙ all

  pub played_all : (p q r : P) (old d e f : MemorySite × Dialing) (one two three : Client) → HasPlayedFirst m p count old d one
      → HasPlayed m q (codes "video") count d e two → HasEntries e (entries_after count) → HasPlayed m r (codes "audio") count e f three → HasEntries f (entries_after count)
      → HavePlayed m p q r count old f (record { first = one; second = two; third = three })
  played_all p q r old d e f one two three first second second_has third third_has = record {
    ones = first.more;
    twos = second.more;
    threes = third.more;
    made = third.made ∙ ap (λ (l : List Exchange). l ++ third.more) (second.made ∙ ap (λ (l : List Exchange). l ++ second.more) first.made);
    client = λ has w stands. (
        let x = first.client has w stands in
        let y = second.stays_on x.1.0 x.1.1 in
        let all = still_all x.1.0.log y.0.log y.3.0 y.3.1 x.1.3 (second_has y.0 y.1) in
        let z = third.stays_on y.0 y.1 in (
          x.0,
          client_wider q (codes "video") (site_view first.crash.behind.0) (site_view d.0) (site_view e.0) second.more two.tracks first.crash.since (second.client x.1.0 x.1.1 x.1.3 second_has),
          third.client y.0 y.1 all third_has,
          (z.0, z.1, z.2 ∙ y.2 ∙ x.1.2, still_all y.0.log z.0.log z.3.0 z.3.1 all (third_has z.0 z.1)),
        ));
    few = (let a = first.few in let b = second.few in let c = third.few in omega (arith, a, b, c));
    lost = (let a = first.lost in let b = second.lost in let c = third.lost in omega (arith, a, b, c));
    cut = (let a = first.cut in let b = second.cut in let c = third.cut in omega (arith, a, b, c));
    played = (let a = first.played in let b = second.played in let c = third.played in omega (arith, a, b, c));
    crash = record {
      before = first.crash.before;
      behind = first.crash.behind;
      from = first.crash.from;
      until = first.crash.until;
      when = first.crash.when;
      crash = first.crash.crash;
      since = tells_then (site_view first.crash.behind.0) (site_view e.0) (site_view f.0) to_middle third.tells;
      on = continues_then site_seen first.crash.behind e f on_middle third.stays_on;
    };
    middle = record {
      dial = e;
      from = on_middle;
      until = to_middle;
      when = second.made ∙ ap (λ (l : List Exchange). l ++ second.more) first.made;
      since = third.tells;
      on = third.stays_on;
    };
    crashes = λ low. (let a = first.crashes low in let b = second.crashes in let c = third.crashes in omega (arith, a, b, c));
  }
    where
      to_middle : TellsOn (site_view first.crash.behind.0) (site_view e.0)
      to_middle = tells_then (site_view first.crash.behind.0) (site_view d.0) (site_view e.0) first.crash.since second.tells

      on_middle : StaysOn first.crash.behind e
      on_middle = continues_then site_seen first.crash.behind d e first.crash.on second.stays_on
