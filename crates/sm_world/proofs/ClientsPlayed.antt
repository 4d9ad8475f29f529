-- What playing a stream leaves of an origin in memory.
use Rattle.std.proofs.Common.{◌≡◌, ◌≢◌, ℕ, ◌+◌, ◌-◌, ◌*◌, ◌/◌, ◌<◌, ◌≤◌, ◌⊎◌, inl, inr, zero, suc, List, [], ◌∷◌, ◌++◌, length, take, drop, Option, Some, None, refl, sym, ap, ◌∙◌, subst, arith, append-nil, length-append}
use Rattle.std.specs.Prelude.{codes}
use Rattle.std.proofs.Math.Seq.{drop-append_seam}
use Rattle.std.proofs.lemmas.List.{length-map, length-drop, append_cancel_left}
use Rattle.sm_model.specs.declared.entry.Entry.{Entry}
use Rattle.sm_site.specs.Meanings.{Seen}
use Rattle.sm_site.specs.Memory.{site_seen, site_view}
use Rattle.sm_site.specs.declared.memory.MemorySite.{MemorySite}
use Rattle.sm_log.specs.Logs.{IsSound}
use Rattle.sm_fetch.specs.declared.dial.Exchange.{Exchange}
use Rattle.sm_fetch.specs.Origins.{Answered}
use Rattle.sm_ends.specs.TracksHeld.{TrackHeld, TracksState, held_at}
use Rattle.sm_client.specs.declared.plan.Plan.{Plan}
use Rattle.sm_client.specs.declared.report.End.{End}
use Rattle.sm_client.specs.declared.report.End.TheVariants.{Done}
use Rattle.sm_client.specs.declared.report.Report.{Report}
use Rattle.sm_client.specs.Turns.{Meaning, Turn, settle}
use Rattle.sm_client.specs.Stands.{Piece}
use Rattle.sm_client.specs.Asks.{exchange_of, exchanges, turn_after}
use Rattle.sm_client.specs.Plays.{Part, IsPart, PlaysAll, count_of, all_exchanges, written_of}
use Rattle.sm_client.specs.Served.{AreIn, PartsIn, Serves, PlaysServed, PlayedServed}
use Rattle.sm_serve.specs.declared.state.State.{State}
use Rattle.sm_world.specs.Clients.{plan_of, AreDue, HaveCome, IsClient, HasPlayed}
use Rattle.sm_world.specs.Dialing.{Dialing, next_number}
use Rattle.sm_world.specs.Encoders.{channel, entries_after, log_of}
use Rattle.sm_world.specs.Later.{IsLater}
use Rattle.sm_world.specs.LaterLaws.{continues_later}
use Rattle.sm_world.specs.Numbered.{AreByNumber}
use Rattle.sm_world.specs.Saying.{StandsAt}
use Rattle.sm_world.specs.Worlds.{World, Stands}
use Rattle.sm_world.proofs.Numbers.{Lists, are_due, length_log, all_rounds, same_log}
use Rattle.sm_world.proofs.ClientsKept.{serves_client}

-- the log of a world is sound, wherever it stands
sound_world : {D : Type 0} (site : Seen D) (w : World) (state : Option State) (d : D)
    → Stands site w state d → IsSound w.log
sound_world site w None d stands = stands.one.sound
sound_world site w (Some state) d stands = subst IsSound stands.log_is stands.serves.rest.stands.stands.keeps.sound

-- all that is behind a place
pub take_rest : (n : ℕ) (xs : List Exchange) → take (length xs - n) (drop n xs) ≡ drop n xs
take_rest n xs = take_all (length xs - n) (drop n xs) (let len = length-drop n xs in omega (arith, len))
  where
    take_all : (k : ℕ) (ys : List Exchange) → length ys ≤ k → take k ys ≡ ys
    take_all zero [] few = refl
    take_all zero (y ∷ ys) few = absurd (omega (arith, few))
    take_all (suc k) [] few = refl
    take_all (suc k) (y ∷ ys) few = ap (λ (l : List Exchange). y ∷ l) (take_all k ys (omega (arith, few)))

-- ---- one stream

-- what a play of one stream made
record OnePart {P : Type 0} (m : Meaning P) (plan : Plan) (name : List ℕ) (start : Turn P) (held held' : ℕ → Option (List ℕ)) (parts : List Part) (end : End) : Type 0 where
  part : Part
  is : parts ≡ part ∷ []
  plays : IsPart m plan name 0 start (held 0) (held' 0) part
  end_is : part.end ≡ end

one_part : {P : Type 0} (m : Meaning P) (plan : Plan) (name : List ℕ) (start : Turn P) (held held' : ℕ → Option (List ℕ)) (parts : List Part) (end : End)
    → PlaysAll m plan start 0 (name ∷ []) held held' parts end → OnePart m plan name start held held' parts end
one_part m plan name start held held' [] end all = absurd (let none = all.0 in cc)
one_part {P = P} m plan name start held held' (part ∷ rest) end all = by all.1
  where
    last : (rest : List Part) → PlaysAll m plan (turn_after m start part.made) 1 [] held held' rest end → (rest ≡ []) × (end ≡ Done)
    last [] none = (refl, none.1)
    last (x ∷ xs) none = absurd none

    one : rest ≡ [] → part.end ≡ end → OnePart m plan name start held held' (part ∷ rest) end
    one none same = record { part = part; is = ap (λ (l : List Part). part ∷ l) none; plays = all.0; end_is = same }

    by : ((part.end ≡ Done) × PlaysAll m plan (turn_after m start part.made) 1 [] held held' rest end) ⊎ ((part.end ≢ Done) × (rest ≡ []) × (end ≡ part.end))
        → OnePart m plan name start held held' (part ∷ rest) end
    by (inl done) = let none = last rest done.1 in one none.0 (done.0 ∙ sym none.1)
    by (inr other) = one other.1 (sym other.2)

-- ---- what the calls gave

-- the dial where its exchanges are counted anew
abbrev pub renumbered : MemorySite × Dialing → List ℕ → List ℕ → MemorySite × Dialing
renumbered old lost cut = (old.0, record old.1 { lost = lost; cut = cut; since = length old.1.made })

-- a play of one stream into new tracks, from that dial on
pub record Plays {P : Type 0} (m : Meaning P) (p : P) (name : List ℕ) (count : ℕ) (mid new : MemorySite × Dialing) (tracks : TracksState) (report : Report) : Type 0 where
  pub served : PlaysServed m (plan_of name count) (settle m p [] []) (Some mid.1.made) (Some new.1.made) (λ k. Some []) (λ k. Some (held_at tracks.tracks k)) report
  pub later : IsLater site_seen mid new
  pub answered : Answered (Some mid.1.made) (Some new.1.made) (StandsAt site_seen mid.1.state mid.0)
      (StandsAt site_seen new.1.state new.0)

module _ {P : Type 0} (m : Meaning P) (p : P) (name : List ℕ) (count most : ℕ) (old new : MemorySite × Dialing) (lost cut : List ℕ) (tracks : TracksState) (report : Report)
    (which : (name ≡ codes "video") ⊎ (name ≡ codes "audio")) (few : count ≤ 2000) (within : (count + 1) * 9 ≤ most) (five : Lists 5 most lost) (seven : Lists 7 most cut)
    (plays : Plays m p name count (renumbered old lost cut) new tracks report) (come : HaveCome 1 (drop (length old.1.made) new.1.made))
    (ended : 0 < count → report.end ≡ Done) (whole : report.played ≡ count) where
  one : OnePart m (plan_of name count) name (settle m p [] []) (λ k. Some []) (λ k. Some (held_at tracks.tracks k)) plays.served.plays.parts report.end
  one = one_part m (plan_of name count) name (settle m p [] []) (λ k. Some []) (λ k. Some (held_at tracks.tracks k)) plays.served.plays.parts report.end plays.served.plays.plays

  abbrev more : List Exchange
  more = exchanges (one.part.made ++ one.part.last)

  abbrev written : List Piece
  written = written_of (plan_of name count) name one.part

  made : new.1.made ≡ old.1.made ++ more
  made =
      let all : all_exchanges plays.served.plays.parts ≡ more = ap all_exchanges one.is ∙ append-nil more in
      let is : Some new.1.made ≡ Some (old.1.made ++ all_exchanges plays.served.plays.parts) = plays.served.plays.made in
      let same : new.1.made ≡ old.1.made ++ all_exchanges plays.served.plays.parts = cc in
      same ∙ ap (λ (l : List Exchange). old.1.made ++ l) all

  length_more : length more ≤ (count + 1) * 9
  length_more =
      let len = length-append one.part.made one.part.last in
      let same : length more ≡ length (one.part.made ++ one.part.last) = length-map (one.part.made ++ one.part.last) exchange_of in
      let some = one.plays.few in omega (arith, len, same, some)

  same_more : plays.later.exchanges.more ≡ more
  same_more = append_cancel_left old.1.made plays.later.exchanges.more more (sym plays.later.exchanges.made ∙ made)

  due : (w : World) → Stands site_seen w old.1.state old.0 → w.log ≡ log_of count
      → ((now : World) → Stands site_seen now new.1.state new.0 → length now.log ≡ entries_after count)
      → AreDue (site_view old.0) (site_view new.0) (log_of count) 1 more
  due w stands is after =
      let on = plays.later.exchanges.on (omega arith) (log_of count) (record { world = w; stands = stands; log_is = is }) in
      let len : length on.0 ≡ entries_after count = ap (λ (l : List Entry). length l) (sym on.1.log_is) ∙ after on.1.world on.1.stands in
      let one : next_number (renumbered old lost cut).1 ≡ 1 = omega arith in
      let by : AreByNumber (site_view old.0) (site_view new.0) lost cut 1 (log_of count) more on.0 =
      subst (λ (n : ℕ). AreByNumber (site_view old.0) (site_view new.0) lost cut n (log_of count) more on.0) one
      (subst (λ (xs : List Exchange). AreByNumber (site_view old.0) (site_view new.0) lost cut (next_number (renumbered old lost cut).1) (log_of count) xs on.0) same_more on.2)
      in
      are_due (site_view old.0) (site_view new.0) lost cut most 1 (log_of count) on.0 more five seven (omega arith) (omega (arith, length_more, within))
      (let was = length_log count in omega (arith, was, len))
      (subst (HaveCome 1) (ap (drop (length old.1.made)) made ∙ drop-append_seam old.1.made more) come) by

  all_written : length written ≡ count
  all_written =
      let is : count_of (plan_of name count) (name ∷ []) plays.served.plays.parts ≡ length written + 0 = ap (count_of (plan_of name count) (name ∷ [])) one.is in
      let told = plays.served.plays.played in omega (arith, is, told, whole)

  kept : (w : World) → Stands site_seen w old.1.state old.0 → w.log ≡ log_of count
      → ((now : World) → Stands site_seen now new.1.state new.0 → length now.log ≡ entries_after count)
      → 0 < count → AreIn (log_of count) written
  kept w stands is after some =
      let on = plays.answered.on (log_of count) (record { world = w; stands = stands; log_is = is }) in
      let last = log_of count ++ on.0 in
      let len : length last ≡ entries_after count = ap (λ (l : List Entry). length l) (sym on.1.log_is) ∙ after on.1.world on.1.stands in
      let sound : IsSound (log_of count) = subst IsSound is (sound_world site_seen w old.1.state old.0 stands) in
      let serves : Serves (plan_of name count) channel (log_of count) last plays.answered.made =
      serves_client name count last plays.answered.made which some few sound len on.2
      in
      let parts : PartsIn (plan_of name count) last (name ∷ []) plays.served.plays.parts =
      plays.served.kept channel (log_of count) last old.1.made plays.answered.made refl plays.answered.told_is serves
      in
      let first : AreIn last written = (subst (PartsIn (plan_of name count) last (name ∷ [])) one.is parts).0 in
      subst (λ (l : List Entry). AreIn l written) (same_log (log_of count) on.0 (let was = length_log count in omega (arith, len, was))) first

  client : (w : World) → Stands site_seen w old.1.state old.0 → w.log ≡ log_of count
      → ((now : World) → Stands site_seen now new.1.state new.0 → length now.log ≡ entries_after count)
      → IsClient m p name count (site_view old.0) (site_view new.0) more tracks
  client w stands is after = record {
    part = one.part;
    plays = one.plays;
    made = refl;
    due = due w stands is after;
    done = λ some. one.end_is ∙ ended some;
    whole = λ some. all_written;
    gapless = λ some. all_rounds count _ written some all_written (kept w stands is after some) one.plays.gapless;
    kept = kept w stands is after;
  }

  -- so many of the exchanges were lost and cut
  told : length new.1.made - length old.1.made ≡ length more
  told = let len = length-append old.1.made more in let same = ap (λ (l : List Exchange). length l) made in omega (arith, len, same)

  pub has_played : (n : ℕ) → n ≡ length new.1.made - length old.1.made
      → HasPlayed m p name count old new (record { tracks = tracks; lost = n / 5; cut = n / 7 - n / 35; played = count })
  has_played n is = record {
    more = more;
    made = made;
    client = client;
    few = length_more;
    lost = ap (λ (k : ℕ). k / 5) (is ∙ told);
    cut = ap (λ (k : ℕ). k / 7 - k / 35) (is ∙ told);
    played = refl;
    crashes = plays.later.crashes;
    tells = plays.later.tells;
    stays_on = continues_later site_seen (renumbered old lost cut) new plays.later;
  }

-- ---- as the calls tell it

module _ {P : Type 0} (m : Meaning P) (p : P) (name : List ℕ) (count : ℕ) (old mid new : MemorySite × Dialing) (lost cut : List ℕ) (tracks tracks' : TracksState) (plan : Plan)
    (policies : List P) (report : Report) where
  -- the plan is for that stream, one policy plays it, the tracks are new, and the dial is the one whose exchanges were counted anew
  pub plays_one : plan ≡ plan_of name count → policies ≡ p ∷ [] → tracks.tracks ≡ [] → mid.0 ≡ old.0
      → mid.1 ≡ record old.1 { lost = lost; cut = cut; since = length old.1.made }
      → PlayedServed m plan policies (Some mid.1.made) (Some new.1.made) (λ k. Some (held_at tracks.tracks k)) (λ k. Some (held_at tracks'.tracks k)) report
      → IsLater site_seen mid new
      → Answered (Some mid.1.made) (Some new.1.made) (StandsAt site_seen mid.1.state mid.0)
      (StandsAt site_seen new.1.state new.0)
      → Plays m p name count (renumbered old lost cut) new tracks' report
  plays_one plan_is one empty site dialing served later answered =
      let first = subst (λ (q : Plan). PlayedServed m q policies (Some mid.1.made) (Some new.1.made) (λ k. Some (held_at tracks.tracks k)) (λ k. Some (held_at tracks'.tracks k)) report) plan_is served in
      let second = subst (λ (ps : List P). PlayedServed m (plan_of name count) ps (Some mid.1.made) (Some new.1.made) (λ k. Some (held_at tracks.tracks k)) (λ k. Some (held_at tracks'.tracks k)) report) one first in
      let third = subst (λ (ts : List TrackHeld). PlayedServed m (plan_of name count) (p ∷ []) (Some mid.1.made) (Some new.1.made) (λ k. Some (held_at ts k)) (λ k. Some (held_at tracks'.tracks k)) report) empty second in
      let here : Plays m p name count mid new tracks' report = record { served = third; later = later; answered = answered } in
      let is : mid ≡ renumbered old lost cut = ap (λ (s : MemorySite). (s, mid.1)) site ∙ ap (λ (d : Dialing). (old.0, d)) dialing in
      subst (λ (d : MemorySite × Dialing). Plays m p name count d new tracks' report) is here
