-- Streams one after another.
use Rattle.std.proofs.Common.{◌≡◌, ◌≢◌, ◌<◌, ◌≤◌, ◌+◌, ◌⊎◌, ℕ, zero, suc, List, [], ◌∷◌, ◌++◌, length, drop, get_or}
use Rattle.std.proofs.Common.{Option, Some, None, refl, ap, sym, ◌∙◌, subst, arith, inl, inr, append_assoc, append-nil, length-append, slice_index_or, remove, add-one, drop-cons}
use Rattle.std.specs.Io.KnownBytes.{Appends, Keeps}
use Rattle.std.proofs.KnownBytes.{Keeps-refl, Keeps-trans, Appends-kept}
use Rattle.sm_model.specs.declared.entry.Entry.{Entry}
use Rattle.sm_fetch.specs.declared.dial.Exchange.{Exchange}
use Rattle.sm_fetch.specs.Exchanges.{with_all}
use Rattle.sm_client.specs.declared.plan.Plan.{Plan}
use Rattle.sm_client.specs.declared.report.End.{End}
use Rattle.sm_client.specs.declared.report.End.TheVariants as ends
use Rattle.sm_client.specs.declared.report.Report.{Report}
use Rattle.sm_client.specs.Turns.{Meaning, Turn, fresh, settle, Behaves}
use Rattle.sm_client.specs.Stands.{Item, State, nothing_read, state_after, written_at}
use Rattle.sm_client.specs.Asks.{AsksLast, turn_after, exchanges}
use Rattle.sm_client.specs.Ends.{IsTail}
use Rattle.sm_client.specs.Kept.{KeepsOn}
use Rattle.sm_client.specs.Plays.{Part, IsPart, PlaysAll, PlaysFrom, Played, PartsKept, PartsKeptOn, PlaysKept, PlayedKept, count_of, all_exchanges, written_of}
use Rattle.sm_client.specs.Served.{PlayedServed}
use Rattle.sm_client.specs.Calls.{StreamsEnd}
use Rattle.sm_client.proofs.Turns.{behaves-same, turn_after-behaves, asks-behaves, last-behaves}
use Rattle.sm_client.proofs.Went.{with_all-all, with_all-nil}
use Rattle.sm_client.proofs.Laws.{gapless-law, few-law}
use Rattle.sm_client.proofs.Kept.{parts-more}
use Rattle.sm_client.proofs.EndingWell.{from-well}
use Rattle.sm_client.proofs.ServedKept.{from-kept}
use Rattle.sm_client.proofs.PlayedWhole.{from-whole}

-- one stream, as a part of the call
pub record PartBy {P : Type 0} (m : Meaning P) (plan : Plan) (name : List ℕ) (number : ℕ) (start now : Turn P) (count : ℕ) (end : End)
    (log log' : Option (List Exchange)) (store store' : List Entry → Type 0) (track track' : Option (List ℕ)) : Type 0 where
  pub part : Part
  pub is : IsPart m plan name number start track track' part
  pub made : log' ≡ with_all log (exchanges (part.made ++ part.last))
  pub ended : part.end ≡ end
  pub counted : count ≡ length (written_of plan name part)
  pub turn : Behaves m (turn_after m start (part.made ++ part.last)) now
  pub kept : KeepsOn plan store store' (written_of plan name part)

pub part-by : {P : Type 0} {m : Meaning P} {plan : Plan} {name : List ℕ} {number : ℕ} {start now : Turn P} {count : ℕ} {end : End} {log log' : Option (List Exchange)}
    {store store' : List Entry → Type 0} {track track' : Option (List ℕ)}
    → 0 < plan.tries → 0 < plan.refresh → StreamsEnd m plan name number nothing_read start now count end log log' store store' track track'
    → PartBy m plan name number start now count end log log' store store' track track'
part-by {m = m} {plan = plan} {name = name} {number = number} {start = start} {end = end} {track = track} {track' = track'} tries refresh e =
    let w = e.streams.went in
    let at : state_after plan name nothing_read w.made ≡ e.to = w.state in
    let written : written_at (state_after plan name nothing_read w.made).stand ≡ e.streams.added = ap (λ s. written_at s.stand) at ∙ e.streams.written in
    let last : AsksLast m plan name (turn_after m start w.made) (state_after plan name nothing_read w.made) e.last = rw at w.asks_last in
    record {
      part = record { made = w.made; last = e.last; end = end; tail = e.tail };
      is = record {
        asks = w.asks;
        asks_last = last;
        gapless = gapless-law m plan name start w.made w.asks;
        text = rw written e.streams.text;
        tail = rw at e.behind;
        ends = rw at e.ends;
        few = few-law m plan name start w.made e.last tries refresh w.asks last;
      };
      made = w.log;
      ended = refl;
      counted = e.counted ∙ ap (λ s. length (written_at s.stand)) (sym at);
      turn = w.turn;
      kept = rw written e.streams.kept;
    }

-- the same part, begun by a turn that does the same
part-behaves : {P : Type 0} {m : Meaning P} {plan : Plan} {name : List ℕ} {number : ℕ} {t u : Turn P} {track track' : Option (List ℕ)} (part : Part) → Behaves m t u
    → IsPart m plan name number u track track' part → IsPart m plan name number t track track' part
part-behaves {plan = plan} {name = name} part b p = record {
  asks = asks-behaves plan name nothing_read part.made b p.asks;
  asks_last = last-behaves plan name (state_after plan name nothing_read part.made) part.last (turn_after-behaves part.made b) p.asks_last;
  gapless = p.gapless;
  text = p.text;
  tail = p.tail;
  ends = p.ends;
  few = p.few;
}

plays-behaves : {P : Type 0} {m : Meaning P} (plan : Plan) {t u : Turn P} (parts : List Part) (number : ℕ) (names : List (List ℕ)) (held held' : ℕ → Option (List ℕ)) (end : End) → Behaves m t u
    → PlaysAll m plan u number names held held' parts end → PlaysAll m plan t number names held held' parts end
plays-behaves plan [] number names held held' end b p = p
plays-behaves plan (part ∷ rest) number [] held held' end b p = p
plays-behaves {m = m} plan {t = t} {u = u} (part ∷ rest) number (name ∷ names) held held' end b p =
    (part-behaves part b p.0, by (λ q. plays-behaves plan rest (number + 1) names held held' end (turn_after-behaves part.made b) q) p.1)
  where
    by : (PlaysAll m plan (turn_after m u part.made) (number + 1) names held held' rest end → PlaysAll m plan (turn_after m t part.made) (number + 1) names held held' rest end)
        → ((part.end ≡ ends.Done) × PlaysAll m plan (turn_after m u part.made) (number + 1) names held held' rest end) ⊎ ((part.end ≢ ends.Done) × (rest ≡ []) × (end ≡ part.end))
        → ((part.end ≡ ends.Done) × PlaysAll m plan (turn_after m t part.made) (number + 1) names held held' rest end) ⊎ ((part.end ≢ ends.Done) × (rest ≡ []) × (end ≡ part.end))
    by f (inl d) = inl (d.0, f d.1)
    by f (inr e) = inr e

-- ---- tracks

kept-appends : (a b c : Option (List ℕ)) (xs : List ℕ) → Keeps a b → Appends b c xs → Appends a c xs
kept-appends None b c xs k p = tt
kept-appends (Some ws) None c xs k p = absurd k
kept-appends (Some ws) (Some bs) None xs k p = absurd p
kept-appends (Some ws) (Some bs) (Some cs) xs k p = p ∙ ap (λ l. l ++ xs) k

part-tracks : {P : Type 0} {m : Meaning P} {plan : Plan} {name : List ℕ} {number : ℕ} {t : Turn P} {a b c d : Option (List ℕ)} (part : Part) → Keeps a b → Keeps c d
    → IsPart m plan name number t b c part → IsPart m plan name number t a d part
part-tracks {a = a} {b = b} {c = c} {d = d} part before after p = record {
  asks = p.asks;
  asks_last = p.asks_last;
  gapless = p.gapless;
  text = Appends-kept a c d _ (kept-appends a b c _ before p.text) after;
  tail = p.tail;
  ends = p.ends;
  few = p.few;
}

-- ---- one stream after another

drop-name : (names : List (List ℕ)) (i : ℕ) (name : List ℕ) → i < length names → get_or names i name ≡ name → drop i names ≡ name ∷ drop (i + 1) names
drop-name names i name fits is = rw (add-one, drop-cons names i name) (ap (λ n. n ∷ drop (suc i) names) is)

-- so many streams were played, each to its end
pub record Playing {P : Type 0} (m : Meaning P) (plan : Plan) (start now : Turn P) (names : List (List ℕ)) (number played : ℕ) (log log' : Option (List Exchange)) (store store' : List Entry → Type 0)
    (held held' : ℕ → Option (List ℕ)) : Type 0 where
  pub parts : List Part
  pub count : length parts ≡ number
  pub made : log' ≡ with_all log (all_exchanges parts)
  pub others : (k : ℕ) → number ≤ k → Keeps (held k) (held' k)
  pub leads : (rest : List Part) (end : End) (last : ℕ → Option (List ℕ)) → ((k : ℕ) → k < number → Keeps (held' k) (last k))
      → PlaysAll m plan now number (drop number names) held last rest end → PlaysAll m plan start 0 names held last (parts ++ rest) end
  pub counts : (rest : List Part) → count_of plan names (parts ++ rest) ≡ played + count_of plan (drop number names) rest
  pub kept : PartsKeptOn plan store store' names parts

pub playing-start : {P : Type 0} (m : Meaning P) (plan : Plan) (t : Turn P) (names : List (List ℕ)) (log : Option (List Exchange)) (store : List Entry → Type 0) (held : ℕ → Option (List ℕ))
    → Playing m plan t t names 0 0 log log store store held held
playing-start m plan t names log store held = record {
  parts = [];
  count = refl;
  made = with_all-nil log;
  others = λ k some. Keeps-refl (held k);
  leads = λ rest end last kept p. p;
  counts = λ rest. omega arith;
  kept = record { on = λ kept told. ([], subst store (sym (append-nil kept)) told, none (kept ++ []) names) };
}
  where
    none : (kept : List Entry) (ns : List (List ℕ)) → PartsKept plan kept ns []
    none kept [] = tt
    none kept (n ∷ ns) = tt

exchanges-all : (xs ys : List Part) → all_exchanges (xs ++ ys) ≡ all_exchanges xs ++ all_exchanges ys
exchanges-all [] ys = refl
exchanges-all (x ∷ xs) ys = ap (λ l. exchanges (x.made ++ x.last) ++ l) (exchanges-all xs ys) ∙ sym (append_assoc (exchanges (x.made ++ x.last)) (all_exchanges xs) (all_exchanges ys))

made-more : (log mid new : Option (List Exchange)) (xs : List Part) (x : Part) → mid ≡ with_all log (all_exchanges xs) → new ≡ with_all mid (exchanges (x.made ++ x.last)) → new ≡ with_all log (all_exchanges (xs ++ x ∷ []))
made-more log mid new xs x p q =
    q ∙ (ap (λ o. with_all o (exchanges (x.made ++ x.last))) p ∙ (with_all-all log (all_exchanges xs) (exchanges (x.made ++ x.last))
    ∙ ap (with_all log) (ap (λ l. all_exchanges xs ++ l) (sym (append-nil (exchanges (x.made ++ x.last)))) ∙ sym (exchanges-all xs (x ∷ [])))))

module _ {P : Type 0} {m : Meaning P} {plan : Plan} {start now then : Turn P} {names : List (List ℕ)} {name : List ℕ} {number played count : ℕ} {end : End}
    {log mid new : Option (List Exchange)} {store before store' : List Entry → Type 0} {held there : ℕ → Option (List ℕ)} where
  -- a stream that was played behind these, whatever its end
  one-part : (held' : ℕ → Option (List ℕ)) → (k : Playing m plan start now names number played log mid store before held there)
      → (b : PartBy m plan name number now then count end mid new before store' (there number) (held' number))
      → ((j : ℕ) → j ≢ number → Keeps (there j) (held' j)) → (last : ℕ → Option (List ℕ)) → Keeps (held' number) (last number)
      → IsPart m plan name number now (held number) (last number) b.part
  one-part held' k b others last kept = part-tracks b.part (k.others number (omega arith)) kept b.is

  pub playing-more : (held' : ℕ → Option (List ℕ)) → (k : Playing m plan start now names number played log mid store before held there) → number < length names → get_or names number name ≡ name
      → PartBy m plan name number now then count end mid new before store' (there number) (held' number) → end ≡ ends.Done
      → ((j : ℕ) → j ≢ number → Keeps (there j) (held' j)) → Playing m plan start then names (number + 1) (played + count) log new store store' held held'
  playing-more held' k fits at b done others =
      let part = b.part in
      let ended : part.end ≡ ends.Done = b.ended ∙ done in
      let none : part.last ≡ [] = done-last _ part.last part.tail part.end ended b.is.tail in
      let turn : Behaves m (turn_after m now part.made) then = behaves-same _ (ap (turn_after m now) (sym (append-nil part.made) ∙ ap (λ l. part.made ++ l) (sym none))) b.turn in
      record {
        parts = k.parts ++ part ∷ [];
        count = rw length-append (omega (arith, k.count));
        made = made-more log mid new k.parts part k.made b.made;
        others = λ j over. Keeps-trans _ _ _ (k.others j (omega (arith, over))) (others j (λ e. omega (arith, over, e)));
        leads = λ rest e last kept p.
            rw append_assoc
            (k.leads (part ∷ rest) e last (λ j under. Keeps-trans _ _ _ (others j (λ is. omega (arith, under, is))) (kept j (omega (arith, under))))
            (rw (drop-name names number name fits at) (one-part held' k b others last (kept number (omega arith)), inl (ended, plays-behaves plan rest (number + 1) (drop (number + 1) names) held last e turn p))));
        counts = λ rest.
            ap (count_of plan names) (append_assoc k.parts (part ∷ []) rest) ∙ (k.counts (part ∷ rest)
            ∙ (ap (λ l. played + count_of plan l (part ∷ rest)) (drop-name names number name fits at) ∙ counted-more (length (written_of plan name part)) (count_of plan (drop (number + 1) names) rest) b.counted));
        kept = parts-more store before store' names k.parts part number name (drop (number + 1) names) k.count (drop-name names number name fits at) k.kept b.kept;
      }
    where
      done-last : (s : State) (last : List Item) (tail : List ℕ) (e : End) → e ≡ ends.Done → IsTail plan name e s last tail → last ≡ []
      done-last s last tail e is t = (rw is at t).last_is

      counted-more : (n r : ℕ) → count ≡ n → played + (n + r) ≡ played + count + r
      counted-more n r is = omega (arith, is)

  pub playing-ended : (held' : ℕ → Option (List ℕ)) → (k : Playing m plan start now names number played log mid store before held there) → number < length names → get_or names number name ≡ name
      → PartBy m plan name number now then count end mid new before store' (there number) (held' number) → end ≢ ends.Done
      → ((j : ℕ) → j ≢ number → Keeps (there j) (held' j))
      → PlaysKept m plan start 0 names log new store store' held held' (record { played = played + count; end = end })
  playing-ended held' k fits at b undone others =
      let part = b.part in record {
        plays = record {
          parts = k.parts ++ part ∷ [];
          made = made-more log mid new k.parts part k.made b.made;
          plays =
              k.leads (part ∷ []) end held' (λ j under. others j (λ is. omega (arith, under, is)))
              (rw (drop-name names number name fits at) (one-part held' k b others held' (Keeps-refl (held' number)), inr ((λ e. undone (sym b.ended ∙ e)), refl, sym b.ended)));
          others = λ j over. others-past j over;
          played = counted;
        };
        kept = parts-more store before store' names k.parts part number name (drop (number + 1) names) k.count (drop-name names number name fits at) k.kept b.kept;
      }
    where
      counted : played + count ≡ count_of plan names (k.parts ++ b.part ∷ [])
      counted = sym (k.counts (b.part ∷ []) ∙ (ap (λ l. played + count_of plan l (b.part ∷ [])) (drop-name names number name fits at) ∙ no_more (count_of plan (drop (number + 1) names) []) (none (drop (number + 1) names))))
        where
          none : (ns : List (List ℕ)) → count_of plan ns [] ≡ 0
          none [] = refl
          none (n ∷ ns) = refl

          no_more : (r : ℕ) → r ≡ 0 → played + (length (written_of plan name b.part) + r) ≡ played + count
          no_more r z = omega (arith, z, b.counted)

      others-past : (j : ℕ) → (j + 1 ≤ 0) ⊎ (0 + length (k.parts ++ b.part ∷ []) ≤ j) → Keeps (held j) (held' j)
      others-past j (inl h) = absurd (omega (arith, h))
      others-past j (inr h) = Keeps-trans _ _ _ (k.others j (omega (arith, len, h))) (others j (λ e. omega (arith, len, h, e)))
        where
          len : length (k.parts ++ b.part ∷ []) ≡ number + 1
          len = rw length-append (omega (arith, k.count))

pub playing-done : {P : Type 0} {m : Meaning P} {plan : Plan} {start now : Turn P} {names : List (List ℕ)} {number played : ℕ} {log new : Option (List Exchange)} {store store' : List Entry → Type 0}
    {held held' : ℕ → Option (List ℕ)}
    → Playing m plan start now names number played log new store store' held held' → length names ≤ number
    → PlaysKept m plan start 0 names log new store store' held held' (record { played = played; end = ends.Done })
playing-done {plan = plan} {names = names} {number = number} {played = played} {held = held} {held' = held'} k all =
    let none : drop number names ≡ [] = drop_past names number all in
    record {
      plays = record {
        parts = k.parts;
        made = k.made;
        plays = rw append-nil at (k.leads [] ends.Done held' (λ j under. Keeps-refl (held' j)) (none, refl));
        others = λ j over. past j over;
        played = sym (ap (count_of plan names) (sym (append-nil k.parts)) ∙ (k.counts [] ∙ (ap (λ l. played + count_of plan l []) none ∙ omega arith)));
      };
      kept = k.kept;
    }
  where
    drop_past : (ns : List (List ℕ)) (i : ℕ) → length ns ≤ i → drop i ns ≡ []
    drop_past [] zero h = refl
    drop_past [] (suc i) h = refl
    drop_past (n ∷ ns) zero h = absurd (omega (arith, h))
    drop_past (n ∷ ns) (suc i) h = drop_past ns i (omega (arith, h))

    past : (j : ℕ) → (j + 1 ≤ 0) ⊎ (0 + length k.parts ≤ j) → Keeps (held j) (held' j)
    past j (inl h) = absurd (omega (arith, h))
    past j (inr h) = k.others j (omega (arith, k.count, h))

-- ---- the whole call

begins : {P : Type 0} (m : Meaning P) {acting now : P} {rest qs : List P} (q : P) (ps : List P) → acting ≡ q → rest ≡ ps → settle m acting [] rest ≡ fresh now qs → settle m q [] ps ≡ fresh now qs
begins m {acting = acting} {rest = rest} q ps first next settled = ap (λ r. settle m q [] r) (sym next) ∙ (ap (λ a. settle m a [] rest) (sym first) ∙ settled)

module _ {P : Type 0} {m : Meaning P} {plan : Plan} {log new : Option (List Exchange)} {held held' : ℕ → Option (List ℕ)} {report : Report} {acting now : P} {rest qs : List P} where
  pub played-by : (ps : List P) → 0 < length ps → acting ≡ slice_index_or ps 0 acting → rest ≡ remove ps 0 → settle m acting [] rest ≡ fresh now qs
      → PlaysFrom m plan (fresh now qs) 0 plan.streams log new held held' report → Played m plan ps log new held held' report
  played-by [] some first next settled p = absurd (omega (arith, some))
  played-by (q ∷ ps) some first next settled p = rw (begins m q ps first next settled) p

  pub kept-by : {store store' : List Entry → Type 0} (ps : List P) → 0 < length ps → acting ≡ slice_index_or ps 0 acting → rest ≡ remove ps 0 → settle m acting [] rest ≡ fresh now qs
      → PlaysKept m plan (fresh now qs) 0 plan.streams log new store store' held held' report → PlayedKept m plan ps log new store store' held held' report
  kept-by [] some first next settled p = absurd (omega (arith, some))
  kept-by (q ∷ ps) some first next settled p = rw (begins m q ps first next settled) p

  pub served-by : (ps : List P) → 0 < length ps → acting ≡ slice_index_or ps 0 acting → rest ≡ remove ps 0 → settle m acting [] rest ≡ fresh now qs
      → PlaysFrom m plan (fresh now qs) 0 plan.streams log new held held' report → PlayedServed m plan ps log new held held' report
  served-by [] some first next settled p = absurd (omega (arith, some))
  served-by (q ∷ ps) some first next settled p =
      let begun : PlaysFrom m plan (settle m q [] ps) 0 plan.streams log new held held' report = rw (begins m q ps first next settled) p in
      record { plays = begun; kept = from-kept begun; well = from-well begun; whole = from-whole begun }
