use Rattle.std.proofs.Common.{rules, ◌≡◌, ◌⊎◌, ⊎_elim, ◌≤◌, ℕ, List, [], ◌∷◌, ◌++◌, take, length, Bool, true, false, IfSome, Option, refl, sym, subst}
use Rattle.sm_site.specs.Meanings.{View, Item, Deal, IsLive}
use Rattle.sm_site.specs.Meanings.Deal.{Sent, Shut}
use Rattle.sm_site.specs.Clauses.{Adds}
use Rattle.sm_players.specs.declared.telling.Outcome.TheVariants.{Failed}
use Rattle.sm_players.specs.Telling.{Goes, Tells, sent, closed, failed, unsent}
use Rattle.sm_players.proofs.Going.{goes_same, goes_one, goes_then, beside_then, beside_same, sent_beside, sent_live, shut_beside}
use Rattle.sm_players.proofs.telling.tell.Goals as goal

pub close-requires : goal.close-requires
close-requires g c =
    let V = g.W.Link.seen.view in
    let bytes = c.args.head.now ++ c.args.tail.now in
    let adds : Adds (Sent c.args.number bytes false) (V c.args.wire.now) (V c.send_both.new.self) = search rules in
    record { live = sent_live (V c.args.wire.now) (V c.send_both.new.self) c.args.number bytes false c.requires.live adds }

pub close-requires-in-Err : goal.close-requires-in-Err
close-requires-in-Err g c =
    let V = g.W.Link.seen.view in
    let n = c.args.number in
    let v = V c.args.wire.now in
    let w = V c.send_both.new.self in
    let bytes = c.args.head.now ++ c.args.tail.now in
    let part : ((k : ℕ) × (k ≤ length bytes) × Adds (Sent n (take k bytes) true) v w) ⊎ (w.transcript ≡ v.transcript) = search rules in
    record {
      live = ⊎_elim (λ (p : (k : ℕ) × (k ≤ length bytes) × Adds (Sent n (take k bytes) true) v w). sent_live v w n (take p.0 bytes) true c.requires.live p.2)
          (λ (same : w.transcript ≡ v.transcript). subst (λ (o : Option (List Item)). IfSome o (IsLive n)) (sym same) c.requires.live) part;
    }

pub returns-else-close-clause-goes : goal.returns-else-close-clause-goes
returns-else-close-clause-goes g c =
    let V = g.W.Link.seen.view in
    let n = c.args.number in
    let bytes = c.args.head.now ++ c.args.tail.now in
    let adds : Adds (Sent n bytes false) (V c.args.wire.now) (V c.send_both.new.self) = search rules in
    (Sent n bytes false ∷ [], goes_one (V c.args.wire.now) (V c.send_both.new.self) (Sent n bytes false) adds, sent c.if-close.false refl refl)

pub returns-else-close-clause-leaves : goal.returns-else-close-clause-leaves
returns-else-close-clause-leaves g c =
    let v = g.W.Link.seen.view c.args.wire.now in
    let w = g.W.Link.seen.view c.send_both.new.self in
    let n = c.args.number in
    let bytes = c.args.head.now ++ c.args.tail.now in
    let adds : Adds (Sent n bytes false) v w = search rules in
    record {
      live = λ is. sent_live v w n bytes false c.requires.live adds;
      others = sent_beside v w n bytes false adds;
      link_faults = search rules;
    }

pub returns-then-close-clause-goes : goal.returns-then-close-clause-goes
returns-then-close-clause-goes g c =
    let V = g.W.Link.seen.view in
    let n = c.args.number in
    let v = V c.args.wire.now in
    let w = V c.send_both.new.self in
    let x = V c.close.new.self in
    let bytes = c.args.head.now ++ c.args.tail.now in
    let adds : Adds (Sent n bytes false) v w = search rules in (
      Sent n bytes false ∷ Shut n ∷ [],
      goes_then v.transcript w.transcript x.transcript (Sent n bytes false ∷ []) (Shut n ∷ []) (goes_one v w (Sent n bytes false) adds) (goes_one w x (Shut n) c.close.ensures.shut),
      closed c.if-close.true refl refl,
    )

pub returns-then-close-clause-leaves : goal.returns-then-close-clause-leaves
returns-then-close-clause-leaves g c =
    let V = g.W.Link.seen.view in
    let n = c.args.number in
    let v = V c.args.wire.now in
    let w = V c.send_both.new.self in
    let x = V c.close.new.self in
    let bytes = c.args.head.now ++ c.args.tail.now in
    let adds : Adds (Sent n bytes false) v w = search rules in
    record {
      live = λ is. absurd (cc);
      others = beside_then n v.transcript w.transcript x.transcript (sent_beside v w n bytes false adds) (shut_beside w x n c.close.ensures.shut);
      link_faults = search rules;
    }

told_failed : (v w x : View) (n : ℕ) (bytes : List ℕ) (close : Bool) → ((k : ℕ) × (k ≤ length bytes) × Adds (Sent n (take k bytes) true) v w) ⊎ (w.transcript ≡ v.transcript) → Adds (Shut n) w x
    → (deals : List Deal) × Goes v.transcript x.transcript deals × Tells n bytes close deals Failed
told_failed v w x n bytes close part shut = ⊎_elim
    (λ (p : (k : ℕ) × (k ≤ length bytes) × Adds (Sent n (take k bytes) true) v w). (
      Sent n (take p.0 bytes) true ∷ Shut n ∷ [],
      goes_then v.transcript w.transcript x.transcript (Sent n (take p.0 bytes) true ∷ []) (Shut n ∷ []) (goes_one v w (Sent n (take p.0 bytes) true) p.2) (goes_one w x (Shut n) shut),
      failed p.0 refl refl,
    ))
    (λ (same : w.transcript ≡ v.transcript). (
      Shut n ∷ [],
      goes_then v.transcript w.transcript x.transcript [] (Shut n ∷ []) (goes_same v.transcript w.transcript same) (goes_one w x (Shut n) shut),
      unsent refl refl,
    )) part

pub returns-in-Err-clause-goes : goal.returns-in-Err-clause-goes
returns-in-Err-clause-goes g c =
    let V = g.W.Link.seen.view in
    let n = c.args.number in
    let v = V c.args.wire.now in
    let w = V c.send_both.new.self in
    let bytes = c.args.head.now ++ c.args.tail.now in
    let part : ((k : ℕ) × (k ≤ length bytes) × Adds (Sent n (take k bytes) true) v w) ⊎ (w.transcript ≡ v.transcript) = search rules in
    told_failed v w (V c.close-in-Err.new.self) n bytes c.args.close part c.close-in-Err.ensures.shut

pub returns-in-Err-clause-leaves : goal.returns-in-Err-clause-leaves
returns-in-Err-clause-leaves g c =
    let V = g.W.Link.seen.view in
    let n = c.args.number in
    let v = V c.args.wire.now in
    let w = V c.send_both.new.self in
    let x = V c.close-in-Err.new.self in
    let bytes = c.args.head.now ++ c.args.tail.now in
    let part : ((k : ℕ) × (k ≤ length bytes) × Adds (Sent n (take k bytes) true) v w) ⊎ (w.transcript ≡ v.transcript) = search rules in
    record {
      live = λ is. absurd (cc);
      others = beside_then n v.transcript w.transcript x.transcript
          (⊎_elim (λ (p : (k : ℕ) × (k ≤ length bytes) × Adds (Sent n (take k bytes) true) v w). sent_beside v w n (take p.0 bytes) true p.2)
          (λ (same : w.transcript ≡ v.transcript). beside_same n v.transcript w.transcript same) part)
          (shut_beside w x n c.close-in-Err.ensures.shut);
      link_faults = search rules;
    }
