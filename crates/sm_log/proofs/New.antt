-- What the verdict New says.
use Rattle.std.proofs.Common.{◌≡◌, ℕ, Bool, true, false, ◌&&◌, cond, eqb, List, [], ◌∷◌, Option, Some, None, is_some, refl, sym, ◌∙◌, ◌⊎◌, inl, inr}
use Rattle.sm_log.specs.declared.verdict.Decision.{Decision}
use Rattle.sm_log.specs.declared.verdict.Decision.TheVariants as decision
use Rattle.sm_log.specs.declared.verdict.Judged.TheVariants as judged
use Rattle.sm_model.specs.declared.address.Address.{Address}
use Rattle.sm_model.specs.declared.track.Track.{Track}
use Rattle.sm_model.specs.Same.{is_same}
use Rattle.sm_log.specs.Times.{entry_at, with_entry, decision, AreSorted}
use Rattle.sm_log.specs.Adds.{Add, track_at, place_of, times_from, times_of, judged_by, verdict}
use Rattle.sm_log.proofs.Choice.{chosen}
use Rattle.sm_log.proofs.Entries.{or_place, sorted_with, entry_with}
use Rattle.sm_log.proofs.Added.{new_means, there_means}

judged_new : (o : Option ℕ) (is : Decision) → judged_by o is ≡ judged.New → (is ≡ decision.New) ⊎ ((is ≡ decision.There) × (o ≡ None))
judged_new o decision.New e = inl refl
judged_new None decision.There e = inr (refl, refl)
judged_new (Some p) decision.There e = absurd cc
judged_new o (decision.Clash k) e = absurd cc
judged_new o (decision.Overlap k) e = absurd cc

-- what is kept has a time
place_free : (x : Address) (ts : List (ℕ × ℕ)) (adds : List Add) → AreSorted ts → entry_at x.time (times_from x.stream ts adds) ≡ None → (entry_at x.time ts ≡ None) × (place_of x adds ≡ None)
place_free x ts [] sorted e = (e, refl)
place_free x ts (a ∷ adds) sorted e =
    let next = cond (is_same a.address.stream x.stream) (with_entry a.address.time a.duration ts) ts in
    let sorted' : AreSorted next = chosen (is_same a.address.stream x.stream) AreSorted (with_entry a.address.time a.duration ts) ts (λ _. sorted_with a.address.time a.duration ts sorted) (λ _. sorted) in
    let rest = place_free x next adds sorted' e in
    by_test (is_same a.address.stream x.stream) (eqb a.address.bitrate x.bitrate) (eqb a.address.time x.time) refl rest.0 rest.1 (entry_with x.time a.address.time a.duration ts sorted)
  where
    none_or : (o : Option ℕ) (v : ℕ) → or_place o (Some v) ≡ None → ⊥
    none_or None v e = cc
    none_or (Some p) v e = cc

    by_test : (b c f : Bool) → eqb a.address.time x.time ≡ f → entry_at x.time (cond b (with_entry a.address.time a.duration ts) ts) ≡ None → place_of x adds ≡ None
        → entry_at x.time (with_entry a.address.time a.duration ts) ≡ cond (eqb a.address.time x.time) (or_place (entry_at x.time ts) (Some a.duration)) (entry_at x.time ts)
        → (entry_at x.time ts ≡ None) × (cond (b && (c && f)) (Some a.place) (place_of x adds) ≡ None)
    by_test true c true is e none w = absurd (none_or (entry_at x.time ts) a.duration (rw is at (sym w ∙ e)))
    by_test true true false is e none w = ((rw is at (sym w ∙ e)), none)
    by_test true false false is e none w = ((rw is at (sym w ∙ e)), none)
    by_test false c f is e none w = (e, none)

pub record IsNew (adds : List Add) (x : Address) (d : ℕ) : Type 0 where
  pub decision : (decision (times_of x.stream adds) x.time d ≡ decision.New) ⊎ (decision (times_of x.stream adds) x.time d ≡ decision.There)
  pub free : place_of x adds ≡ None
  pub value : (w : ℕ) → entry_at x.time (times_of x.stream adds) ≡ Some w → w ≡ d

pub is_new : (channel : List Track) (adds : List Add) (x : Address) (d : ℕ) → is_some (track_at x.stream x.bitrate channel) ≡ true → verdict channel adds x d ≡ judged.New → IsNew adds x d
is_new channel adds x d declared e =
    let by : judged_by (place_of x adds) (decision (times_of x.stream adds) x.time d) ≡ judged.New = rw declared at e in
    elim (judged_new (place_of x adds) (decision (times_of x.stream adds) x.time d) by) [
      | inl new ↦
          let none = (new_means (times_of x.stream adds) x.time d new).0 in
          record { decision = inl new; free = (place_free x [] adds tt none).1; value = λ w k. absurd cc }
      | inr there ↦
          let some = there_means (times_of x.stream adds) x.time d there.0 in
          record { decision = inr there.0; free = there.1; value = λ w k. let both : Some w ≡ Some d = sym k ∙ some in cc }
    ]
