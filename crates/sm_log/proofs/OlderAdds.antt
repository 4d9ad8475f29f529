-- What was new by the older rule is new.
use Rattle.std.proofs.Common.{◌≡◌, ◌≤◌, ℕ, Bool, true, false, cond, leb, List, [], ◌∷◌, Option, Some, None, is_some, refl, ap, ◌∙◌, arith}
use Rattle.std.proofs.lemmas.Bool.{leb-true}
use Rattle.sm_log.specs.declared.verdict.Decision.TheVariants as decision
use Rattle.sm_log.specs.declared.verdict.Judged.TheVariants as judged
use Rattle.sm_model.specs.declared.address.Address.{Address}
use Rattle.sm_model.specs.declared.track.Track.{Track}
use Rattle.sm_log.specs.Times.{entry_at, decision, decided, AreTimes, overlapped_end}
use Rattle.sm_log.specs.Adds.{Add, track_at, place_of, times_of, judged_by, verdict}
use Rattle.sm_log.specs.Older.{last_end, older_decided, older_decision, older_verdict}
use Rattle.sm_log.proofs.Apart.{passed, not_before}

starts_before_end : (x : ℕ × ℕ) (ts : List (ℕ × ℕ)) → AreTimes (x ∷ ts) → x.0 ≤ last_end (x ∷ ts)
starts_before_end x [] times = omega arith
starts_before_end x (y ∷ ts) times = omega (arith, starts_before_end y ts times.2, times.1.0, times.0.0)

none_over_end : (t d : ℕ) (ts : List (ℕ × ℕ)) → AreTimes ts → last_end ts ≤ t → overlapped_end (t, d) ts ≡ None
none_over_end t d [] times h = refl
none_over_end t d (x ∷ []) times h = passed x [] t d (not_before x t d h)
none_over_end t d (x ∷ y ∷ ts) times h =
    passed x (y ∷ ts) t d (not_before x t d (omega (arith, times.1.0, starts_before_end y ts times.2, h))) ∙ none_over_end t d (y ∷ ts) times.2 h

older_new : (ts : List (ℕ × ℕ)) (t d : ℕ) (o : Option ℕ) → AreTimes ts → judged_by o (older_decision ts t d) ≡ judged.New → judged_by o (decision ts t d) ≡ judged.New
older_new ts t d o times e = by_entry (entry_at t ts) e
  where
    by_entry : (k : Option ℕ) → judged_by o (older_decided (last_end ts) t d k) ≡ judged.New → judged_by o (decided d k (overlapped_end (t, d) ts)) ≡ judged.New
    by_entry (Some w) e = e
    by_entry None e = by_test (leb (last_end ts) t) refl e
      where
        by_test : (b : Bool) → leb (last_end ts) t ≡ b → judged_by o (cond b decision.New (decision.Overlap (last_end ts))) ≡ judged.New → judged_by o (decided d None (overlapped_end (t, d) ts)) ≡ judged.New
        by_test true is e = ap (λ (x : Option ℕ). judged_by o (decided d None x)) (none_over_end t d ts times (leb-true (last_end ts) t is))
        by_test false is e = absurd cc

pub older_verdict_new : (channel : List Track) (adds : List Add) (x : Address) (d : ℕ) → AreTimes (times_of x.stream adds) → older_verdict channel adds x d ≡ judged.New → verdict channel adds x d ≡ judged.New
older_verdict_new channel adds x d times e = by_test (is_some (track_at x.stream x.bitrate channel)) e
  where
    by_test : (b : Bool) → cond b (judged_by (place_of x adds) (older_decision (times_of x.stream adds) x.time d)) judged.NotDeclared ≡ judged.New
        → cond b (judged_by (place_of x adds) (decision (times_of x.stream adds) x.time d)) judged.NotDeclared ≡ judged.New
    by_test true e = older_new (times_of x.stream adds) x.time d (place_of x adds) times e
    by_test false e = e
