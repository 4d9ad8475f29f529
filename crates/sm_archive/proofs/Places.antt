-- Whether a channel has an address's track.
use Rattle.std.proofs.Common.{◌≡◌, ℕ, suc, Bool, true, false, cond, ◌&&◌, eqb, List, [], ◌∷◌, Option, None, Some, is_some, refl, sym}
use Rattle.std.specs.Cmp.Lexicographic.{same_text}
use Rattle.std.proofs.lemmas.Bool.{eqb-true}
use Rattle.sm_model.specs.declared.track.Track.{Track}
use Rattle.sm_model.specs.declared.address.Address.{Address}
use Rattle.sm_model.specs.Same.{is_same}
use Rattle.sm_record.specs.Places.{IsPlaceOf}
use Rattle.sm_log.specs.declared.verdict.Decision.{Decision}
use Rattle.sm_log.specs.declared.verdict.Decision.TheVariants as decision
use Rattle.sm_log.specs.declared.verdict.Judged.{Judged}
use Rattle.sm_log.specs.declared.verdict.Judged.TheVariants.{NotDeclared}
use Rattle.sm_log.specs.Adds.{Add, known_or_new, judged_by, verdict, is_declared, track_at}

known_declared : (o : Option ℕ) → known_or_new o ≡ NotDeclared → ⊥
known_declared None e = absurd cc
known_declared (Some p) e = absurd cc

judged_declared : (o : Option ℕ) (d : Decision) → judged_by o d ≡ NotDeclared → ⊥
judged_declared o decision.New e = absurd cc
judged_declared o decision.There e = known_declared o e
judged_declared o (decision.Clash k) e = absurd cc
judged_declared o (decision.Overlap end) e = absurd cc

only_false : (b : Bool) (v : Judged) → (v ≡ NotDeclared → ⊥) → NotDeclared ≡ cond b v NotDeclared → b ≡ false
only_false true v p e = absurd (p (sym e))
only_false false v p e = refl

only_true : (b : Bool) (v x : Judged) → x ≡ cond b v NotDeclared → (x ≡ NotDeclared → ⊥) → b ≡ true
only_true true v x e p = refl
only_true false v x e p = absurd (p e)

pub is_not_declared : (tracks : List Track) (adds : List Add) (a : Address) (d : ℕ) → NotDeclared ≡ verdict tracks adds a d → is_declared tracks a ≡ false
is_not_declared tracks adds a d e = only_false (is_declared tracks a) _ (judged_declared _ _) e

pub is_declared_by : (tracks : List Track) (adds : List Add) (a : Address) (d : ℕ) (v : Judged) → v ≡ verdict tracks adds a d → (v ≡ NotDeclared → ⊥) → is_declared tracks a ≡ true
is_declared_by tracks adds a d v e p = only_true (is_declared tracks a) _ v e p

both_true : (a b : Bool) → (a && b) ≡ true → (a ≡ true) × (b ≡ true)
both_true true true e = (refl, refl)
both_true true false e = absurd cc
both_true false b e = absurd cc

found_here : (t : Track) (ts : List Track) (a : Address) → (is_same t.name a.stream && eqb t.bitrate a.bitrate) ≡ true → (place : ℕ) × IsPlaceOf (t ∷ ts) a place
found_here t ts a e =
    let b = both_true (is_same t.name a.stream) (eqb t.bitrate a.bitrate) e in
    (0, record { track = t; there = refl; stream = same_text t.name a.stream (sym b.0); bitrate = eqb-true t.bitrate a.bitrate b.1 })

found_later : (t : Track) (ts : List Track) (a : Address) → (place : ℕ) × IsPlaceOf ts a place → (place : ℕ) × IsPlaceOf (t ∷ ts) a place
found_later t ts a p = (suc p.0, record { track = p.1.track; there = p.1.there; stream = p.1.stream; bitrate = p.1.bitrate })

here_or_later : (b : Bool) (t : Track) (ts : List Track) (a : Address) → (is_same t.name a.stream && eqb t.bitrate a.bitrate) ≡ b → is_some (cond b (Some t) (track_at a.stream a.bitrate ts)) ≡ true
    → (is_declared ts a ≡ true → (place : ℕ) × IsPlaceOf ts a place) → (place : ℕ) × IsPlaceOf (t ∷ ts) a place
here_or_later true t ts a is e later = found_here t ts a is
here_or_later false t ts a is e later = found_later t ts a (later e)

-- the track's place
pub place_in : (tracks : List Track) (a : Address) → is_declared tracks a ≡ true → (place : ℕ) × IsPlaceOf tracks a place
place_in [] a e = absurd cc
place_in (t ∷ ts) a e = here_or_later (is_same t.name a.stream && eqb t.bitrate a.bitrate) t ts a refl e (place_in ts a)
