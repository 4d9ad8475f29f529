-- A fragment that is answered by nothing is kept.
use Rattle.std.proofs.Common.{◌≡◌, ℕ, suc, ◌==◌, ◌&&◌, Bool, true, false, if◌then◌else◌, List, [], ◌∷◌, ◌++◌, Option, Some, None, IsSome, option_map, refl, sym, ◌∙◌, ap, subst, arith}
use Rattle.std.proofs.lemmas.Bool.{eq-eqb}
use Rattle.std.proofs.lemmas.Cmp.{nat_list_eq_equiv}
use Rattle.sm_model.specs.declared.act.Act.TheVariants.{Frag}
use Rattle.sm_model.specs.declared.address.Address.{Address}
use Rattle.sm_model.specs.declared.cause.Cause.{Cause}
use Rattle.sm_model.specs.declared.cause.Cause.TheVariants as cause
use Rattle.sm_model.specs.declared.entry.Entry.{Entry}
use Rattle.sm_model.specs.declared.entry.Entry.TheVariants.{Declare, Keep}
use Rattle.sm_model.specs.declared.fragment.Fragment.{Fragment}
use Rattle.sm_model.specs.declared.track.Track.{Track}
use Rattle.sm_model.specs.Causes.{cause_status}
use Rattle.sm_model.specs.Entries.{address_of}
use Rattle.sm_model.specs.Same.{is_same}
use Rattle.sm_log.specs.declared.verdict.Decision.{Decision}
use Rattle.sm_log.specs.declared.verdict.Decision.TheVariants as decisions
use Rattle.sm_log.specs.declared.verdict.Judged.{Judged as Verdict}
use Rattle.sm_log.specs.declared.verdict.Judged.TheVariants as verdicts
use Rattle.sm_log.specs.Adds.{Add, place_of, known_or_new, judged_by, is_declared, times_of}
use Rattle.sm_log.specs.Times.{decision}
use Rattle.sm_log.specs.Logs.{is_kept_at, kept_from, kept_at, adds_of, channel_of, verdict_by, verdict_on}
use Rattle.sm_reply.specs.declared.reply.Reply.{Reply}
use Rattle.sm_reply.specs.declared.reply.Counted.{Counted}
use Rattle.sm_reply.specs.Replies.{unplaced}
use Rattle.sm_origin.specs.Machine.{Machine, There, by_verdict, judged}
use Rattle.sm_origin.specs.Machine.{Writes, refused, there, full, kept, unwritten, Row, answered, unread, unsettled, wrote, Step, row, wants, untold}
use Rattle.sm_origin.proofs.Telling.{refusal_status}

-- ---- what was put behind a log is kept in it

same_itself : (xs : List ℕ) → is_same xs xs ≡ true
same_itself xs = nat_list_eq_equiv.refl xs

itself_kept : (f : Fragment) → is_kept_at (address_of f) f ≡ true
itself_kept f = ap (λ (b : Bool). b && (f.bitrate == f.bitrate && f.time == f.time)) (same_itself f.stream) ∙ ap (λ (b : Bool). b && f.time == f.time) (eq-eqb f.bitrate f.bitrate refl) ∙ eq-eqb f.time f.time refl

chosen : (b : Bool) (k : ℕ × Fragment) → b ≡ true → IsSome (if b then Some k else None)
chosen true k is = refl
chosen false k is = absurd (cc)

behind_kept : (place : ℕ) (log : List Entry) (f : Fragment) → IsSome (kept_from (address_of f) place (log ++ Keep f ∷ []))
behind_kept place [] f = chosen (is_kept_at (address_of f) f) (place, f) (itself_kept f)
behind_kept place (Declare tracks ∷ log) f = behind_kept (suc place) log f
behind_kept place (Keep g ∷ log) f = go (is_kept_at (address_of f) g) (behind_kept (suc place) log f)
  where
    go : (b : Bool) → IsSome (kept_from (address_of f) (suc place) (log ++ Keep f ∷ [])) → IsSome (if b then Some (place, g) else kept_from (address_of f) (suc place) (log ++ Keep f ∷ []))
    go true rest = refl
    go false rest = rest

-- ---- what is known is kept

known_place : (o : Option ℕ) (place : ℕ) → known_or_new o ≡ verdicts.Known place → IsSome o
known_place None place is = absurd (cc)
known_place (Some k) place is = refl

judged_place : (o : Option ℕ) (d : Decision) (place : ℕ) → judged_by o d ≡ verdicts.Known place → IsSome o
judged_place o decisions.New place is = absurd (cc)
judged_place o decisions.There place is = known_place o place is
judged_place o (decisions.Clash k) place is = absurd (cc)
judged_place o (decisions.Overlap end) place is = absurd (cc)

verdict_place : (channel : Option (List Track)) (adds : List Add) (a : Address) (duration place : ℕ) → verdict_by channel adds a duration ≡ verdicts.Known place → IsSome (place_of a adds)
verdict_place None adds a duration place is = absurd (cc)
verdict_place (Some channel) adds a duration place is = go (is_declared channel a) is
  where
    go : (b : Bool) → (if b then judged_by (place_of a adds) (decision (times_of a.stream adds) a.time duration) else verdicts.NotDeclared) ≡ verdicts.Known place → IsSome (place_of a adds)
    go true e = judged_place (place_of a adds) (decision (times_of a.stream adds) a.time duration) place e
    go false e = absurd (cc)

there_known : (f : Fragment) (v : Verdict) (counted : Counted) → by_verdict f v ≡ There counted → (place : ℕ) × (v ≡ verdicts.Known place)
there_known f verdicts.New counted is = absurd (cc)
there_known f (verdicts.Known place) counted is = (place, refl)
there_known f verdicts.NotDeclared counted is = absurd (cc)
there_known f (verdicts.Clash k) counted is = absurd (cc)
there_known f (verdicts.Overlap end) counted is = absurd (cc)

some_mapped : (o : Option (ℕ × Fragment)) → IsSome (option_map (λ (k : ℕ × Fragment). k.0) o) → IsSome o
some_mapped None some = absurd (cc)
some_mapped (Some k) some = refl

loud : (c : Cause) (r : Reply) → r ≡ unplaced c → r.status ≡ 0 → ⊥
loud c r is none = let low = (refusal_status c).0 in let status : r.status ≡ cause_status c = ap (λ (s : Reply). s.status) is in omega (arith, low, status, none)

module _ (places : (log : List Entry) (address : Address) → place_of address (adds_of log) ≡ option_map (λ (k : ℕ × Fragment). k.0) (kept_at log address)) where
  known_kept : (log : List Entry) (f : Fragment) (counted : Counted) → judged log (Keep f) ≡ There counted → IsSome (kept_at log (address_of f))
  known_kept log f counted is =
      let k = there_known f (verdict_on log f) counted is in
      some_mapped (kept_at log (address_of f)) (subst (λ (o : Option ℕ). IsSome o) (places log (address_of f)) (verdict_place (channel_of log) (adds_of log) (address_of f) f.duration k.0 k.1))

  writes_kept : (broken : Type 0) (m n : Machine) (f : Fragment) (r : Reply) → Writes broken m (Keep f) n r → r.status ≡ 0 → IsSome (kept_at n.log (address_of f))
  writes_kept broken m n f r (refused why so same is) none = absurd (loud why r is none)
  writes_kept broken m n f r (there counted so same is) none = subst (λ (log : List Entry). IsSome (kept_at log (address_of f))) (sym same.log) (known_kept m.log f counted so)
  writes_kept broken m n f r (full counted so limit same is) none = absurd (loud cause.Full r is none)
  writes_kept broken m n f r (kept counted so limit log doubt is) none = subst (λ (l : List Entry). IsSome (kept_at l (address_of f))) (sym log) (behind_kept 0 m.log f)
  writes_kept broken m n f r (unwritten counted so limit log doubt failed is) none = absurd (loud cause.DiskFault r is none)

  row_kept : (broken : Type 0) (m n : Machine) (f : Fragment) (r : Reply) → Row broken m (Frag f) n r → r.status ≡ 0 → IsSome (kept_at n.log (address_of f))
  row_kept broken m n f r (answered reads same is) none = absurd (cc)
  row_kept broken m n f r (unread a place g asks kept_ same failed is) none = absurd (cc)
  row_kept broken m n f r (unsettled e d entry doubt same failed is) none = absurd (loud cause.DiskFault r is none)
  row_kept broken m n f r (wrote e mid entry clear by) none =
      let is : e ≡ Keep f = (let same : Some (Keep f) ≡ Some e = entry in let one : Keep f ≡ e = cc in sym one) in
      writes_kept broken mid n f r (subst (λ (x : Entry). Writes broken mid x n r) is by) none

  pub silent_kept : (broken : Type 0) (m n : Machine) (f : Fragment) (r : Reply) → Step broken m (Frag f) n r → r.status ≡ 0 → IsSome (kept_at n.log (address_of f))
  silent_kept broken m n f r (row by) none = row_kept broken m n f r by none
  silent_kept broken m n f r (wants same is) none = let status : r.status ≡ 500 = ap (λ (s : Reply). s.status) is in absurd (omega (arith, status, none))
  silent_kept broken m n f r (untold meant by close is) none = let status : r.status ≡ 500 = ap (λ (s : Reply). s.status) is in absurd (omega (arith, status, none))
