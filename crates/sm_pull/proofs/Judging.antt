-- What keeping one fragment answers where nothing was in doubt and nothing is kept at its address.
use Rattle.std.proofs.Common.{◌≡◌, ◌⊎◌, ℕ, Bool, true, false, cond, Result, Ok, Err, refl, List, [], ◌∷◌, ◌++◌, Option, Some, None, sym, ap, subst, ◌∙◌, inl, inr, ⊎_elim}
use Rattle.std.specs.Prelude.{OnOk, IfErr, is_some}
use Rattle.std.specs.Option.{option_map}
use Rattle.sm_model.specs.declared.address.Address.{Address}
use Rattle.sm_model.specs.declared.entry.Entry.{Entry}
use Rattle.sm_model.specs.declared.entry.Entry.TheVariants.{Keep}
use Rattle.sm_model.specs.declared.fragment.Fragment.{Fragment}
use Rattle.sm_model.specs.declared.track.Track.{Track}
use Rattle.sm_model.specs.Entries.{address_of}
use Rattle.sm_log.specs.declared.verdict.Decision.{Decision}
use Rattle.sm_log.specs.declared.verdict.Decision.TheVariants as decision
use Rattle.sm_log.specs.declared.verdict.Judged.TheVariants as judged
use Rattle.sm_log.specs.Adds.{judged_by, verdict, is_declared, place_of, times_of}
use Rattle.sm_log.specs.Times.{decision}
use Rattle.sm_log.specs.Logs.{adds_of, channel_of, kept_at, verdict_by, verdict_on}
use Rattle.sm_site.specs.Image.{Image}
use Rattle.sm_archive.specs.declared.answers.Keeping.{Keeping}
use Rattle.sm_archive.specs.declared.answers.Keeping.TheVariants as keepings
use Rattle.sm_archive.specs.Keeping.{IsWithin, MeetsLimit, refusal_of, KeepStep}
use Rattle.sm_archive.specs.declared.archive.Archive.{Archive}
use Rattle.sm_archive.specs.Steps.{Settles, Clears, Grows}
use Rattle.sm_archive.specs.Stands.{Stands}
use Rattle.sm_pull.specs.declared.stop.Stop.{Stop}
use Rattle.sm_pull.specs.Adds.{IsStopOf, NotKept}

-- ---- nothing was in doubt

none_some : (d : Entry) → None ≡ Some d → ⊥
none_some d e = cc

settles_none : (log after : List Entry) → Settles log None after → after ≡ log
settles_none log after (inl same) = same
settles_none log after (inr (d, some, more)) = absurd (none_some d some)

clears_none : (acted : Type 0) (log mid : List Entry) → Clears acted log None mid → mid ≡ log
clears_none acted log mid (inl (none, same)) = same
clears_none acted log mid (inr (some, settles, did)) = settles_none log mid settles

pub grows_none : (log : List Entry) (e : Entry) (after : List Entry) → Grows log None e after → (after ≡ log) ⊎ (after ≡ log ++ e ∷ [])
grows_none log e after (inl settles) = inl (settles_none log after settles)
grows_none log e after (inr (mid, settles, more)) = inr (more ∙ ap (λ (l : List Entry). l ++ e ∷ []) (settles_none log mid settles))

stands_at : (a : Archive) (log mid : List Entry) (outcomes : Image → Type 0) → mid ≡ log → Stands a mid None outcomes → Stands a log None outcomes
stands_at a log mid outcomes same stands = subst (λ (l : List Entry). Stands a l None outcomes) same stands

doubts_at : (a : Archive) (log mid : List Entry) (e : Entry) (outcomes : Image → Type 0) → mid ≡ log → Stands a mid (Some e) outcomes → Stands a log (Some e) outcomes
doubts_at a log mid e outcomes same stands = subst (λ (l : List Entry). Stands a l (Some e) outcomes) same stands

untrue : (o : Option Entry) → o ≡ None → is_some o ≡ true → ⊥
untrue None e some = cc
untrue (Some d) e some = cc

-- ---- nothing is kept there

none_known : (kept : Option ℕ) (d : Decision) (place : ℕ) → kept ≡ None → judged_by kept d ≡ judged.Known place → ⊥
none_known kept decision.New place none is = cc
none_known None decision.There place none is = cc
none_known (Some k) decision.There place none is = cc
none_known kept (decision.Clash k) place none is = cc
none_known kept (decision.Overlap end) place none is = cc

declared_known : (declared : Bool) (kept : Option ℕ) (d : Decision) (place : ℕ) → kept ≡ None → cond declared (judged_by kept d) judged.NotDeclared ≡ judged.Known place → ⊥
declared_known true kept d place none is = none_known kept d place none is
declared_known false kept d place none is = cc

channel_known : (channel : Option (List Track)) (log : List Entry) (f : Fragment) (place : ℕ) → place_of (address_of f) (adds_of log) ≡ None
    → verdict_by channel (adds_of log) (address_of f) f.duration ≡ judged.Known place → ⊥
channel_known None log f place none is = cc
channel_known (Some channel) log f place none is =
    declared_known (is_declared channel (address_of f)) (place_of (address_of f) (adds_of log)) (decision (times_of f.stream (adds_of log)) f.time f.duration) place none is

not_known : ((log : List Entry) (address : Address) → place_of address (adds_of log) ≡ option_map (λ (k : ℕ × Fragment). k.0) (kept_at log address)) → (log : List Entry) (f : Fragment) (place : ℕ)
    → kept_at log (address_of f) ≡ None → verdict_on log f ≡ judged.Known place → ⊥
not_known places log f place none is =
    channel_known (channel_of log) log f place (places log (address_of f) ∙ ap (λ (k : Option (ℕ × Fragment)). option_map (λ (k : ℕ × Fragment). k.0) k) none) is

pub step_known : ((log : List Entry) (address : Address) → place_of address (adds_of log) ≡ option_map (λ (k : ℕ × Fragment). k.0) (kept_at log address)) → (acted : Type 0) (outcomes : Image → Type 0)
    (a : Archive) (log : List Entry) (f : Fragment) (r : Keeping) (place : ℕ) → kept_at log (address_of f) ≡ None → KeepStep acted outcomes a log None f r → r ≡ keepings.Known place → ⊥
step_known places acted outcomes a log f (keepings.Kept at) place none s is = cc
step_known places acted outcomes a log f (keepings.Known at) place none (mid, clears, verdict, stands) is =
    not_known places log f at none (subst (λ (l : List Entry). verdict_on l f ≡ judged.Known at) (clears_none acted log mid clears) verdict)
step_known places acted outcomes a log f (keepings.Refused cause) place none s is = cc
step_known places acted outcomes a log f keepings.Full place none s is = cc
step_known places acted outcomes a log f keepings.DiskFault place none s is = cc
step_known places acted outcomes a log f keepings.NoMemory place none s is = cc

-- ---- the answers

-- what was kept stands behind the log, and was new
pub kept_step : {A : Type 0} (acted : Type 0) (outcomes : Image → Type 0) (a : Archive) (log : List Entry) (f : Fragment) (k : Keeping) (address : Address) (r : Result A Stop) → IsStopOf k address r
    → KeepStep acted outcomes a log None f k → OnOk r ((verdict_on log f ≡ judged.New) × Stands a (log ++ Keep f ∷ []) None outcomes)
kept_step acted outcomes a log f (keepings.Kept place) address (Ok x) is (mid, clears, verdict, at, within, did, stands) =
    let same = clears_none acted log mid clears in
    (subst (λ (l : List Entry). verdict_on l f ≡ judged.New) same verdict, subst (λ (l : List Entry). Stands a (l ++ Keep f ∷ []) None outcomes) same stands)
kept_step acted outcomes a log f (keepings.Known place) address (Ok x) is s = absurd is
kept_step acted outcomes a log f (keepings.Refused cause) address (Ok x) is s = absurd is
kept_step acted outcomes a log f keepings.Full address (Ok x) is s = absurd is
kept_step acted outcomes a log f keepings.DiskFault address (Ok x) is s = absurd is
kept_step acted outcomes a log f keepings.NoMemory address (Ok x) is s = absurd is
kept_step acted outcomes a log f k address (Err why) is s = tt

-- what wasn't has its reason, and may be in doubt
pub other_step : {A : Type 0} (acted : Type 0) (outcomes : Image → Type 0) (a : Archive) (log : List Entry) (f : Fragment) (k : Keeping) (address : Address) (r : Result A Stop) → IsStopOf k address r
    → KeepStep acted outcomes a log None f k → IfErr r (λ why. NotKept a log f address why × (Stands a log None outcomes ⊎ Stands a log (Some (Keep f)) outcomes))
other_step acted outcomes a log f k address (Ok x) is s = tt
other_step acted outcomes a log f (keepings.Kept place) address (Err why) is s = absurd is
other_step acted outcomes a log f (keepings.Known place) address (Err why) is s = absurd is
other_step acted outcomes a log f (keepings.Refused cause) address (Err why) is (mid, clears, verdict, stands) =
    let same = clears_none acted log mid clears in
    subst (λ (w : Stop). NotKept a log f address w × (Stands a log None outcomes ⊎ Stands a log (Some (Keep f)) outcomes)) (sym is)
    ((refl, subst (λ (l : List Entry). refusal_of f (verdict_on l f) ≡ Some cause) same verdict), inl (stands_at a log mid outcomes same stands))
other_step acted outcomes a log f keepings.Full address (Err why) is (mid, clears, verdict, limit, stands) =
    let same = clears_none acted log mid clears in
    subst (λ (w : Stop). NotKept a log f address w × (Stands a log None outcomes ⊎ Stands a log (Some (Keep f)) outcomes)) (sym is) (
      (subst (λ (l : List Entry). verdict_on l f ≡ judged.New) same verdict, subst (λ (l : List Entry). MeetsLimit a l f) same limit),
      inl (stands_at a log mid outcomes same stands),
    )
other_step acted outcomes a log f keepings.DiskFault address (Err why) is (inl (some, stands)) = absurd (untrue None refl some)
other_step acted outcomes a log f keepings.DiskFault address (Err why) is (inr (mid, clears, verdict, within, left)) =
    let same = clears_none acted log mid clears in
    subst (λ (w : Stop). NotKept a log f address w × (Stands a log None outcomes ⊎ Stands a log (Some (Keep f)) outcomes)) (sym is) (
      (subst (λ (l : List Entry). verdict_on l f ≡ judged.New) same verdict, subst (λ (l : List Entry). IsWithin a l f) same within),
      ⊎_elim (λ stands. inl (stands_at a log mid outcomes same stands)) (λ doubts. inr (doubts_at a log mid (Keep f) outcomes same doubts.1)) left,
    )
other_step acted outcomes a log f keepings.NoMemory address (Err why) is stands =
    subst (λ (w : Stop). NotKept a log f address w × (Stands a log None outcomes ⊎ Stands a log (Some (Keep f)) outcomes)) (sym is) (tt, inl stands)

-- ---- clauses

pub on_ok : {A E : Type 0} {P Q : Type 0} (r : Result A E) → (P → Q) → OnOk r P → OnOk r Q
on_ok (Ok a) so p = so p
on_ok (Err e) so p = tt

pub if_err : {A E : Type 0} {P Q : E → Type 0} (r : Result A E) → ((e : E) → P e → Q e) → IfErr r P → IfErr r Q
if_err (Ok a) so p = tt
if_err (Err e) so p = so e p

-- a clause for each log that is stood for
pub on_ok_each : {A E L : Type 0} (S X : L → Type 0) (r : Result A E) → ((l : L) → S l → OnOk r (X l)) → OnOk r ((l : L) → S l → X l)
on_ok_each S X (Ok a) each = each
on_ok_each S X (Err e) each = tt

pub if_err_each : {A E L : Type 0} (S : L → Type 0) (X : E → L → Type 0) (r : Result A E) → ((l : L) → S l → IfErr r (λ e. X e l)) → IfErr r (λ e. (l : L) → S l → X e l)
if_err_each S X (Ok a) each = tt
if_err_each S X (Err e) each = each
