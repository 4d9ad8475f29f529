-- A moof is read once, with the defaults of the track that it names.
use Rattle.std.proofs.Common.{◌≡◌, ℕ, List, Option, Some, None, Result, Ok, Err, refl, sym, ap, ◌∙◌}
use Rattle.sm_model.specs.declared.cause.Cause.{Cause}
use Rattle.sm_model.specs.declared.cause.Cause.TheVariants.{UnknownTrack}
use Rattle.sm_model.specs.declared.header.HeaderTrack.{HeaderTrack}
use Rattle.sm_push.specs.declared.state.PushState.{PushState}
use Rattle.sm_model.specs.declared.run.Defaults.{Defaults}
use Rattle.sm_model.specs.declared.run.Run.{Run}
use Rattle.sm_model.specs.Frag.{moof_run}
use Rattle.sm_model.specs.Moov.{no_defaults}
use Rattle.sm_model.specs.TrackId.{track_id}
use Rattle.sm_push.specs.PushBoxes.{Step, refuse, track_in, awaited, pending, moof_taken}
use Rattle.sm_push.specs.Steps.{for_id, track_for, defaults_in}

-- no cause depends on the defaults, and the track_ID that is found first is that of the run
pub record MoofLaws : Type 0 where
  pub causes : (d other : Defaults) (m : List ℕ) (cause : Cause) → moof_run d m ≡ Err cause → moof_run other m ≡ Err cause
  pub ids : (d : Defaults) (m : List ℕ) (run : Run) → moof_run d m ≡ Ok run → track_id m ≡ Some run.id

abbrev pub said_by : Option HeaderTrack → Run → PushState → List ℕ → Step
said_by None run s m = refuse s.at UnknownTrack
said_by (Some track) run s m = awaited (Ok run) track s m

abbrev pub said : Option HeaderTrack → Result Run Cause → PushState → List ℕ → Step
said track (Err cause) s m = refuse s.at cause
said track (Ok run) s m = said_by track run s m

known : (s : PushState) (m : List ℕ) (track : Option HeaderTrack) (run : Run) → moof_run (defaults_in track) m ≡ Ok run → pending track s m ≡ said track (Ok run) s m
known s m None run e = refl
known s m (Some track) run e = rw e refl

by_zero : MoofLaws → (s : PushState) (m : List ℕ) (zero r : Result Run Cause) (track : Option HeaderTrack) → track ≡ track_for s.stage m → moof_run no_defaults m ≡ zero
    → moof_run (defaults_in track) m ≡ r → moof_taken zero s m ≡ said track r s m
by_zero laws s m (Err cause) (Err other) track named z e =
    ap (λ (r : Result Run Cause). said track r s m) (sym (laws.causes no_defaults (defaults_in track) m cause z) ∙ e)
by_zero laws s m (Err cause) (Ok run) track named z e = absurd (let clash : Err cause ≡ Ok run = sym (laws.causes no_defaults (defaults_in track) m cause z) ∙ e in cc)
by_zero laws s m (Ok first) (Err cause) track named z e = absurd (let clash : Err cause ≡ Ok first = sym (laws.causes (defaults_in track) no_defaults m cause e) ∙ z in cc)
by_zero laws s m (Ok first) (Ok run) track named z e =
    let id : track_id m ≡ Some first.id = laws.ids no_defaults m first z in
    let same : track_in s.stage first.id ≡ track = ap (for_id s.stage) (sym id) ∙ sym named in
    ap (λ (t : Option HeaderTrack). pending t s m) same ∙ known s m track run e

-- what is said with the defaults of the track is what the definition takes
pub moof_said : MoofLaws → (s : PushState) (m : List ℕ) (track : Option HeaderTrack) (r : Result Run Cause) → track ≡ track_for s.stage m → moof_run (defaults_in track) m ≡ r
    → moof_taken (moof_run no_defaults m) s m ≡ said track r s m
moof_said laws s m track r named e = by_zero laws s m (moof_run no_defaults m) r track named refl e

pub moof_fails : MoofLaws → (s : PushState) (m : List ℕ) (d : Defaults) (cause : Cause) → d ≡ defaults_in (track_for s.stage m) → moof_run d m ≡ Err cause → moof_taken (moof_run no_defaults m) s m ≡ refuse s.at cause
moof_fails laws s m d cause same e = moof_said laws s m (track_for s.stage m) (Err cause) refl (ap (λ (x : Defaults). moof_run x m) (sym same) ∙ e)

pub moof_waits : MoofLaws → (s : PushState) (m : List ℕ) (d : Defaults) (run : Run) (track : Option HeaderTrack) → d ≡ defaults_in (track_for s.stage m) → moof_run d m ≡ Ok run → track ≡ track_in s.stage run.id
    → moof_taken (moof_run no_defaults m) s m ≡ said_by track run s m
moof_waits laws s m d run track same e found =
    let named : track ≡ track_for s.stage m = found ∙ ap (for_id s.stage) (sym (laws.ids d m run e)) in
    moof_said laws s m track (Ok run) named (ap (λ (t : Option HeaderTrack). moof_run (defaults_in t) m) named ∙ ap (λ (x : Defaults). moof_run x m) (sym same) ∙ e)
