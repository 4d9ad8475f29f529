-- The channel of a store that was opened.
use Rattle.std.proofs.Common.{◌≡◌, List, Some, None, Result, Ok, Err, refl, sym, ap, ◌∙◌, ⊎_elim}
use Rattle.std.specs.Prelude.{IfErr, IfOk}
use Rattle.sm_model.specs.declared.entry.Entry.{Entry}
use Rattle.sm_model.specs.declared.track.Track.{Track}
use Rattle.sm_site.specs.Image.{Image}
use Rattle.sm_site.specs.Meanings.{Seen}
use Rattle.sm_log.specs.Logs.{channel_of}
use Rattle.sm_archive.specs.declared.archive.Archive.{Archive}
use Rattle.sm_archive.specs.declared.answers.Declared.{Declared}
use Rattle.sm_archive.specs.declared.answers.Declared.TheVariants as declared
use Rattle.sm_archive.specs.Declaring.{DeclareStep}
use Rattle.sm_archive.specs.Stands.{Stands}
use Rattle.sm_command.specs.Serving.{outcome_of}
use Rattle.sm_command.specs.Opening.{IsDeclared, Agrees}
use Rattle.sm_edge.specs.Opening.{IsEdgeStore}
use Rattle.sm_ends.specs.Ended.{End}

abbrev HasChannel : Archive → (Image → Type 0) → Type 0
HasChannel archive outcomes = (log : List Entry) × (channel : List Track) × Stands archive log None outcomes × (channel_of log ≡ Some channel)

by_answer : (acted : Type 0) (outcomes : Image → Type 0) (archive : Archive) (log : List Entry) (channel : List Track) (answer : Declared) → Ok tt ≡ outcome_of answer
    → DeclareStep acted outcomes archive log None channel answer → HasChannel archive outcomes
by_answer acted outcomes archive log channel declared.Fixed is s = ((_, channel, s.2.3, refl))
by_answer acted outcomes archive log channel declared.Agreed is s = ((s.0, s.2.0, s.2.3, s.2.1))
by_answer acted outcomes archive log channel (declared.Refused cause) is s = absurd (cc)
by_answer acted outcomes archive log channel declared.Full is s = absurd (cc)
by_answer acted outcomes archive log channel declared.DiskFault is s = absurd (cc)
by_answer acted outcomes archive log channel declared.NoMemory is s = absurd (cc)

pub channel_there : {D : Type 0} (site : Seen D) (input input' : End) (archive : Archive) (old new : D) → IsDeclared site input input' archive old new
    → HasChannel archive (site.may_leave new)
channel_there site input input' archive old new d =
    ⊎_elim (λ (a : Agrees site input.told input'.told d.tries.found.log archive d.tries.opened new (Ok tt)). by_answer _ (site.may_leave new) archive d.tries.found.log a.channel a.answer a.comes_to a.step)
    (λ none. absurd none.0) d.tries.agrees

pub edge_store : {D : Type 0} (site : Seen D) (input input' : End) (archive : Archive) (own : List Track) (old new : D) → IsDeclared site input input' archive old new
    → ((log : List Entry) (channel : List Track) → Stands archive log None (site.may_leave new) → channel_of log ≡ Some channel → own ≡ channel) → IsEdgeStore site input input' archive own old new
edge_store site input input' archive own old new declared same =
    let h = channel_there site input input' archive old new declared in
    record { declared = declared; log = h.0; stands = h.2; channel_is = h.3 ∙ ap (λ (c : List Track). Some c) (sym (same h.0 h.1 h.2 h.3)) }

pub if_ok : {A E : Type 0} {P Q : A → Type 0} (r : Result A E) → ((x : A) → P x → Q x) → IfOk r P → IfOk r Q
if_ok (Ok x) so p = so x p
if_ok (Err e) so p = tt

pub if_err : {A E : Type 0} {P Q : E → Type 0} (r : Result A E) → ((e : E) → P e → Q e) → IfErr r P → IfErr r Q
if_err (Ok x) so p = tt
if_err (Err e) so p = so e p
