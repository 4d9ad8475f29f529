-- What a rehearsal with status 0 was.
use Rattle.std.proofs.Common.{◌≡◌, inl, inr, ℕ, List, Option, Some, sym, ap, subst, ◌∙◌}
use Rattle.std.specs.Io.KnownBytes.{Appends}
use Rattle.sm_site.specs.Meanings.{Seen}
use Rattle.sm_client.specs.Turns.{Meaning}
use Rattle.sm_tool.specs.declared.answer.Answer.{Answer}
use Rattle.sm_tool.specs.declared.answer.Answer.TheVariants.{Found}
use Rattle.sm_tool.specs.Edges.{Dialing}
use Rattle.sm_tool.specs.Ran.{Around, IsRun, Means, MeansBy}
use Rattle.sm_tool.specs.Rehearsals.{IsRehearsed, RehearseMeans}
use Rattle.sm_run.specs.Runs.{RunsBy, shown_by}
use Rattle.sm_words.specs.Words.{Rehearse, Serving, Wanted, asked}
use Rattle.sm_usage.specs.Wrong.{wrong_words}
use Rattle.sm_ends.specs.Ended.{End}
use Rattle.sm_promises.proofs.Ending.{well}
use Rattle.sm_promises.specs.Promises.{ProgramRan}

module _ {D C P : Type 0} (site : Seen D) (t : Dialing C) (m : Meaning P) where
  abbrev Told : ℕ → ℕ → List P → End → End → Type 0
  Told number size policies out out' = (line : List ℕ) × IsRehearsed m number size policies line × Appends out.told out'.told line

  told : (number size : ℕ) (policies : List P) (out written out' : End) (text : List ℕ) → written ≡ out → Appends written.told out'.told text
      → RehearseMeans m number size policies (Found text) → Told number size policies out out'
  told number size policies out written out' text none appends (inl (line, is, same)) =
      let one : text ≡ line = cc in
      (line, is, subst (λ (e : End). Appends e.told out'.told line) none (subst (λ (l : List ℕ). Appends written.told out'.told l) one appends))
  told number size policies out written out' text none appends (inr starved) = absurd (cc)

  in_run : (policies : List P) (words : List (List ℕ)) (number size : ℕ) (old new : Around) (out out' : End) (before after : D) (c c' : C) (status : ℕ)
      → asked words ≡ Some (Rehearse number size) → status ≡ 0 → IsRun site t m policies words old new out out' before after c c' status → Told number size policies out out'
  in_run policies words number size old new out out' before after c c' status is zero r = go r.means
    where
      go : Means site t m policies words old new out r.written before after c c' r.answer → Told number size policies out out'
      go (inl h) =
          let w = well r.answer r.written out' status r.prints zero in
          let means = subst (λ (x : Option Wanted). MeansBy site t m policies (wrong_words words) x old new out r.written before after c c' r.answer) is h in
          told number size policies out r.written out' w.0 means.1 w.2 (subst (λ (a : Answer). RehearseMeans m number size policies a) w.1 means.0)
      go (inr h) = absurd (let no = sym (well r.answer r.written out' status r.prints zero).1 ∙ h.0 in cc)

  pub rehearses : (before after : D) (r : ProgramRan site t m before after) (number size : ℕ) → asked r.words ≡ Some (Rehearse number size) → r.status ≡ 0
      → Told number size r.policies r.output r.output'
  rehearses before after r number size is zero =
      let runs = subst (λ (o : Option (Serving × ℕ)). RunsBy site t m r.policies r.words o r.around r.around' r.output r.output' before after r.dial r.dial' r.staff r.staff' r.status) (ap shown_by is) r.runs in
      in_run r.policies r.words number size r.around r.around' r.output r.output' before after r.dial r.dial' r.status is zero runs.0
