-- What status 0 says of players, and words that ask for nothing.
use Rattle.std.proofs.Common.{◌≡◌, ◌⊎◌, inl, inr, ℕ, Bool, true, false, cond, ◌==◌, ◌&&◌, List, Option, Some, None, refl, sym, ap, subst, ◌∙◌, arith}
use Rattle.std.proofs.lemmas.Bool.Decides.{nat_tests}
use Rattle.sm_site.specs.Meanings.{Seen}
use Rattle.sm_serve.specs.declared.outcome.Served.{Served as Outcome}
use Rattle.sm_serve.specs.declared.outcome.Served.TheVariants as served
use Rattle.sm_players.specs.declared.spawner.Finished.{Finished}
use Rattle.sm_players.specs.declared.spawner.SpawnError.TheVariants as spawn
use Rattle.sm_command.specs.declared.fault.StoreFault.TheVariants as why
use Rattle.sm_client.specs.Turns.{Meaning}
use Rattle.sm_tool.specs.declared.answer.Answer.{Answer}
use Rattle.sm_tool.specs.declared.answer.Answer.TheVariants.{Found, LinkFault, Starved, Words}
use Rattle.sm_tool.specs.Edges.{Dialing}
use Rattle.sm_tool.specs.Ran.{IsRun, Means, MeansBy, Prints}
use Rattle.sm_run.specs.declared.fault.ShowFault.{ShowFault}
use Rattle.sm_run.specs.declared.fault.ShowFault.TheVariants as fault
use Rattle.sm_run.specs.Runs.{RunsBy, ShowAnswers, shown_by}
use Rattle.sm_run.specs.Staff.{Staff}
use Rattle.sm_run.specs.Telling.{TellsShown, TellsUnshown, answer_of, shown_line}
use Rattle.sm_words.specs.Words.{ServeShown, Serving, Wanted, asked}
use Rattle.sm_usage.specs.Wrong.{wrong_words}
use Rattle.sm_ends.specs.Ended.{End}
use Rattle.sm_promises.proofs.Ending.{well}
use Rattle.sm_promises.specs.Promises.{ProgramRan, AllPlayed}

is_zero : (a : ℕ) → (a == 0) ≡ true → a ≡ 0
is_zero a h = grind (arith, nat_tests)

by_bits : (x y z : Bool) (line text : List ℕ) → cond x (cond (y && z) (Found line) Starved) LinkFault ≡ Found text → (x ≡ true) × (y ≡ true) × (z ≡ true)
by_bits true true true line text is = (refl, refl, refl)
by_bits true true false line text is = absurd (let no : Starved ≡ Found text = is in cc)
by_bits true false z line text is = absurd (let no : Starved ≡ Found text = is in cc)
by_bits false y z line text is = absurd (let no : LinkFault ≡ Found text = is in cc)

zeros : (a b c : ℕ) (line text : List ℕ) → cond (a == 0) (cond (b == 0 && c == 0) (Found line) Starved) LinkFault ≡ Found text → (a ≡ 0) × (b ≡ 0) × (c ≡ 0)
zeros a b c line text is = let bits = by_bits (a == 0) (b == 0) (c == 0) line text is in (is_zero a bits.0, is_zero b bits.1, is_zero c bits.2)

none_failed : (end : Outcome) (f : Finished) (text : List ℕ) → answer_of end f ≡ Found text → (f.faulted ≡ 0) × (f.starved ≡ 0)
none_failed (served.Done taken behind short) f text is = let z = zeros f.faulted f.starved short (shown_line taken behind) text is in (z.0, z.1)
none_failed served.LinkFault f text is = absurd (cc)
none_failed served.NoMemory f text is = absurd (cc)

told : (end : Outcome) (f : Finished) (text : List ℕ) → TellsShown end f (Found text) → (f.faulted ≡ 0) × (f.starved ≡ 0)
told end f text (inl is) = none_failed end f text (sym is)
told end f text (inr starved) = absurd (let no = starved.0 in cc)

untold : (w : ShowFault) (text : List ℕ) → TellsUnshown w (Found text) → ⊥
untold (fault.Store why.DiskFault) text (inl is) = cc
untold (fault.Store why.LinkFault) text (inl is) = cc
untold (fault.Store (why.NotAStore at)) text (inl is) = cc
untold (fault.Store why.Unread) text (inl is) = cc
untold (fault.Store why.LongLadder) text (inl is) = cc
untold (fault.Store (why.BadLadder at)) text (inl is) = cc
untold (fault.Store (why.Refused cause)) text (inl is) = cc
untold (fault.Store why.Full) text (inl is) = cc
untold (fault.Store why.Damaged) text (inl is) = cc
untold (fault.Store why.NoMemory) text (inl is) = cc
untold (fault.Store w) text (inr starved) = cc
untold (fault.Spawn spawn.Failed) text is = cc
untold (fault.Spawn spawn.NoMemory) text is = cc

module _ {D : Type 0} (site : Seen D) where
  played : (s : Serving) (players : ℕ) (in_ in' : End) (before after : D) (staff staff' : Staff) (text : List ℕ) → ShowAnswers site s players in_ in' before after staff staff' (Found text) → AllPlayed players staff staff'
  played s players in_ in' before after staff staff' text (inl (inl (end, finished, shelf, shown, staffed, tells), chosen)) =
      let z = told end finished text tells in
      let faulted = z.0 in
      let starved = z.1 in
      let all = staffed.all in
      record {
        started = staffed.started;
        joins = (shelf.table, staffed.joins);
        well = ap (λ (f : Finished). f.done) (sym staffed.counted) ∙ omega (arith, faulted, starved, all);
      }
  played s players in_ in' before after staff staff' text (inl (inr (w, unshown, tells), chosen)) = absurd (untold w text tells)
  played s players in_ in' before after staff staff' text (inr h) = absurd (let no = h.0 in cc)

  pub all_played : {C P : Type 0} (t : Dialing C) (m : Meaning P) (before after : D) (r : ProgramRan site t m before after) (s : Serving) (players : ℕ)
      → asked r.words ≡ Some (ServeShown s players) → r.status ≡ 0 → AllPlayed players r.staff r.staff'
  all_played t m before after r s players is nought =
      let runs = subst (λ (o : Option (Serving × ℕ)). RunsBy site t m r.policies r.words o r.around r.around' r.output r.output' before after r.dial r.dial' r.staff r.staff' r.status) (ap shown_by is) r.runs in
      let w = well runs.answer r.output r.output' r.status runs.prints nought in
      played s players r.around.input r.around'.input before after r.staff r.staff' w.0
      (subst (λ (a : Answer). ShowAnswers site s players r.around.input r.around'.input before after r.staff r.staff' a) w.1 runs.means)

  abbrev Nothing : {C P : Type 0} (t : Dialing C) (m : Meaning P) (before after : D) → ProgramRan site t m before after → Type 0
  Nothing t m before after r =
      (after ≡ before) × (r.dial' ≡ r.dial) × (r.around' ≡ r.around) × (r.staff' ≡ r.staff) × ((r.status ≡ 2) ⊎ (r.status ≡ 9))

  two : (text : List ℕ) (out out' : End) (status : ℕ) → Prints (Words text) out out' status → status ≡ 2
  two text out out' status (inl h) = h.0
  two text out out' status (inr h) = h.0

  nine : (out out' : End) (status : ℕ) → Prints Starved out out' status → status ≡ 9
  nine out out' status (inl h) = h.0
  nine out out' status (inr h) = h.0

  pub touches_nothing : {C P : Type 0} (t : Dialing C) (m : Meaning P) (before after : D) (r : ProgramRan site t m before after) → asked r.words ≡ None
      → (after ≡ before) × (r.dial' ≡ r.dial) × (r.around' ≡ r.around) × (r.staff' ≡ r.staff) × ((r.status ≡ 2) ⊎ (r.status ≡ 9))
  touches_nothing t m before after r is =
      go (subst (λ (o : Option (Serving × ℕ)). RunsBy site t m r.policies r.words o r.around r.around' r.output r.output' before after r.dial r.dial' r.staff r.staff' r.status) (ap shown_by is) r.runs)
    where
      by : (x : IsRun site t m r.policies r.words r.around r.around' r.output r.output' before after r.dial r.dial' r.status) → r.staff' ≡ r.staff
          → Means site t m r.policies r.words r.around r.around' r.output x.written before after r.dial r.dial' x.answer → Nothing t m before after r
      by x staff (inl h) =
          let means = subst (λ (o : Option Wanted). MeansBy site t m r.policies (wrong_words r.words) o r.around r.around' r.output x.written before after r.dial r.dial' x.answer) is h in
          let idle = means.2 in
          let prints = subst (λ (a : Answer). Prints a x.written r.output' r.status) means.0 x.prints in
          (idle.site_is, idle.dial_is, idle.around_is, staff, inl (two (wrong_words r.words) x.written r.output' r.status prints))
      by x staff (inr h) =
          let idle = h.2 in
          let prints = subst (λ (a : Answer). Prints a x.written r.output' r.status) h.0 x.prints in
          (idle.site_is, idle.dial_is, idle.around_is, staff, inr (nine x.written r.output' r.status prints))

      go : RunsBy site t m r.policies r.words None r.around r.around' r.output r.output' before after r.dial r.dial' r.staff r.staff' r.status → Nothing t m before after r
      go runs = by runs.0 runs.1 runs.0.means
