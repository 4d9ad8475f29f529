-- What a play with status 0 wrote.
use Rattle.std.proofs.Common.{◌≡◌, inl, inr, ℕ, ◌+◌, List, [], ◌∷◌, ◌++◌, length, Option, Some, refl, sym, ap, subst, ◌∙◌, append-nil}
use Rattle.std.specs.Io.KnownBytes.{Appends}
use Rattle.sm_model.specs.declared.entry.Entry.{Entry}
use Rattle.sm_fetch.specs.declared.dial.DialError.TheVariants as dial_fault
use Rattle.sm_fetch.specs.declared.dial.Exchange.{Exchange}
use Rattle.sm_site.specs.Meanings.{Seen}
use Rattle.sm_client.specs.declared.plan.Plan.{Plan}
use Rattle.sm_client.specs.declared.report.End.{End as PlayEnd}
use Rattle.sm_client.specs.declared.report.End.TheVariants as ends
use Rattle.sm_client.specs.declared.report.Report.{Report}
use Rattle.sm_client.specs.Ends.{EndsAt, IsTail, texts}
use Rattle.sm_client.specs.Kept.{AreKept}
use Rattle.sm_client.specs.Plays.{IsPart, Part, PartsKept, PlayedKept, PlaysAll, first_times, written_of}
use Rattle.sm_client.specs.Stands.{first_start, nothing_read, state_after, written_at}
use Rattle.sm_client.specs.Turns.{Meaning, Turn, settle}
use Rattle.sm_client.specs.Asks.{turn_after}
use Rattle.sm_tool.specs.declared.answer.Answer.{Answer}
use Rattle.sm_tool.specs.declared.answer.Answer.TheVariants.{Found}
use Rattle.sm_tool.specs.Edges.{Dialing}
use Rattle.sm_tool.specs.Plays.{PlayMeans, TellsEnd}
use Rattle.sm_tool.specs.Ran.{Around, IsRun, Means, MeansBy}
use Rattle.sm_run.specs.Runs.{RunsBy, shown_by}
use Rattle.sm_words.specs.Words.{Play, Serving, Wanted, asked}
use Rattle.sm_usage.specs.Wrong.{wrong_words}
use Rattle.sm_ends.specs.Ended.{End}
use Rattle.sm_promises.proofs.Ending.{well}
use Rattle.sm_promises.specs.Promises.{ProgramRan, WroteKept, AllWroteKept}

is_done : (streams : List (List ℕ)) (played : ℕ) (end : PlayEnd) (text : List ℕ) → TellsEnd streams played end (Found text) → end ≡ ends.Done
is_done streams played ends.Done text tells = refl
is_done streams played (ends.NoMore expected) text tells = absurd (cc)
is_done streams played (ends.Hole expected next) text tells = absurd (cc)
is_done streams played (ends.GaveUp time outcomes) text tells = absurd (cc)
is_done streams played (ends.NoManifest outcomes) text tells = absurd (cc)
is_done streams played (ends.NoStream index) text tells = absurd (cc)
is_done streams played ends.WriteFault text tells = absurd (cc)
is_done streams played ends.NoMemory text tells = absurd (cc)

one_part : {P : Type 0} (m : Meaning P) (plan : Plan) (name : List ℕ) (number : ℕ) (start : Turn P) (track track' : Option (List ℕ)) (part : Part) (log : List Entry)
    → IsPart m plan name number start track track' part → part.end ≡ ends.Done → AreKept plan log (written_of plan name part) → WroteKept plan log track track'
one_part m plan name number start track track' part log is done kept =
    let s = state_after plan name nothing_read part.made in
    let tail = subst (λ (e : PlayEnd). IsTail plan name e s part.last part.tail) done is.tail in
    let whole = subst (λ (e : PlayEnd). EndsAt plan number e s) done is.ends in
    let pieces = written_of plan name part in
    record {
      pieces = pieces;
      text = subst (λ (bs : List ℕ). Appends track track' bs) (ap (λ (t : List ℕ). texts 1 pieces ++ t) tail.tail_is ∙ append-nil (texts 1 pieces)) is.text;
      start = first_start plan.from (first_times name part.made);
      gapless = is.gapless;
      all = ap (λ (x : _). length (written_at x)) whole.stands ∙ whole.all;
      kept = kept;
    }

all_parts : {P : Type 0} (m : Meaning P) (plan : Plan) (start : Turn P) (number : ℕ) (names : List (List ℕ)) (held held' : ℕ → Option (List ℕ)) (parts : List Part) (log : List Entry)
    → PlaysAll m plan start number names held held' parts ends.Done → PartsKept plan log names parts → AllWroteKept plan log number names held held'
all_parts m plan start number names held held' [] log plays kept = subst (λ (ns : List (List ℕ)). AllWroteKept plan log number ns held held') (sym plays.0) tt
all_parts m plan start number [] held held' (part ∷ rest) log plays kept = absurd plays
all_parts m plan start number (name ∷ names) held held' (part ∷ rest) log (is, inl (done, more)) kept = (
  one_part m plan name number start (held number) (held' number) part log is done kept.0,
  all_parts m plan (turn_after m start part.made) (number + 1) names held held' rest log more kept.1,
)
all_parts m plan start number (name ∷ names) held held' (part ∷ rest) log (is, inr (undone, none, end)) kept = absurd (undone (sym end))

kept_on : {P : Type 0} (m : Meaning P) (plan : Plan) (policies : List P) (log log' : Option (List Exchange)) (store store' : List Entry → Type 0)
    (held held' : ℕ → Option (List ℕ)) (report : Report) → report.end ≡ ends.Done → PlayedKept m plan policies log log' store store' held held' report
    → (was : List Entry) → store was → (more : List Entry) × store' (was ++ more) × AllWroteKept plan (was ++ more) 0 plan.streams held held'
kept_on m plan [] log log' store store' held held' report done kept was told = absurd kept
kept_on m plan (p ∷ ps) log log' store store' held held' report done kept was told =
    let on = kept.kept.on was told in
    let plays = subst (λ (e : PlayEnd). PlaysAll m plan (settle m p [] ps) 0 plan.streams held held' kept.plays.parts e) done kept.plays.plays in
    (on.0, on.1, all_parts m plan (settle m p [] ps) 0 plan.streams held held' kept.plays.parts (was ++ on.0) plays on.2)

module _ {D C P : Type 0} (site : Seen D) (t : Dialing C) (m : Meaning P) where
  -- what a play with status 0 comes to
  abbrev Wrote : Plan → Around → Around → C → C → Type 0
  Wrote plan old new c c' = (was : List Entry) → t.store c was
      → (more : List Entry) × t.store c' (was ++ more) × AllWroteKept plan (was ++ more) 0 plan.streams old.tracks.held new.tracks.held

  means : (plan : Plan) (policies : List P) (old new : Around) (c c' : C) (text : List ℕ)
      → PlayMeans m plan policies old.dial new.dial (t.store c) (t.store c') old.tracks new.tracks (Found text) → Wrote plan old new c c'
  means plan policies old new c c' text (inl (report, played, inl tells)) =
      kept_on m plan policies old.dial.log new.dial.log (t.store c) (t.store c') old.tracks.held new.tracks.held report (is_done plan.streams report.played report.end text tells) played.kept
  means plan policies old new c c' text (inl (report, played, inr starved)) = absurd (let no = starved in cc)
  means plan policies old new c c' text (inr (dial_fault.Failed, why, tells)) = absurd (let no = tells in cc)
  means plan policies old new c c' text (inr (dial_fault.NoMemory, why, tells)) = absurd (let no = tells in cc)

  in_run : (policies : List P) (words : List (List ℕ)) (plan : Plan) (old new : Around) (out out' : End) (before after : D) (c c' : C) (status : ℕ)
      → asked words ≡ Some (Play plan) → status ≡ 0 → IsRun site t m policies words old new out out' before after c c' status → Wrote plan old new c c'
  in_run policies words plan old new out out' before after c c' status is zero r = go r.means
    where
      go : Means site t m policies words old new out r.written before after c c' r.answer → Wrote plan old new c c'
      go (inl h) =
          let w = well r.answer r.written out' status r.prints zero in
          let of_words = subst (λ (x : Option Wanted). MeansBy site t m policies (wrong_words words) x old new out r.written before after c c' r.answer) is h in
          means plan policies old new c c' w.0 (subst (λ (a : Answer). PlayMeans m plan policies old.dial new.dial (t.store c) (t.store c') old.tracks new.tracks a) w.1 of_words.0)
      go (inr h) = absurd (let no = sym (well r.answer r.written out' status r.prints zero).1 ∙ h.0 in cc)

  pub plays : (before after : D) (r : ProgramRan site t m before after) (plan : Plan) → asked r.words ≡ Some (Play plan) → r.status ≡ 0
      → Wrote plan r.around r.around' r.dial r.dial'
  plays before after r plan is zero =
      let runs = subst (λ (o : Option (Serving × ℕ)). RunsBy site t m r.policies r.words o r.around r.around' r.output r.output' before after r.dial r.dial' r.staff r.staff' r.status) (ap shown_by is) r.runs in
      in_run r.policies r.words plan r.around r.around' r.output r.output' before after r.dial r.dial' r.status is zero runs.0
