-- What each exit status says.
use Rattle.std.proofs.Common.{◌≡◌, inl, inr, ℕ, ◌==◌, if◌then◌else◌, Option, Some, None, refl, sym, ◌∙◌, ap}
use Rattle.sm_site.specs.Meanings.{Seen}
use Rattle.sm_client.specs.Turns.{Meaning}
use Rattle.sm_tool.specs.declared.answer.Answer.{Answer}
use Rattle.sm_tool.specs.declared.answer.Answer.TheVariants.{Found, Words, Unread, TooLong, LongLadder, Refused, NotKept, Clash, Undone}
use Rattle.sm_tool.specs.declared.answer.Answer.TheVariants.{Damaged, DiskFault, LinkFault, TrackFault, Starved, Full, NotAStore, Unfinished}
use Rattle.sm_tool.specs.declared.answer.Stop.TheVariants as stops
use Rattle.sm_tool.specs.Answers.{status_of, unwritten_status_of}
use Rattle.sm_tool.specs.Edges.{Dialing}
use Rattle.sm_tool.specs.Ran.{Prints}
use Rattle.sm_run.specs.Runs.{RunsBy, shown_by}
use Rattle.sm_words.specs.Words.{Export, Help, Listing, Pick, Play, Push, Rehearse, Relay, Serve, ServeShown, Serving, Standby, Version, Wanted, asked}
use Rattle.sm_ends.specs.Ended.{End}
use Rattle.sm_promises.specs.Promises.{ProgramRan, Ending, Well, WrongWords, WrongInput, NotHad, FaultOfDisk, FaultOfInput, FaultOfOutput, FaultOfLink, WantOfMemory, LimitWasMet, NoStore, number_of, IsSaidOf, HasAnswer}

-- ---- the number of an answer

abbrev Says : Answer → ℕ → Type 0
Says a status = (e : Ending) × (status ≡ number_of e) × IsSaidOf e a

both : (e : Ending) (a : Answer) (out out' : End) (status : ℕ) → status_of a ≡ number_of e → unwritten_status_of a ≡ number_of e → IsSaidOf e a → Prints a out out' status → Says a status
both e a out out' status written unwritten said (inl h) = (e, h.0 ∙ written, said)
both e a out out' status written unwritten said (inr h) = (e, h.0 ∙ unwritten, said)

says : (a : Answer) (out out' : End) (status : ℕ) → Prints a out out' status → Says a status
says (Found text) out out' status (inl h) = (Well, h.0, (text, refl))
says (Found text) out out' status (inr h) = (FaultOfOutput, h.0, inr (inr (text, refl)))
says (Words text) out out' status h = both WrongWords (Words text) out out' status refl refl (text, refl) h
says TooLong out out' status h = both WrongInput TooLong out out' status refl refl (inl refl) h
says LongLadder out out' status h = both WrongInput LongLadder out out' status refl refl (inr (inl refl)) h
says (Refused line) out out' status h = both WrongInput (Refused line) out out' status refl refl (inr (inr (line, refl))) h
says NotKept out out' status h = both NotHad NotKept out out' status refl refl (inl refl) h
says (Clash line) out out' status h = both NotHad (Clash line) out out' status refl refl (inr (inl (line, inl refl))) h
says (Undone line) out out' status h = both NotHad (Undone line) out out' status refl refl (inr (inl (line, inr refl))) h
says Damaged out out' status h = both NotHad Damaged out out' status refl refl (inr (inr (inl refl))) h
says DiskFault out out' status h = both FaultOfDisk DiskFault out out' status refl refl (inl refl) h
says Unread out out' status h = both FaultOfInput Unread out out' status refl refl refl h
says TrackFault out out' status h = both FaultOfOutput TrackFault out out' status refl refl (inl refl) h
says LinkFault out out' status h = both FaultOfLink LinkFault out out' status refl refl refl h
says Starved out out' status h = both WantOfMemory Starved out out' status refl refl (inl refl) h
says Full out out' status h = both LimitWasMet Full out out' status refl refl refl h
says (NotAStore line) out out' status h = both NoStore (NotAStore line) out out' status refl refl (line, refl) h
says (Unfinished stops.Damaged) out out' status h = both NotHad (Unfinished stops.Damaged) out out' status refl refl (inr (inr (inr refl))) h
says (Unfinished stops.Disk) out out' status h = both FaultOfDisk (Unfinished stops.Disk) out out' status refl refl (inr refl) h
says (Unfinished stops.Output) out out' status h = both FaultOfOutput (Unfinished stops.Output) out out' status refl refl (inr (inl refl)) h
says (Unfinished stops.Memory) out out' status h = both WantOfMemory (Unfinished stops.Memory) out out' status refl refl (inr refl) h

-- ---- one number, one ending

by_number : ℕ → Ending
by_number n =
    if n == 0 then Well
    else if n == 2 then WrongWords
    else if n == 3 then WrongInput
    else if n == 4 then NotHad
    else if n == 5 then FaultOfDisk
    else if n == 6 then FaultOfInput
    else if n == 7 then FaultOfOutput
    else if n == 8 then FaultOfLink
    else if n == 9 then WantOfMemory
    else if n == 10 then LimitWasMet
    else NoStore

numbered : (e : Ending) → by_number (number_of e) ≡ e
unfolding by_number
numbered Well = refl
numbered WrongWords = refl
numbered WrongInput = refl
numbered NotHad = refl
numbered FaultOfDisk = refl
numbered FaultOfInput = refl
numbered FaultOfOutput = refl
numbered FaultOfLink = refl
numbered WantOfMemory = refl
numbered LimitWasMet = refl
numbered NoStore = refl

pub one_meaning : (e f : Ending) → number_of e ≡ number_of f → e ≡ f
one_meaning e f same = sym (numbered e) ∙ ap by_number same ∙ numbered f

-- ---- a run

are_shown : (w : Option Wanted) (x : Serving × ℕ) → shown_by w ≡ Some x → w ≡ Some (ServeShown x.0 x.1)
are_shown None x is = absurd (cc)
are_shown (Some (Pick track time)) x is = absurd (cc)
are_shown (Some (Serve s)) x is = absurd (cc)
are_shown (Some (ServeShown s players)) x is = let same : (s, players) ≡ x = cc in ap (λ (y : Serving × ℕ). Some (ServeShown y.0 y.1)) same
are_shown (Some (Push host port path id)) x is = absurd (cc)
are_shown (Some (Play plan)) x is = absurd (cc)
are_shown (Some (Relay e)) x is = absurd (cc)
are_shown (Some (Standby e)) x is = absurd (cc)
are_shown (Some (Listing folder)) x is = absurd (cc)
are_shown (Some (Rehearse number size)) x is = absurd (cc)
are_shown (Some (Export folder name bitrate)) x is = absurd (cc)
are_shown (Some (Help about)) x is = absurd (cc)
are_shown (Some Version) x is = absurd (cc)

module _ {D C P : Type 0} (site : Seen D) (t : Dialing C) (m : Meaning P) (before after : D) (r : ProgramRan site t m before after) where
  answer_by : (o : Option (Serving × ℕ)) → shown_by (asked r.words) ≡ o
      → RunsBy site t m r.policies r.words o r.around r.around' r.output r.output' before after r.dial r.dial' r.staff r.staff' r.status
      → (answer : Answer) × HasAnswer site t m before after r answer
  answer_by None is (run, staff) = (run.answer, record { written = run.written; means = inl run.means; prints = run.prints })
  answer_by (Some x) is run = (run.answer, record { written = r.output; means = inr (refl, x.0, x.1, are_shown (asked r.words) x is, run.means); prints = run.prints })

  pub ends_so : (e : Ending) × (r.status ≡ number_of e) × ((answer : Answer) × IsSaidOf e answer × HasAnswer site t m before after r answer)
  ends_so =
      let a = answer_by (shown_by (asked r.words)) refl r.runs in
      let s = says a.0 a.1.written r.output' r.status a.1.prints in
      (s.0, s.1, (a.0, s.2, a.1))
