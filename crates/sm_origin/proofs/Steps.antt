-- What an archive answers to an act that adds an entry, as a step.
use Rattle.std.proofs.Common.{◌≡◌, ◌⊎◌, inl, inr, ℕ, true, List, [], ◌∷◌, ◌++◌, Option, None, Some, IsSome, option_map, slice_get, refl, ap, sym, subst, ◌∙◌}
use Rattle.std.proofs.lemmas.List.{append-nil}
use Rattle.std.proofs.Common.{append_assoc}
use Rattle.sm_model.specs.declared.track.Track.{Track}
use Rattle.sm_model.specs.declared.fragment.Fragment.{Fragment}
use Rattle.sm_model.specs.declared.entry.Entry.{Entry}
use Rattle.sm_model.specs.declared.entry.Entry.TheVariants.{Declare, Keep}
use Rattle.sm_model.specs.declared.cause.Cause.{Cause}
use Rattle.sm_model.specs.declared.cause.Cause.TheVariants as cause
use Rattle.sm_model.specs.declared.act.Act.{Act}
use Rattle.sm_model.specs.declared.act.Act.TheVariants.{Header, Frag}
use Rattle.sm_log.specs.declared.verdict.Judged.{Judged as Verdict}
use Rattle.sm_log.specs.declared.verdict.Judged.TheVariants as verdicts
use Rattle.sm_log.specs.declared.verdict.Checked.{Checked}
use Rattle.sm_log.specs.declared.verdict.Checked.TheVariants as checked
use Rattle.sm_log.specs.Headers.{check}
use Rattle.sm_log.specs.Logs.{channel_of, verdict_on}
use Rattle.sm_site.specs.Image.{Image}
use Rattle.sm_archive.specs.declared.archive.Archive.{Archive}
use Rattle.sm_archive.specs.declared.answers.Keeping.{Keeping}
use Rattle.sm_archive.specs.declared.answers.Keeping.TheVariants as keeping
use Rattle.sm_archive.specs.declared.answers.Declared.{Declared}
use Rattle.sm_archive.specs.declared.answers.Declared.TheVariants as declared
use Rattle.sm_archive.specs.Stands.{Stands}
use Rattle.sm_archive.specs.Steps.{Settles, Clears}
use Rattle.sm_archive.specs.Keeping.{KeepStep, refusal_of}
use Rattle.sm_archive.specs.Declaring.{DeclareStep, refusal_in}
use Rattle.sm_reply.specs.declared.reply.Reply.{Reply}
use Rattle.sm_reply.specs.declared.reply.Counted.{Counted}
use Rattle.sm_reply.specs.declared.reply.Counted.TheVariants as counted
use Rattle.sm_reply.specs.Replies.{closes, unplaced, silent, no_memory}
use Rattle.sm_origin.specs.Answers.{IsTold, ToldHeader, ToldFragment, reply_to_header}
use Rattle.sm_origin.specs.Machine.{Machine, SameLog, Fresh, There, Not, by_verdict, by_check, by_channel, judged, MeetsLimit, IsWithin, IsWithinNow}
use Rattle.sm_origin.specs.Machine.{refused, there, full, kept, unwritten, Clear, Row, unsettled, wrote, Step, row, wants, untold, entry_of}

-- a step of a machine to what an archive stands for now
pub record Stepped (failed acted : Type 0) (outcomes : Image → Type 0) (m : Machine) (new : Archive) (act : Act) (reply : Reply) : Type 0 where
  pub after : Machine
  pub archive : after.archive ≡ new
  pub stands : Stands new after.log after.doubt outcomes
  pub step : Step failed m act after reply
  pub still : (acted → ⊥) → SameLog m after
  pub more : List Entry
  pub grows : after.log ≡ m.log ++ more

abbrev machine : Archive → List Entry → Option Entry → Machine
machine a log doubt = record { archive = a; log = log; doubt = doubt }

-- ---- clearing

record Cleared (acted : Type 0) (m mid : Machine) : Type 0 where
  pub clear : Clear m mid
  pub still : (acted → ⊥) → SameLog m mid
  pub more : List Entry
  pub grows : mid.log ≡ m.log ++ more

some_of : (o : Option Entry) → IsSome o → (d : Entry) × (o ≡ Some d)
some_of None some = absurd (cc)
some_of (Some d) some = (d, refl)

cleared : (acted : Type 0) (m : Machine) (a : Archive) (mid : List Entry) → Clears acted m.log m.doubt mid → Cleared acted m (machine a mid None)
cleared acted m a mid (inl same) = record {
  clear = inl (same.0, record { log = same.1; doubt = sym same.0 });
  still = λ no. record { log = same.1; doubt = sym same.0 };
  more = [];
  grows = same.1 ∙ sym (append-nil m.log);
}
cleared acted m a mid (inr settled) = settles settled.1
  where
    d : (d : Entry) × (m.doubt ≡ Some d)
    d = some_of m.doubt settled.0

    settles : Settles m.log m.doubt mid → Cleared acted m (machine a mid None)
    settles (inl same) = record {
      clear = inr (record { entry = d.0; was = d.1; log = inl same; doubt = refl });
      still = λ no. absurd (no settled.2);
      more = [];
      grows = same ∙ sym (append-nil m.log);
    }
    settles (inr more) = record {
      clear = inr (record { entry = more.0; was = more.1; log = inr more.2; doubt = refl });
      still = λ no. absurd (no settled.2);
      more = more.0 ∷ [];
      grows = more.2;
    }

-- ---- telling

pub told_row : (failed : Type 0) (m n : Machine) (act : Act) (why : Cause) (reply : Reply) → closes why ≡ true → ((r : Reply) → r ≡ unplaced why → Row failed m act n r)
    → IsTold why reply → Step failed m act n reply
told_row failed m n act why reply close made (inl told) = row (made reply told)
told_row failed m n act why reply close made (inr none) = untold (unplaced why) (made (unplaced why) refl) close none

-- ---- the rows of an entry that is judged behind what was cleared

module _ (failed acted : Type 0) (outcomes : Image → Type 0) (m : Machine) (a : Archive) (act : Act) (e : Entry) (reply : Reply) (is : entry_of act ≡ Some e)
    (mid : List Entry) (clears : Clears acted m.log m.doubt mid) where
  between : Machine
  between = machine a mid None

  c : Cleared acted m (machine a mid None)
  c = cleared acted m a mid clears

  same : SameLog (machine a mid None) (machine a mid None)
  same = record { log = refl; doubt = refl }

  as_refused : (why : Cause) → judged mid e ≡ Not why → closes why ≡ true → Stands a mid None outcomes → IsTold why reply → Stepped failed acted outcomes m a act reply
  as_refused why not close stands told = record {
    after = machine a mid None;
    archive = refl;
    stands = stands;
    still = c.still;
    more = c.more;
    grows = c.grows;
    step = told_row failed m (machine a mid None) act why reply close
        (λ r is_told. wrote e (machine a mid None) is c.clear (refused why not same is_told)) told;
  }

  as_there : (n : Counted) → judged mid e ≡ There n → Stands a mid None outcomes → reply ≡ silent n → Stepped failed acted outcomes m a act reply
  as_there n is_there stands told = record {
    after = machine a mid None;
    archive = refl;
    stands = stands;
    still = c.still;
    more = c.more;
    grows = c.grows;
    step = row (wrote e (machine a mid None) is c.clear (there n is_there same told));
  }

  as_full : (n : Counted) → judged mid e ≡ Fresh n → MeetsLimit a mid e → Stands a mid None outcomes → IsTold cause.Full reply → Stepped failed acted outcomes m a act reply
  as_full n fresh meets stands told = record {
    after = machine a mid None;
    archive = refl;
    stands = stands;
    still = c.still;
    more = c.more;
    grows = c.grows;
    step = told_row failed m (machine a mid None) act cause.Full reply refl
        (λ r is_told. wrote e (machine a mid None) is c.clear (full n fresh meets same is_told)) told;
  }

  as_kept : (n : Counted) → judged mid e ≡ Fresh n → IsWithinNow a mid e → acted → Stands a (mid ++ e ∷ []) None outcomes → reply ≡ silent n
      → Stepped failed acted outcomes m a act reply
  as_kept n fresh within did stands told = record {
    after = machine a (mid ++ e ∷ []) None;
    archive = refl;
    stands = stands;
    still = λ no. absurd (no did);
    more = c.more ++ e ∷ [];
    grows = ap (λ (l : List Entry). l ++ e ∷ []) c.grows ∙ append_assoc m.log c.more (e ∷ []);
    step = row (wrote e (machine a mid None) is c.clear (kept n fresh within refl refl told));
  }

  as_unwritten : (n : Counted) → judged mid e ≡ Fresh n → IsWithin a mid e → failed → (Stands a mid None outcomes ⊎ (acted × Stands a mid (Some e) outcomes))
      → IsTold cause.DiskFault reply → Stepped failed acted outcomes m a act reply
  as_unwritten n fresh within fails (inl stands) told = record {
    after = machine a mid None;
    archive = refl;
    stands = stands;
    still = c.still;
    more = c.more;
    grows = c.grows;
    step = told_row failed m (machine a mid None) act cause.DiskFault reply refl
        (λ r is_told. wrote e (machine a mid None) is c.clear (unwritten n fresh within refl (inl refl) fails is_told)) told;
  }
  as_unwritten n fresh within fails (inr (did, stands)) told = record {
    after = machine a mid (Some e);
    archive = refl;
    stands = stands;
    still = λ no. absurd (no did);
    more = c.more;
    grows = c.grows;
    step = told_row failed m (machine a mid (Some e)) act cause.DiskFault reply refl
        (λ r is_told. wrote e (machine a mid None) is c.clear (unwritten n fresh within refl (inr refl) fails is_told)) told;
  }

-- ---- the rows where nothing was cleared

module _ (failed acted : Type 0) (outcomes : Image → Type 0) (m : Machine) (a : Archive) (act : Act) (reply : Reply) (stands : Stands a m.log m.doubt outcomes) where
  as_unsettled : (e : Entry) → entry_of act ≡ Some e → IsSome m.doubt → failed → IsTold cause.DiskFault reply → Stepped failed acted outcomes m a act reply
  as_unsettled e is some fails told =
      let d = some_of m.doubt some in
      record {
        after = machine a m.log m.doubt;
        archive = refl;
        stands = stands;
        still = λ no. record { log = refl; doubt = refl };
        more = [];
        grows = sym (append-nil m.log);
        step = told_row failed m (machine a m.log m.doubt) act cause.DiskFault reply refl
            (λ r is_told. unsettled e d.0 is d.1 (record { log = refl; doubt = refl }) fails is_told) told;
      }

  as_wants : reply ≡ no_memory → Stepped failed acted outcomes m a act reply
  as_wants none = record {
    after = machine a m.log m.doubt;
    archive = refl;
    stands = stands;
    still = λ no. record { log = refl; doubt = refl };
    more = [];
    grows = sym (append-nil m.log);
    step = wants (record { log = refl; doubt = refl }) none;
  }

-- ---- fragments

by_refusal : (f : Fragment) (v : Verdict) (why : Cause) → refusal_of f v ≡ Some why → (by_verdict f v ≡ Not why) × (closes why ≡ true)
by_refusal f verdicts.New why e = absurd cc
by_refusal f (verdicts.Known place) why e = absurd cc
by_refusal f verdicts.NotDeclared why e = let same = some_is (cause.NotDeclared f.stream f.bitrate) why e in (ap Not same, subst (λ (x : Cause). closes x ≡ true) same refl)
  where
    some_is : (x y : Cause) → (let found : Cause → Option Cause = λ z. Some z in found x ≡ found y) → x ≡ y
    some_is x y e = cc
by_refusal f (verdicts.Clash k) why e = let same = some_is (cause.DurationClash k f.duration) why e in (ap Not same, subst (λ (x : Cause). closes x ≡ true) same refl)
  where
    some_is : (x y : Cause) → (let found : Cause → Option Cause = λ z. Some z in found x ≡ found y) → x ≡ y
    some_is x y e = cc
by_refusal f (verdicts.Overlap end) why e = let same = some_is (cause.Overlap end) why e in (ap Not same, subst (λ (x : Cause). closes x ≡ true) same refl)
  where
    some_is : (x y : Cause) → (let found : Cause → Option Cause = λ z. Some z in found x ≡ found y) → x ≡ y
    some_is x y e = cc

pub fragment_step : (failed acted : Type 0) (outcomes : Image → Type 0) (m : Machine) (a : Archive) (f : Fragment) (answer : Keeping) (reply : Reply)
    → (answer ≡ keeping.DiskFault → failed) → KeepStep acted outcomes a m.log m.doubt f answer → ToldFragment answer reply → Stepped failed acted outcomes m a (Frag f) reply
fragment_step failed acted outcomes m a f (keeping.Kept place) reply fails (mid, clears, new, at, within, did, stands) told =
    as_kept failed acted outcomes m a (Frag f) (Keep f) reply refl mid clears counted.Kept (ap (by_verdict f) new) within did stands told
fragment_step failed acted outcomes m a f (keeping.Known place) reply fails (mid, clears, known, stands) told =
    as_there failed acted outcomes m a (Frag f) (Keep f) reply refl mid clears counted.Known (ap (by_verdict f) known) stands told
fragment_step failed acted outcomes m a f (keeping.Refused why) reply fails (mid, clears, refusal, stands) told =
    let by = by_refusal f (verdict_on mid f) why refusal in
    as_refused failed acted outcomes m a (Frag f) (Keep f) reply refl mid clears why by.0 by.1 stands told
fragment_step failed acted outcomes m a f keeping.Full reply fails (mid, clears, new, meets, stands) told =
    as_full failed acted outcomes m a (Frag f) (Keep f) reply refl mid clears counted.Kept (ap (by_verdict f) new) meets stands told
fragment_step failed acted outcomes m a f keeping.DiskFault reply fails (inl (some, stands)) told =
    as_unsettled failed acted outcomes m a (Frag f) reply stands (Keep f) refl some (fails refl) told
fragment_step failed acted outcomes m a f keeping.DiskFault reply fails (inr (mid, clears, new, within, stands)) told =
    as_unwritten failed acted outcomes m a (Frag f) (Keep f) reply refl mid clears counted.Kept (ap (by_verdict f) new) within (fails refl) stands told
fragment_step failed acted outcomes m a f keeping.NoMemory reply fails stands told = as_wants failed acted outcomes m a (Frag f) reply stands told

-- the log behind a fragment that was kept
pub kept_log : (failed acted : Type 0) (outcomes : Image → Type 0) (m : Machine) (a : Archive) (f : Fragment) (place : ℕ) (reply : Reply)
    (fails : keeping.Kept place ≡ keeping.DiskFault → failed) (step : KeepStep acted outcomes a m.log m.doubt f (keeping.Kept place)) (told : reply ≡ silent counted.Kept)
    → (fragment_step failed acted outcomes m a f (keeping.Kept place) reply fails step told).after.log ≡ step.0 ++ Keep f ∷ []
unfolding fragment_step as_kept
kept_log failed acted outcomes m a f place reply fails (mid, clears, new, at, within, did, stands) told = refl

-- ---- headers

by_difference : (header : List Track) (v : Checked) (why : Cause) → refusal_in header v ≡ Some why → closes why ≡ true
by_difference header checked.Agreed why e = absurd cc
by_difference header (checked.NotDeclared index) why e = (elim (slice_get header index) as (λ o. option_map (λ (t : Track). cause.NotDeclared t.name t.bitrate) o ≡ Some why → closes why ≡ true) [
  | None ↦ λ none. absurd cc
  | Some t ↦ λ some. subst (λ (x : Cause). closes x ≡ true) (some_is (cause.NotDeclared t.name t.bitrate) why some) refl
]) e
  where
    some_is : (x y : Cause) → (let found : Cause → Option Cause = λ z. Some z in found x ≡ found y) → x ≡ y
    some_is x y e = cc
by_difference header (checked.Clash index) why e = (elim (slice_get header index) as (λ o. option_map (λ (t : Track). cause.DeclClash t.name t.bitrate) o ≡ Some why → closes why ≡ true) [
  | None ↦ λ none. absurd cc
  | Some t ↦ λ some. subst (λ (x : Cause). closes x ≡ true) (some_is (cause.DeclClash t.name t.bitrate) why some) refl
]) e
  where
    some_is : (x y : Cause) → (let found : Cause → Option Cause = λ z. Some z in found x ≡ found y) → x ≡ y
    some_is x y e = cc

-- how a header is judged behind a log that has a channel
judged_as : (log : List Entry) (header known : List Track) (v : Checked) (o : Option Cause) → channel_of log ≡ Some known → check known header ≡ v → refusal_in header v ≡ o
    → judged log (Declare header) ≡ by_check o
judged_as log header known v o channel is refusal =
    ap (by_channel header) channel ∙ (ap (λ (x : Checked). by_check (refusal_in header x)) is ∙ ap by_check refusal)

fresh_header : (log : List Entry) (header : List Track) → log ≡ [] → judged log (Declare header) ≡ Fresh counted.Neither
fresh_header log header none = ap (λ (l : List Entry). judged l (Declare header)) none

module _ (failed acted : Type 0) (outcomes : Image → Type 0) (m : Machine) (a : Archive) (header : List Track) (reply : Reply)
    (mid : List Entry) (clears : Clears acted m.log m.doubt mid) where
  fixed : (mid ≡ []) → IsWithinNow a mid (Declare header) → acted → Stands a (Declare header ∷ []) None outcomes → reply ≡ silent counted.Neither
      → Stepped failed acted outcomes m a (Header header) reply
  fixed none within did stands told =
      as_kept failed acted outcomes m a (Header header) (Declare header) reply refl mid clears counted.Neither (fresh_header mid header none) within did
      (subst (λ (l : List Entry). Stands a (l ++ Declare header ∷ []) None outcomes) (sym none) stands) told

  full_for : (mid ≡ []) → MeetsLimit a mid (Declare header) → Stands a [] None outcomes → IsTold cause.Full reply → Stepped failed acted outcomes m a (Header header) reply
  full_for none meets stands told =
      as_full failed acted outcomes m a (Header header) (Declare header) reply refl mid clears counted.Neither (fresh_header mid header none) meets
      (subst (λ (l : List Entry). Stands a l None outcomes) (sym none) stands) told

  unwritten_for : (mid ≡ []) → IsWithin a mid (Declare header) → failed → (Stands a [] None outcomes ⊎ (acted × Stands a [] (Some (Declare header)) outcomes))
      → IsTold cause.DiskFault reply → Stepped failed acted outcomes m a (Header header) reply
  unwritten_for none within fails stands told =
      as_unwritten failed acted outcomes m a (Header header) (Declare header) reply refl mid clears counted.Neither (fresh_header mid header none) within fails
      (subst (λ (l : List Entry). Stands a l None outcomes ⊎ (acted × Stands a l (Some (Declare header)) outcomes)) (sym none) stands) told

pub header_step : (failed acted : Type 0) (outcomes : Image → Type 0) (m : Machine) (a : Archive) (header : List Track) (answer : Declared) (reply : Reply)
    → (answer ≡ declared.DiskFault → failed) → DeclareStep acted outcomes a m.log m.doubt header answer → ToldHeader answer reply
    → Stepped failed acted outcomes m a (Header header) reply
header_step failed acted outcomes m a header declared.Fixed reply fails (mid, clears, (none, within, did, stands)) told =
    fixed failed acted outcomes m a header reply mid clears none within did stands told
header_step failed acted outcomes m a header declared.Agreed reply fails (mid, clears, (known, channel, agrees, stands)) told =
    as_there failed acted outcomes m a (Header header) (Declare header) reply refl mid clears counted.Neither
    (judged_as mid header known checked.Agreed None channel agrees refl) stands told
header_step failed acted outcomes m a header (declared.Refused why) reply fails (mid, clears, (known, channel, refusal, stands)) told =
    as_refused failed acted outcomes m a (Header header) (Declare header) reply refl mid clears why
    (judged_as mid header known (check known header) (Some why) channel refl refusal) (by_difference header (check known header) why refusal) stands told
header_step failed acted outcomes m a header declared.Full reply fails (mid, clears, (none, meets, stands)) told =
    full_for failed acted outcomes m a header reply mid clears none meets stands told
header_step failed acted outcomes m a header declared.DiskFault reply fails (inl (some, stands)) told =
    as_unsettled failed acted outcomes m a (Header header) reply stands (Declare header) refl some (fails refl) told
header_step failed acted outcomes m a header declared.DiskFault reply fails (inr (mid, clears, (none, within, stands))) told =
    unwritten_for failed acted outcomes m a header reply mid clears none within (fails refl) stands told
header_step failed acted outcomes m a header declared.NoMemory reply fails stands told = as_wants failed acted outcomes m a (Header header) reply stands told

-- an answer is told by its own reply
pub tells_itself : (answer : Declared) → ToldHeader answer (reply_to_header answer)
tells_itself declared.Fixed = refl
tells_itself declared.Agreed = refl
tells_itself (declared.Refused why) = inl refl
tells_itself declared.Full = inl refl
tells_itself declared.DiskFault = inl refl
tells_itself declared.NoMemory = refl
