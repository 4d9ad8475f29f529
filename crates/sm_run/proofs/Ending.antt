-- How it is told what came of serving beside players.
use Rattle.std.proofs.Common.{◌≡◌, ◌⊎◌, inl, inr, ℕ, zero, suc, Bool, true, false, cond, ◌==◌, ◌&&◌, List, Option, Some, None, Result, Ok, Err, refl, sym, ap, subst, ◌∙◌, arith}
use Rattle.std.specs.Prelude.{IfOk, IfSome, OnErr}
use Rattle.std.specs.Option.{option_map}
use Rattle.sm_model.specs.declared.no_memory.NoMemory.{NoMemory}
use Rattle.sm_site.specs.Meanings.{Chosen, View, Seen, asked as asked_once}
use Rattle.sm_client.specs.Turns.{Meaning}
use Rattle.sm_serve.specs.declared.outcome.Served.{Served as Outcome}
use Rattle.sm_serve.specs.declared.outcome.Served.TheVariants as served
use Rattle.sm_players.specs.declared.spawner.Finished.{Finished}
use Rattle.sm_players.specs.declared.spawner.SpawnError.TheVariants as spawn
use Rattle.sm_players.specs.Wiring.{Wires}
use Rattle.sm_command.specs.declared.fault.StoreFault.{StoreFault}
use Rattle.sm_command.specs.Lasting.{KeepsStores, Untouched}
use Rattle.sm_tool.specs.declared.answer.Answer.{Answer}
use Rattle.sm_tool.specs.declared.answer.Answer.TheVariants.{Found, LinkFault, NotAStore, Starved}
use Rattle.sm_tool.specs.Edges.{Dialing}
use Rattle.sm_tool.specs.Ran.{Around, Prints}
use Rattle.sm_tool.specs.Stores.{IsSelected, Tells, chosen_of, or_starved}
use Rattle.sm_tool.proofs.Storing.{placed, selected, told_selected}
use Rattle.sm_words.specs.Words.{Serving, ServeShown, Wanted, Pick, Serve, Push, Play, Relay, Standby, Listing, Rehearse, Export, Help, Version, asked}
use Rattle.sm_words.specs.Orders.{IsShowable, serving_of}
use Rattle.sm_words.specs.declared.order.ServeOrder.{ServeOrder}
use Rattle.sm_words.proofs.Sounding.{showable}
use Rattle.sm_run.specs.declared.fault.ShowFault.{ShowFault}
use Rattle.sm_run.specs.declared.fault.ShowFault.TheVariants as fault
use Rattle.sm_run.specs.declared.showing.Ended.{Ended}
use Rattle.sm_run.specs.Runs.{IsShown, RunsBy, ShowAnswers, shown_by}
use Rattle.sm_run.specs.Showing.{IsSelectedWith, WhyUnshown}
use Rattle.sm_run.specs.Staff.{Staff, wires_of}
use Rattle.sm_run.specs.Telling.{TellsShown, TellsUnshown, answer_of, shown_line}
use Rattle.sm_ends.specs.Ended.{End}

-- ---- telling

pub told_shown : (end : Outcome) (f : Finished) (r : Result Answer NoMemory) (answer : Answer) → IfOk r (λ a. a ≡ answer_of end f)
    → OnErr r ((line : List ℕ) × (answer_of end f ≡ Found line)) → answer ≡ or_starved r → TellsShown end f answer
told_shown end f (Ok a) answer tells none is = inl (is ∙ tells)
told_shown end f (Err e) answer tells none is = inr (is, none)

pub told_unready : (why : StoreFault) (r : Result Answer NoMemory) (answer : Answer) → IfOk r (λ a. Tells why a) → answer ≡ or_starved r → Tells why answer ⊎ (answer ≡ Starved)
told_unready why (Ok a) answer tells is = inl (subst (λ (x : Answer). Tells why x) (sym is) tells)
told_unready why (Err e) answer tells is = inr is

found_by : (a b c : ℕ) (line : List ℕ) → a ≡ 0 → b ≡ 0 → c ≡ 0 → cond (a == 0) (cond (b == 0 && c == 0) (Found line) Starved) LinkFault ≡ Found line
found_by zero zero zero line ea eb ec = refl
found_by zero zero (suc c) line ea eb ec = absurd (omega (arith, ec))
found_by zero (suc b) c line ea eb ec = absurd (omega (arith, eb))
found_by (suc a) b c line ea eb ec = absurd (omega (arith, ea))

-- where nobody failed and nothing was wanting there is a line
pub found_at : (taken behind short : ℕ) (f : Finished) → f.faulted ≡ 0 → f.starved ≡ 0 → short ≡ 0 → (line : List ℕ) × (answer_of (served.Done taken behind short) f ≡ Found line)
found_at taken behind short f no_fault no_want no_short = (shown_line taken behind, found_by f.faulted f.starved short (shown_line taken behind) no_fault no_want no_short)

-- ---- what is told to be no store

never : (b c : Bool) (found line : List ℕ) → cond b (cond c (Found found) Starved) LinkFault ≡ NotAStore line → ⊥
never true true found line e = cc
never true false found line e = cc
never false c found line e = cc

no_store : (end : Outcome) (f : Finished) (line : List ℕ) → answer_of end f ≡ NotAStore line → ⊥
no_store (served.Done taken behind short) f line e = never (f.faulted == 0) (f.starved == 0 && short == 0) (shown_line taken behind) line e
no_store served.LinkFault f line e = cc
no_store served.NoMemory f line e = cc

-- a loop that ran was on a store
pub shown_is_store : (end : Outcome) (f : Finished) (answer : Answer) (line : List ℕ) → TellsShown end f answer → answer ≡ NotAStore line → ⊥
shown_is_store end f answer line (inl tells) is = no_store end f line (sym tells ∙ is)
shown_is_store end f answer line (inr starved) is = let no = sym starved.0 ∙ is in cc

pub unwritten_unshown : {D : Type 0} (site : Seen D) (ladder : Bool) (wires : Wires) (input input' : End) (staff staff' : Staff)
    (d d' : D) (why : ShowFault) (answer : Answer) (line : List ℕ) → WhyUnshown site ladder wires input input' staff staff' d d' why → TellsUnshown why answer → answer ≡ NotAStore line
    → Untouched site d d'
unwritten_unshown site ladder wires input input' staff staff' d d' (fault.Store why) answer line h (inl tells) is = let p = placed why answer line tells is in h.0.untouched p.0 p.1
unwritten_unshown site ladder wires input input' staff staff' d d' (fault.Store why) answer line h (inr starved) is = absurd (let no = sym starved ∙ is in cc)
unwritten_unshown site ladder wires input input' staff staff' d d' (fault.Spawn spawn.Failed) answer line h tells is = absurd (let no = sym tells ∙ is in cc)
unwritten_unshown site ladder wires input input' staff staff' d d' (fault.Spawn spawn.NoMemory) answer line h tells is = absurd (let no = sym tells ∙ is in cc)

-- ---- what the site is selected with

unselected : (answer : Answer) (chosen : Chosen) (old view : View) → answer ≡ Starved → (view.chosen ≡ asked_once old.chosen (Some chosen)) ⊎ (view.chosen ≡ asked_once old.chosen None) → IsSelected answer chosen old view
unselected answer chosen old view is h = subst (λ (a : Answer). IsSelected a chosen old view) (sym is) h

pub unshown_selected : (why : ShowFault) (answer : Answer) (chosen : Chosen) (old view : View) → TellsUnshown why answer
    → IsSelectedWith (let r : Result Ended ShowFault = Err why in r) chosen old view → IsSelected answer chosen old view
unshown_selected (fault.Store why) answer chosen old view (inl tells) h = told_selected why answer chosen old view tells h
unshown_selected (fault.Store why) answer chosen old view (inr starved) h = unselected answer chosen old view starved h
unshown_selected (fault.Spawn why) answer chosen old view tells h = selected answer chosen old view h

-- why no event was waited for is an answer
pub unshown_means : {D : Type 0} (site : Seen D) (s : Serving) (players : ℕ) (wires : Wires) (input input' : End) (d d' : D) (staff staff' : Staff)
    (why : ShowFault) (answer : Answer) → wires ≡ wires_of s players → WhyUnshown site s.ladder wires input input' staff staff' d d' why → TellsUnshown why answer
    → IsSelectedWith (let r : Result Ended ShowFault = Err why in r) (chosen_of s) (site.view d) (site.view d') → ShowAnswers site s players input input' d d' staff staff' answer
unshown_means site s players wires input input' d d' staff staff' why answer same h tells chosen =
    inl (
      inr (why, subst (λ (w : Wires). WhyUnshown site s.ladder w input input' staff staff' d d' why) same h, tells),
      unshown_selected why answer (chosen_of s) (site.view d) (site.view d') tells chosen,
    )

-- ---- what the words ask for

shown_back : (w : Option Wanted) (s : Serving) (players : ℕ) → Some (s, players) ≡ shown_by w → Some (ServeShown s players) ≡ w
shown_back None s players e = absurd (cc)
shown_back (Some (ServeShown x n)) s players e =
    let same : (s, players) ≡ (x, n) = cc in
    ap (λ (y : Serving × ℕ). Some (ServeShown y.0 y.1)) same
shown_back (Some (Pick track time)) s players e = absurd (cc)
shown_back (Some (Serve x)) s players e = absurd (cc)
shown_back (Some (Push host port path id)) s players e = absurd (cc)
shown_back (Some (Play plan)) s players e = absurd (cc)
shown_back (Some (Relay x)) s players e = absurd (cc)
shown_back (Some (Standby x)) s players e = absurd (cc)
shown_back (Some (Listing store)) s players e = absurd (cc)
shown_back (Some (Rehearse number size)) s players e = absurd (cc)
shown_back (Some (Export store name bitrate)) s players e = absurd (cc)
shown_back (Some (Help topic)) s players e = absurd (cc)
shown_back (Some Version) s players e = absurd (cc)

-- as many as the words ask for may be started
pub fits_by : (o : Option (ServeOrder × ℕ)) (words : List (List ℕ)) → option_map (λ x. (serving_of x.0, x.1)) o ≡ shown_by (asked words) → IfSome o (λ x. IsShowable (serving_of x.0) x.1)
fits_by None words e = tt
fits_by (Some x) words e = showable (serving_of x.0) x.1 words (shown_back (asked words) (serving_of x.0) x.1 e)

-- ---- without memory for the words

pub starved_runs : {D C P : Type 0} (site : Seen D) (t : Dialing C) (m : Meaning P) (policies : List P) (words : List (List ℕ))
    (o : Option (Serving × ℕ)) (around : Around) (output output' : End) (d : D) (c : C) (staff : Staff) (status : ℕ) → Prints Starved output output' status → KeepsStores site d d ((line : List ℕ) × (Starved ≡ NotAStore line))
    → RunsBy site t m policies words o around around output output' d d c c staff staff status
starved_runs site t m policies words None around output output' d c staff status prints stores = (
  record {
    answer = Starved;
    written = output;
    means = inr (refl, refl, record { around_is = refl; site_is = refl; dial_is = refl });
    prints = prints;
    stores = stores;
  },
  refl,
)
starved_runs site t m policies words (Some x) around output output' d c staff status prints stores = record {
  answer = Starved;
  means = inr (refl, refl, refl, refl);
  prints = prints;
  counted = omega arith;
  dial = refl;
  tracks = refl;
  dial_is = refl;
  stores = stores;
}

-- ---- with players

-- the order and the number that were read are what the words ask for
pub shown_of : (o : Option (ServeOrder × ℕ)) (x : ServeOrder × ℕ) (w : Option (Serving × ℕ)) → o ≡ Some x → option_map (λ y. (serving_of y.0, y.1)) o ≡ w → Some (serving_of x.0, x.1) ≡ w
shown_of o x w is e = sym (ap (λ (z : Option (ServeOrder × ℕ)). option_map (λ y. (serving_of y.0, y.1)) z) is) ∙ e

pub shown_runs : {D C P : Type 0} (site : Seen D) (t : Dialing C) (m : Meaning P) (policies : List P) (words : List (List ℕ))
    (o : Option (Serving × ℕ)) (s : Serving) (players : ℕ) (old new : Around) (output output' : End) (d d' : D) (c c' : C) (staff staff' : Staff) (status : ℕ) → Some (s, players) ≡ o
    → IsShown site s players old new output output' d d' c c' staff staff' status
    → RunsBy site t m policies words o old new output output' d d' c c' staff staff' status
shown_runs site t m policies words o s players old new output output' d d' c c' staff staff' status is shown =
    subst (λ (x : Option (Serving × ℕ)). RunsBy site t m policies words x old new output output' d d' c c' staff staff' status) is shown
