-- What a fault of a command on a store means.
use Rattle.std.proofs.Common.{◌≡◌, ◌⊎◌, inl, inr, ℕ, Bool, List, None, Some, Result, Ok, Err, refl, sym, subst, ◌∙◌}
use Rattle.std.specs.Prelude.{IfOk}
use Rattle.sm_model.specs.declared.no_memory.NoMemory.{NoMemory}
use Rattle.sm_site.specs.Meanings.{Chosen, View, Seen, asked}
use Rattle.sm_archive.specs.declared.answers.Declared.{Declared}
use Rattle.sm_archive.specs.declared.answers.Declared.TheVariants as declared
use Rattle.sm_serve.specs.declared.outcome.Served.{Served as Outcome}
use Rattle.sm_serve.specs.declared.outcome.Served.TheVariants as served
use Rattle.sm_serve.specs.declared.state.State.{State}
use Rattle.sm_command.specs.declared.fault.StoreFault.{StoreFault}
use Rattle.sm_command.specs.declared.fault.StoreFault.TheVariants as fault
use Rattle.sm_command.specs.Lasting.{Untouched}
use Rattle.sm_command.specs.Listing.{WhyUnlisted}
use Rattle.sm_command.specs.Serving.{LadderMeans, UnreadyBy, WhyUnready, outcome_of}
use Rattle.sm_tool.specs.declared.answer.Answer.{Answer}
use Rattle.sm_tool.specs.declared.answer.Answer.TheVariants.{Found, NotAStore}
use Rattle.sm_tool.specs.Stores.{IsSelected, ListMeans, ServeMeans, Tells, TellsEnd, or_starved}
use Rattle.sm_ends.specs.Ended.{End}

-- a ladder is never answered by damage
not_damaged : (answer : Declared) → Err fault.Damaged ≡ outcome_of answer → ⊥
not_damaged declared.Fixed e = cc
not_damaged declared.Agreed e = cc
not_damaged (declared.Refused cause) e = cc
not_damaged declared.Full e = cc
not_damaged declared.DiskFault e = cc
not_damaged declared.NoMemory e = cc

never_damaged : {D : Type 0} (site : Seen D) (ladder : Bool) (input input' : End) (d d' : D)
    → UnreadyBy site ladder input input' d d' fault.Damaged → ⊥
never_damaged {D} site ladder input input' d d' (inl h) = h.0
never_damaged {D} site ladder input input' d d' (inr h) = by_ladder h.1.state h.1.after h.1.opened h.1.means
  where
    by_ladder : (state after : State) (opened : D) → LadderMeans site input input' state opened after d' (Err fault.Damaged) → ⊥
    by_ladder state after opened (inl declares) = not_damaged declares.0 declares.1
    by_ladder state after opened (inr none) = none.why

told : {D : Type 0} (site : Seen D) (ladder : Bool) (turns : ℕ) (input input' : End) (d d' : D) (why : StoreFault) (answer : Answer)
    → WhyUnready site ladder input input' d d' why → Tells why answer → ServeMeans site ladder turns input input' d d' answer
told site ladder turns input input' d d' fault.DiskFault answer h is = subst (λ (a : Answer). ServeMeans site ladder turns input input' d d' a) (sym is) h
told site ladder turns input input' d d' fault.LinkFault answer h is = subst (λ (a : Answer). ServeMeans site ladder turns input input' d d' a) (sym is) (inr h)
told site ladder turns input input' d d' (fault.NotAStore at) answer h is =
    subst (λ (a : Answer). ServeMeans site ladder turns input input' d d' a) (sym is) (at, refl, h)
told site ladder turns input input' d d' fault.Unread answer h is = subst (λ (a : Answer). ServeMeans site ladder turns input input' d d' a) (sym is) h
told site ladder turns input input' d d' fault.LongLadder answer h is = subst (λ (a : Answer). ServeMeans site ladder turns input input' d d' a) (sym is) h
told site ladder turns input input' d d' (fault.BadLadder at) answer h is =
    subst (λ (a : Answer). ServeMeans site ladder turns input input' d d' a) (sym is) (at, refl, h)
told site ladder turns input input' d d' (fault.Refused cause) answer h is =
    subst (λ (a : Answer). ServeMeans site ladder turns input input' d d' a) (sym is) (cause, refl, h)
told site ladder turns input input' d d' fault.Full answer h is = subst (λ (a : Answer). ServeMeans site ladder turns input input' d d' a) (sym is) h
told site ladder turns input input' d d' fault.Damaged answer h is = absurd (never_damaged site ladder input input' d d' h.cause)
told site ladder turns input input' d d' fault.NoMemory answer h is =
    subst (λ (a : Answer). ServeMeans site ladder turns input input' d d' a) (sym is) (inr (fault.NoMemory, h))

pub unserved : {D : Type 0} (site : Seen D) (ladder : Bool) (turns : ℕ) (input input' : End) (d d' : D) (why : StoreFault)
    (r : Result Answer NoMemory) (answer : Answer) → WhyUnready site ladder input input' d d' why → IfOk r (λ a. Tells why a) → answer ≡ or_starved r
    → ServeMeans site ladder turns input input' d d' answer
unserved site ladder turns input input' d d' why (Ok a) answer h tells is =
    subst (λ (x : Answer). ServeMeans site ladder turns input input' d d' x) (sym is) (told site ladder turns input input' d d' why a h tells)
unserved site ladder turns input input' d d' why (Err none) answer h tells is =
    subst (λ (x : Answer). ServeMeans site ladder turns input input' d d' x) (sym is) (inr (why, h))

-- ---- list

told_list : {D : Type 0} (site : Seen D) (d d' : D) (why : StoreFault) (answer : Answer) → WhyUnlisted site d d' why → Tells why answer
    → ListMeans site d d' answer
told_list site d d' fault.DiskFault answer h is = subst (λ (a : Answer). ListMeans site d d' a) (sym is) h
told_list site d d' fault.LinkFault answer h is = subst (λ (a : Answer). ListMeans site d d' a) (sym is) h
told_list site d d' (fault.NotAStore at) answer h is = subst (λ (a : Answer). ListMeans site d d' a) (sym is) (at, refl, h)
told_list site d d' fault.Unread answer h is = absurd h.cause
told_list site d d' fault.LongLadder answer h is = absurd h.cause
told_list site d d' (fault.BadLadder at) answer h is = absurd h.cause
told_list site d d' (fault.Refused cause) answer h is = absurd h.cause
told_list site d d' fault.Full answer h is = absurd h.cause
told_list site d d' fault.Damaged answer h is = subst (λ (a : Answer). ListMeans site d d' a) (sym is) h
told_list site d d' fault.NoMemory answer h is = subst (λ (a : Answer). ListMeans site d d' a) (sym is) (fault.NoMemory, h)

pub unlisted : {D : Type 0} (site : Seen D) (d d' : D) (why : StoreFault)
    (r : Result Answer NoMemory) (answer : Answer) → WhyUnlisted site d d' why
    → IfOk r (λ a. Tells why a) → answer ≡ or_starved r → ListMeans site d d' answer
unlisted site d d' why (Ok a) answer h tells is = subst (λ (x : Answer). ListMeans site d d' x) (sym is) (told_list site d d' why a h tells)
unlisted site d d' why (Err none) answer h tells is = subst (λ (x : Answer). ListMeans site d d' x) (sym is) (why, h)

-- ---- what is told to be no store

-- the place of the fault that is told so
pub placed : (why : StoreFault) (answer : Answer) (line : List ℕ) → Tells why answer → answer ≡ NotAStore line → (at : ℕ) × (why ≡ fault.NotAStore at)
placed fault.DiskFault answer line is e = absurd (let no = sym is ∙ e in cc)
placed fault.LinkFault answer line is e = absurd (let no = sym is ∙ e in cc)
placed (fault.NotAStore at) answer line is e = (at, refl)
placed fault.Unread answer line is e = absurd (let no = sym is ∙ e in cc)
placed fault.LongLadder answer line is e = absurd (let no = sym is ∙ e in cc)
placed (fault.BadLadder at) answer line is e = absurd (let no = sym is ∙ e in cc)
placed (fault.Refused cause) answer line is e = absurd (let no = sym is ∙ e in cc)
placed fault.Full answer line is e = absurd (let no = sym is ∙ e in cc)
placed fault.Damaged answer line is e = absurd (let no = sym is ∙ e in cc)
placed fault.NoMemory answer line is e = absurd (let no = sym is ∙ e in cc)

-- the place of the fault behind such an answer
pub placed_by : (why : StoreFault) (r : Result Answer NoMemory) (answer : Answer) (line : List ℕ) → IfOk r (λ a. Tells why a) → answer ≡ or_starved r → answer ≡ NotAStore line
    → (at : ℕ) × (why ≡ fault.NotAStore at)
placed_by why (Ok a) answer line tells is e = placed why a line tells (sym is ∙ e)
placed_by why (Err none) answer line tells is e = absurd (let no = sym is ∙ e in cc)

pub unwritten_served : {D : Type 0} (site : Seen D) (ladder : Bool) {input input' : End}
    (d d' : D) (why : StoreFault) (r : Result Answer NoMemory) (answer : Answer) (line : List ℕ)
    → WhyUnready site ladder input input' d d' why → IfOk r (λ a. Tells why a) → answer ≡ or_starved r → answer ≡ NotAStore line → Untouched site d d'
unwritten_served site ladder d d' why r answer line h tells is e = let p = placed_by why r answer line tells is e in h.untouched p.0 p.1

pub unwritten_listed : {D : Type 0} (site : Seen D) (d d' : D) (why : StoreFault) (r : Result Answer NoMemory) (answer : Answer) (line : List ℕ)
    → WhyUnlisted site d d' why → IfOk r (λ a. Tells why a) → answer ≡ or_starved r → answer ≡ NotAStore line → Untouched site d d'
unwritten_listed site d d' why r answer line h tells is e = let p = placed_by why r answer line tells is e in h.untouched p.0 p.1

ended_so : (end : Outcome) (answer : Answer) (line : List ℕ) → TellsEnd end answer → answer ≡ NotAStore line → ⊥
ended_so (served.Done taken behind short) answer line is e = let no = sym is ∙ e in cc
ended_so served.LinkFault answer line is e = let no = sym is ∙ e in cc
ended_so served.NoMemory answer line is e = let no = sym is ∙ e in cc

-- a loop that ran was on a store
pub ended_is_store : (end : Outcome) (r : Result Answer NoMemory) (answer : Answer) (line : List ℕ) → IfOk r (λ a. TellsEnd end a) → answer ≡ or_starved r → answer ≡ NotAStore line → ⊥
ended_is_store end (Ok a) answer line tells is e = ended_so end a line tells (sym is ∙ e)
ended_is_store end (Err none) answer line tells is e = let no = sym is ∙ e in cc

-- ---- what the site is selected with

pub selected : (answer : Answer) (chosen : Chosen) (old view : View) → view.chosen ≡ asked old.chosen (Some chosen) → IsSelected answer chosen old view
selected (Found line) chosen old view is = is
selected answer chosen old view is = inl is

pub told_selected : (why : StoreFault) (answer : Answer) (chosen : Chosen) (old view : View) → Tells why answer → (view.chosen ≡ asked old.chosen (Some chosen)) ⊎ (view.chosen ≡ asked old.chosen None)
    → IsSelected answer chosen old view
told_selected fault.DiskFault answer chosen old view is h = subst (λ (a : Answer). IsSelected a chosen old view) (sym is) h
told_selected fault.LinkFault answer chosen old view is h = subst (λ (a : Answer). IsSelected a chosen old view) (sym is) h
told_selected (fault.NotAStore at) answer chosen old view is h = subst (λ (a : Answer). IsSelected a chosen old view) (sym is) h
told_selected fault.Unread answer chosen old view is h = subst (λ (a : Answer). IsSelected a chosen old view) (sym is) h
told_selected fault.LongLadder answer chosen old view is h = subst (λ (a : Answer). IsSelected a chosen old view) (sym is) h
told_selected (fault.BadLadder at) answer chosen old view is h = subst (λ (a : Answer). IsSelected a chosen old view) (sym is) h
told_selected (fault.Refused cause) answer chosen old view is h = subst (λ (a : Answer). IsSelected a chosen old view) (sym is) h
told_selected fault.Full answer chosen old view is h = subst (λ (a : Answer). IsSelected a chosen old view) (sym is) h
told_selected fault.Damaged answer chosen old view is h = subst (λ (a : Answer). IsSelected a chosen old view) (sym is) h
told_selected fault.NoMemory answer chosen old view is h = subst (λ (a : Answer). IsSelected a chosen old view) (sym is) h

pub unselected : (why : StoreFault) (r : Result Answer NoMemory) (answer : Answer) (chosen : Chosen) (old view : View) → IfOk r (λ a. Tells why a) → answer ≡ or_starved r
    → (view.chosen ≡ asked old.chosen (Some chosen)) ⊎ (view.chosen ≡ asked old.chosen None) → IsSelected answer chosen old view
unselected why (Ok a) answer chosen old view tells is h = subst (λ (x : Answer). IsSelected x chosen old view) (sym is) (told_selected why a chosen old view tells h)
unselected why (Err none) answer chosen old view tells is h = subst (λ (x : Answer). IsSelected x chosen old view) (sym is) h
