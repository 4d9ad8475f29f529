-- How a store comes to be opened as an archive.
use Rattle.std.proofs.Common.{inl, inr, ◌≡◌, ◌⊎◌, ◌≤◌, ℕ, List, [], ◌∷◌, ◌++◌, Option, Some, None, Result, Ok, Err, refl, sym, ap, subst, ◌∙◌}
use Rattle.std.proofs.lemmas.List.{append-nil}
use Rattle.std.specs.Prelude.{IfSome, IsSome, OnOk, is_some}
use Rattle.sm_model.specs.declared.entry.Entry.{Entry}
use Rattle.sm_model.specs.declared.entry.Entry.TheVariants.{Declare}
use Rattle.sm_model.specs.declared.track.Track.{Track}
use Rattle.sm_site.specs.Clauses.{Throughout}
use Rattle.sm_site.specs.Image.{Image}
use Rattle.sm_site.specs.Meanings.{Seen}
use Rattle.sm_site.proofs.Moments.{and_then, weakened}
use Rattle.sm_seglog.specs.Stores.{HasStore}
use Rattle.sm_archive.specs.declared.answers.Declared.{Declared}
use Rattle.sm_archive.specs.declared.answers.Declared.TheVariants as declared
use Rattle.sm_archive.specs.declared.archive.Archive.{Archive}
use Rattle.sm_archive.specs.Declaring.{DeclareStep}
use Rattle.sm_archive.specs.Stands.{Stands}
use Rattle.sm_archive.specs.Steps.{Grows, Settles}
use Rattle.sm_archive.specs.Store.{IsStore, Spell}
use Rattle.sm_origin.specs.Opening.{HasOneStore}
use Rattle.sm_command.specs.declared.fault.StoreFault.{StoreFault}
use Rattle.sm_command.specs.declared.fault.StoreFault.TheVariants as fault
use Rattle.sm_command.specs.Opening.{Agrees, BeginsWith, IsDeclared, IsOpened, Tries, WhyUndeclared}
use Rattle.sm_command.specs.Serving.{NotRead, outcome_of, standard}
use Rattle.sm_command.proofs.Lasting.{log_is}
use Rattle.sm_ends.specs.Ended.{End}

-- what opening found
pub opened : {D : Type 0} (site : Seen D) (archive : Archive) (old new : D) → ((log : List Entry) × Stands archive log None (site.may_leave new))
    → IfSome (site.view old).contents (λ c. (log : List Entry) × IsStore log c)
    → IfSome (site.view old).contents (λ c. (log : List Entry) → IsStore log c → Stands archive log None (site.may_leave new)) → archive.limits ≡ standard
    → IsOpened site archive old new
opened {D} site archive old new some has store limits_are = by_contents (site.view old).contents refl has store
  where
    by_contents : (c : Option Image) → (site.view old).contents ≡ c → IfSome c (λ c. (log : List Entry) × IsStore log c)
        → IfSome c (λ c. (log : List Entry) → IsStore log c → Stands archive log None (site.may_leave new)) → IsOpened site archive old new
    by_contents None e h so = record {
      log = some.0;
      store = subst (λ (x : Option Image). IfSome x (IsStore some.0)) (sym e) tt;
      stands = some.1;
      limits_are = limits_are;
    }
    by_contents (Some c) e h so = record {
      log = h.0;
      store = subst (λ (x : Option Image). IfSome x (IsStore h.0)) (sym e) h.1;
      stands = so h.0 h.1;
      limits_are = limits_are;
    }

settled : (log mid : List Entry) → Settles log None mid → mid ≡ log
settled log mid (inl same) = same
settled log mid (inr other) = let no = other.1 in absurd (cc)

-- a log without a doubt only grows behind
grown : (log after : List Entry) (e : Entry) → Grows log None e after → (more : List Entry) × (after ≡ log ++ more)
grown log after e (inl same) = ([], settled log after same ∙ sym (append-nil log))
grown log after e (inr more) = (e ∷ [], more.2 ∙ ap (λ (l : List Entry). l ++ e ∷ []) (settled log more.0 more.1))

pub begins_with : (log : List Entry) (e : Entry) (c : Image) → (after : List Entry) × IsStore after c × Grows log None e after → BeginsWith log c
begins_with log e c (after, store, grows) = let more = grown log after e grows in (after, more.0, store, more.1)

pub begins_so : (log : List Entry) (c : Image) → IsStore log c → BeginsWith log c
begins_so log c store = (log, [], store, sym (append-nil log))

by_answer : (acted : Type 0) (outcomes : Image → Type 0) (new : Archive) (log : List Entry) (channel : List Track) (answer : Declared)
    → DeclareStep acted outcomes new log None channel answer → OnOk (outcome_of answer) ((after : List Entry) × Stands new after None outcomes)
by_answer acted outcomes new log channel declared.Fixed (mid, clears, d) = (Declare channel ∷ [], d.3)
by_answer acted outcomes new log channel declared.Agreed (mid, clears, d) = (mid, d.3)
by_answer acted outcomes new log channel (declared.Refused cause) step = tt
by_answer acted outcomes new log channel declared.Full step = tt
by_answer acted outcomes new log channel declared.DiskFault step = tt
by_answer acted outcomes new log channel declared.NoMemory step = tt

-- where a channel was taken, nothing is in doubt
pub taken : (acted : Type 0) (outcomes : Image → Type 0) (new : Archive) (log : List Entry) (channel : List Track) (answer : Declared) (r : Result (Unit {0}) StoreFault)
    → DeclareStep acted outcomes new log None channel answer → r ≡ outcome_of answer → OnOk r ((after : List Entry) × Stands new after None outcomes)
taken acted outcomes new log channel answer r step is =
    subst (λ (x : Result (Unit {0}) StoreFault). OnOk x ((after : List Entry) × Stands new after None outcomes)) (sym is) (by_answer acted outcomes new log channel answer step)

module _ {D : Type 0} (site : Seen D) where
  -- what declaring a ladder to an archive came to
  abbrev Came : End → End → List Entry → Archive → D → D → Result (Unit {0}) StoreFault → Type 0
  Came input input' log archive mid new r = Agrees site input.told input'.told log archive mid new r ⊎ (NotRead input input' r × (new ≡ mid))

  pub tries : (input input' : End) (before archive : Archive) (old mid new : D) (r : Result (Unit {0}) StoreFault) → (o : IsOpened site before old mid)
      → (site.view old).disk_faults ≤ (site.view mid).disk_faults → Came input input' o.log archive mid new r → Tries site input input' archive old new r
  tries input input' before archive old mid new r o le came = record { before = before; opened = mid; found = o; no_fewer = le; agrees = came }

  pub declared_as : (input input' : End) (before archive : Archive) (old mid new : D) → (o : IsOpened site before old mid) → (site.view old).disk_faults ≤ (site.view mid).disk_faults
      → Came input input' o.log archive mid new (Ok tt) → ((log : List Entry) × Stands archive log None (site.may_leave new))
      → archive.limits ≡ before.limits → IsDeclared site input input' archive old new
  declared_as input input' before archive old mid new o le came stands same = record {
    tries = tries input input' before archive old mid new (Ok tt) o le came;
    log = stands.0;
    stands = stands.1;
    limits_are = same ∙ o.limits_are;
  }

  pub undeclared : (input input' : End) (before archive : Archive) (old mid new : D) (why : StoreFault) → (o : IsOpened site before old mid)
      → (site.view old).disk_faults ≤ (site.view mid).disk_faults → Came input input' o.log archive mid new (Err why) → WhyUndeclared site input input' old new why
  undeclared input input' before archive old mid new why o le came = inr (archive, tries input input' before archive old mid new (Err why) o le came)

-- neither an input that isn't read nor a channel that is refused says that the files are no store
no_place : (answer : Declared) (at : ℕ) → (let r : Result (Unit {0}) StoreFault = Err (fault.NotAStore at) in r) ≡ outcome_of answer → ⊥
no_place declared.Fixed at e = cc
no_place declared.Agreed at e = cc
no_place (declared.Refused cause) at e = cc
no_place declared.Full at e = cc
no_place declared.DiskFault at e = cc
no_place declared.NoMemory at e = cc

pub never_placed : {D : Type 0} (site : Seen D) (input input' : End) (log : List Entry) (archive : Archive) (old new : D) (why : StoreFault)
    → Agrees site input.told input'.told log archive old new (Err why) ⊎ (NotRead input input' (Err why) × (new ≡ old)) → (at : ℕ)
    → why ≡ fault.NotAStore at → ⊥
never_placed site input input' log archive old new why h at same = by_cause (subst (λ (w : StoreFault). Agrees site input.told input'.told log archive old new (Err w) ⊎ (NotRead input input' (Err w) × (new ≡ old))) same h)
  where
    by_cause : Agrees site input.told input'.told log archive old new (Err (fault.NotAStore at)) ⊎ (NotRead input input' (Err (fault.NotAStore at)) × (new ≡ old)) → ⊥
    by_cause (inl agrees) = no_place agrees.answer at agrees.comes_to
    by_cause (inr unread) = unread.0

module _ {D : Type 0} (site : Seen D) (pass : (d : D) → IfSome (site.view d).contents (site.may_leave d))
    (one_list : (xs ys : List (List ℕ)) (image : Image) → HasStore xs image → HasStore ys image → xs ≡ ys)
    (one_log : (bodies : List (List ℕ)) (a b : List Entry) → Spell bodies a → Spell bodies b → a ≡ b) where
  -- each store behind the opening begins with the log that was there
  pub begins_all : (before : Archive) (old mid new : D) → (o : IsOpened site before old mid) → is_some (site.view mid).contents ≡ is_some (site.view old).contents → (log : List Entry)
      → HasOneStore log (site.may_leave old) → IsSome (site.view old).contents → Throughout site old mid (λ t c. IsStore log c)
      → (IsSome (site.view mid).contents → Throughout site mid new (λ t c. BeginsWith o.log c)) → Throughout site old new (λ t c. BeginsWith log c)
  begins_all before old mid new o told log one some first second =
      let same : o.log ≡ log = log_is one_list one_log (site.view old).contents (site.may_leave old) o.log log some (pass old) o.store one in
      and_then site old mid new (λ t c. BeginsWith log c)
      (weakened site old mid (λ t c. IsStore log c) (λ t c. BeginsWith log c) first (λ t c store. begins_so log c store))
      (subst (λ (l : List Entry). Throughout site mid new (λ t c. BeginsWith l c)) same (second (told ∙ some)))
