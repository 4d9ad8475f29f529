-- A write that is put down.
use Rattle.std.proofs.Common.{◌≡◌, ◌⊎◌, inl, inr, ℕ, ◌≤◌, Bool, true, false, List, [], ◌∷◌, ◌++◌, ◌+◌, length, refl, sym, ◌∙◌, ap, subst, Vec, arith, Result, is_err, OnOk}
use Rattle.std.proofs.lemmas.Bool.{cases_eq}
use Rattle.std.proofs.lemmas.List.{length_push}
use Rattle.sm_site.specs.Meanings.Deed.{Wrote as WroteDeed}
use Rattle.std.specs.declared.alloc.Global.{Global}
use Rattle.sm_site.specs.declared.step.Step.{Step}
use Rattle.sm_site.specs.declared.step.Step.TheVariants.{Wrote}
use Rattle.sm_site.specs.Image.{Image, bytes_of, written, SameElsewhere, TearsAt, WritesAt}
use Rattle.sm_site.specs.Past.{State, Agrees, after_step, IsOutcome, calls_from}
use Rattle.sm_site.proofs.Told.{when_ok}
use Rattle.sm_site.proofs.Steps.{calls_push}
use Rattle.sm_site.proofs.Outcomes.{bytes_insert_same, bytes_insert_other, agrees_write, follows_write, torn_now}

module _ (s : State) (file at : ℕ) (own : Vec ℕ Global) (failed : Bool) where
  abbrev later : Bool → State
  later reached = after_step s (Wrote file at own failed reached)

  pub elsewhere : (reached : Bool) → SameElsewhere file s.contents (later reached).contents
  elsewhere true other apart = bytes_insert_other s.contents file (written (bytes_of s.contents file) at own.items) other apart
  elsewhere false other apart = refl

  pub done : (reached : Bool) → (bytes_of (later reached).contents file ≡ written (bytes_of s.contents file) at own.items) ⊎ (bytes_of (later reached).contents file ≡ bytes_of s.contents file)
  done true = inl (bytes_insert_same s.contents file (written (bytes_of s.contents file) at own.items))
  done false = inr refl

  pub noted_write : (reached : Bool) → at ≤ length (bytes_of s.contents file) → (c : Image) → IsOutcome (later reached) c → (d : Image) × IsOutcome s d × TearsAt file at (length own.items) d c
  noted_write reached inside c outcome = follows_write s.contents (later reached).contents s.base s.ranges file at own.items inside (elsewhere reached) (done reached) c outcome

  pub noted_tears : (reached : Bool) → at ≤ length (bytes_of s.contents file) → TearsAt file at (length own.items) s.contents (later reached).contents
  noted_tears reached inside = record { torn = torn_now at own.items (bytes_of s.contents file) (bytes_of (later reached).contents file) inside (done reached); others = elsewhere reached }

  pub noted_writes : WritesAt file at own.items s.contents (later true).contents
  noted_writes = record { file_is = bytes_insert_same s.contents file (written (bytes_of s.contents file) at own.items); others = elsewhere true }

  pub noted_agrees : (reached : Bool) → at ≤ length (bytes_of s.contents file) → Agrees s → Agrees (later reached)
  noted_agrees reached inside agrees = agrees_write s.contents (later reached).contents s.base s.ranges file at own.items inside (elsewhere reached) (done reached) agrees

  -- the files after it
  pub cached_write : (reached : Bool) (x y : Image) → ((k : ℕ) → bytes_of x k ≡ bytes_of s.contents k) → SameElsewhere file x y
      → (reached ≡ true → bytes_of y file ≡ written (bytes_of x file) at own.items) → (reached ≡ false → bytes_of y file ≡ bytes_of x file)
      → (k : ℕ) → bytes_of y k ≡ bytes_of (later reached).contents k
  cached_write reached x y was others wrote kept k = elim (cases_eq k file) [
    | inl is ↦ subst (λ (q : ℕ). bytes_of y q ≡ bytes_of (later reached).contents q) (sym is) (here reached wrote kept)
    | inr apart ↦ others k apart ∙ was k ∙ sym (elsewhere reached k apart)
  ]
    where
      here : (r : Bool) → (r ≡ true → bytes_of y file ≡ written (bytes_of x file) at own.items) → (r ≡ false → bytes_of y file ≡ bytes_of x file) → bytes_of y file ≡ bytes_of (later r).contents file
      here true wrote kept = wrote refl ∙ ap (λ (l : List ℕ). written l at own.items) (was file) ∙ sym (bytes_insert_same s.contents file (written (bytes_of s.contents file) at own.items))
      here false wrote kept = kept refl ∙ was file

-- a write was put down
pub record Put (past later : List Step) (file at : ℕ) (bytes : List ℕ) (failed reached : Bool) : Type 0 where
  pub own : Vec ℕ Global
  pub copied : own.items ≡ bytes
  pub behind : later ≡ past ++ Wrote file at own failed reached ∷ []

pub put_down : {T E : Type 0} {past later : List Step} {file at : ℕ} {bytes : List ℕ} {failed reached : Bool} (r : Result T E) → is_err r ≡ false
    → OnOk r ((own : Vec ℕ Global) × (own.items ≡ bytes) × (later ≡ past ++ Wrote file at own failed reached ∷ [])) → Put past later file at bytes failed reached
put_down r fine told = let p = when_ok r fine told in record { own = p.0; copied = p.1; behind = p.2 }

-- nothing was put down
pub cached_same : (file : ℕ) (x y z : Image) → ((k : ℕ) → bytes_of x k ≡ bytes_of z k) → SameElsewhere file x y → bytes_of y file ≡ bytes_of x file → (k : ℕ) → bytes_of y k ≡ bytes_of z k
cached_same file x y z was others same k = elim (cases_eq k file) [
  | inl is ↦ subst (λ (q : ℕ). bytes_of y q ≡ bytes_of z q) (sym is) (same ∙ was file)
  | inr apart ↦ others k apart ∙ was k
]

pub note_write : (past later : List Step) (file at : ℕ) (own : Vec ℕ Global) (failed reached : Bool) (bytes : List ℕ) → own.items ≡ bytes
    → later ≡ past ++ Wrote file at own failed reached ∷ [] → (f : Bool) → failed ≡ f
    → calls_from 0 later ≡ calls_from 0 past ++ (record { moment = length later; deed = WroteDeed file at bytes; failed = f }) ∷ []
note_write past later file at own failed reached bytes copied is f fails =
    let long : 0 + length past + 1 ≡ length later = omega (arith, ap length is, length_push past (Wrote file at own failed reached)) in
    ap (λ (l : List Step). calls_from 0 l) is
    ∙ calls_push 0 past (Wrote file at own failed reached)
    ∙ ap (λ (m : ℕ). calls_from 0 past ++ (record { moment = m; deed = WroteDeed file at own.items; failed = failed }) ∷ []) long
    ∙ ap (λ (l : List ℕ). calls_from 0 past ++ (record { moment = length later; deed = WroteDeed file at l; failed = failed }) ∷ []) copied
    ∙ ap (λ (b : Bool). calls_from 0 past ++ (record { moment = length later; deed = WroteDeed file at bytes; failed = b }) ∷ []) fails
