-- What a run of calls puts down.
use Rattle.std.proofs.Common.{◌≡◌, inl, inr, ℕ, true, false, List, [], ◌∷◌, ◌++◌, refl, sym, ◌∙◌, ap, Option, None, Some, Result, Ok, Err, OnOk, OnErr, append_assoc}
use Rattle.std.proofs.lemmas.List.{append-nil}
use Rattle.sm_site.specs.Meanings.{Deed, DiskCall, View}
use Rattle.sm_site.specs.Clauses.{Both, Notes, NotesFault, Recorded, Acted, last_moment}
use Rattle.sm_site.proofs.Told.{both_weaker, both_then}

pub last_moment_append : (m : ℕ) (xs ys : List DiskCall) → last_moment m (xs ++ ys) ≡ last_moment (last_moment m xs) ys
last_moment_append m [] ys = refl
last_moment_append m (x ∷ xs) ys = last_moment_append x.moment xs ys

module _ (v : View) where
  both_same : (calls : Option (List DiskCall)) → Both calls calls (λ before now. (made : List DiskCall) × (now ≡ before ++ made) × (v.moment ≡ last_moment v.moment made))
  both_same None = tt
  both_same (Some xs) = ([], sym (append-nil xs), refl)

  -- no call
  pub recorded_none : Recorded v v
  recorded_none = both_same v.calls

-- one call
pub recorded_one : (deed : Deed) (old new : View) → Notes deed old new → Recorded old new
recorded_one deed old new note =
    both_weaker old.calls new.calls _ (λ before now. (made : List DiskCall) × (now ≡ before ++ made) × (new.moment ≡ last_moment old.moment made))
    (λ before now is. ((record { moment = new.moment; deed = deed; failed = false }) ∷ [], is, refl)) note

pub acted_one : (deed : Deed) (old new : View) → Notes deed old new → Acted old new
acted_one deed old new note =
    both_weaker old.calls new.calls _ (λ before now. (call : DiskCall) × (calls : List DiskCall) × (now ≡ before ++ call ∷ calls))
    (λ before now is. (record { moment = new.moment; deed = deed; failed = false }, [], is)) note

-- one that failed
pub recorded_fault : (deed : Deed) (old new : View) → NotesFault deed old new → Recorded old new
recorded_fault deed old new note =
    both_weaker old.calls new.calls _ (λ before now. (made : List DiskCall) × (now ≡ before ++ made) × (new.moment ≡ last_moment old.moment made))
    (λ before now is. elim is [
      | inl noted ↦ ((record { moment = new.moment; deed = deed; failed = true }) ∷ [], noted, refl)
      | inr none ↦ ([], none.0 ∙ sym (append-nil before), none.1)
    ]) note

-- one that failed or not
pub recorded_call : {T E : Type 0} (r : Result T E) (deed : Deed) (old new : View) → OnOk r (Notes deed old new) → OnErr r (NotesFault deed old new) → Recorded old new
recorded_call (Ok x) deed old new note fault = recorded_one deed old new note
recorded_call (Err e) deed old new note fault = recorded_fault deed old new fault

-- calls, and then others
pub recorded_then : (old mid new : View) → Recorded old mid → Recorded mid new → Recorded old new
recorded_then old mid new first second =
    both_then old.calls mid.calls new.calls _ _ (λ before now. (made : List DiskCall) × (now ≡ before ++ made) × (new.moment ≡ last_moment old.moment made))
    (λ before between now xs ys. (
      xs.0 ++ ys.0,
      ys.1 ∙ ap (λ (l : List DiskCall). l ++ ys.0) xs.1 ∙ append_assoc before xs.0 ys.0,
      ys.2 ∙ ap (λ (m : ℕ). last_moment m ys.0) xs.2 ∙ sym (last_moment_append old.moment xs.0 ys.0),
    )) first second

pub acted_first : (old mid new : View) → Acted old mid → Recorded mid new → Acted old new
acted_first old mid new first second =
    both_then old.calls mid.calls new.calls _ _ (λ before now. (call : DiskCall) × (calls : List DiskCall) × (now ≡ before ++ call ∷ calls))
    (λ before between now xs ys. (
      xs.0,
      xs.1 ++ ys.0,
      ys.1 ∙ ap (λ (l : List DiskCall). l ++ ys.0) xs.2 ∙ append_assoc before (xs.0 ∷ xs.1) ys.0,
    )) first second

pub acted_then : (old mid new : View) → Recorded old mid → Acted mid new → Acted old new
acted_then old mid new first second =
    both_then old.calls mid.calls new.calls _ _ (λ before now. (call : DiskCall) × (calls : List DiskCall) × (now ≡ before ++ call ∷ calls))
    (λ before between now xs ys. joined before between now xs.0 xs.1 ys) first second
  where
    joined : (before between now made : List DiskCall) → between ≡ before ++ made → ((call : DiskCall) × (calls : List DiskCall) × (now ≡ between ++ call ∷ calls))
        → (call : DiskCall) × (calls : List DiskCall) × (now ≡ before ++ call ∷ calls)
    joined before between now [] is ys = (ys.0, ys.1, ys.2 ∙ ap (λ (l : List DiskCall). l ++ ys.0 ∷ ys.1) (is ∙ append-nil before))
    joined before between now (x ∷ xs) is ys = (x, xs ++ ys.0 ∷ ys.1, ys.2 ∙ ap (λ (l : List DiskCall). l ++ ys.0 ∷ ys.1) is ∙ append_assoc before (x ∷ xs) (ys.0 ∷ ys.1))
