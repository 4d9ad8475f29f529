-- What a push gives is valid.
use Rattle.std.proofs.Common.{ℕ, Bool, false, List, [], ◌∷◌, ◌++◌, Result, Ok, Err, IsErrOf, ◌∙◌, ap, subst}
use Rattle.std.specs.List.{AllByRecursion}
use Rattle.std.proofs.lemmas.List.{append-nil}
use Rattle.sm_model.specs.Items.{Given}
use Rattle.sm_push.specs.Body.{Outcome, body}
use Rattle.sm_push.specs.declared.fault.PushFault.{PushFault}
use Rattle.sm_push.specs.declared.fault.PushFault.TheVariants as pushes
use Rattle.sm_push.specs.Standing.{Standing, Answers}
use Rattle.sm_push.specs.Validity.{IsValidItem}
use Rattle.sm_serve.specs.Pushes.{GivesValid}

valid_behind : (xs ys : List Given) → AllByRecursion IsValidItem (xs ++ ys) → AllByRecursion IsValidItem ys
valid_behind [] ys valid = valid
valid_behind (x ∷ xs) ys valid = valid_behind xs ys valid.1

pub gives_valid : ((headerless : Bool) (b : List ℕ) → AllByRecursion IsValidItem (body headerless b).items) → (b piece : List ℕ) (p : Standing) (r : Result (List Given) PushFault)
    → Answers false b piece p r → GivesValid r
gives_valid all b piece p (Ok items) answers = valid_behind (body false b).items items (subst (λ (gs : List Given). AllByRecursion IsValidItem gs) answers.1 (all false (b ++ piece)))
gives_valid all b piece p (Err (pushes.Refused before r)) answers =
    valid_behind (body false b).items before (subst (λ (gs : List Given). AllByRecursion IsValidItem gs) (ap (λ (o : Outcome). o.items) answers ∙ append-nil ((body false b).items ++ before)) (all false (b ++ piece)))
gives_valid all b piece p (Err pushes.Failed) answers = tt
gives_valid all b piece p (Err pushes.NoMemory) answers = tt

pub failed_valid : (r : Result (List Given) PushFault) → IsErrOf r pushes.Failed → GivesValid r
failed_valid (Ok items) is = absurd (cc)
failed_valid (Err (pushes.Refused before r)) is = absurd (cc)
failed_valid (Err pushes.Failed) is = tt
failed_valid (Err pushes.NoMemory) is = tt
