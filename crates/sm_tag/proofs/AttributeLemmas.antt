-- One attribute more.
use Rattle.std.proofs.Common.{◌≡◌, ℕ, Bool, None, List, [], Result, Ok}
use Rattle.sm_model.specs.declared.tag.Attribute.{Attribute}
use Rattle.sm_tag.specs.TagParts.{Stop, opening_at, Values, mark_at, AttributeAt, unopened, opened, Tails, unmarked, broken}
use Rattle.sm_tag.specs.declared.halt.Halt.{Halt}
use Rattle.sm_tag.specs.declared.halt.Halt.TheVariants.{Memory, Short, Wrong}
use Rattle.sm_tag.specs.Reads.{Fails, FailsBy}

-- the readings of the rest, behind these attributes, are those of the whole
abbrev pub Follows : List ℕ → List Attribute → List ℕ → Type 0
Follows bytes seen rest = (r : Result (List Attribute × Bool × List ℕ) Stop) → Tails seen rest r → Tails [] bytes r

pub follows_unmarked : (bytes : List ℕ) (seen : List Attribute) (rest : List ℕ) (e : Halt) → Follows bytes seen rest → Fails e (mark_at rest) → FailsBy e (Tails [] bytes)
follows_unmarked bytes seen rest Memory before h = tt
follows_unmarked bytes seen rest Short before h = before _ (unmarked h)
follows_unmarked bytes seen rest Wrong before h = before _ (unmarked h)

pub follows_broken : (bytes : List ℕ) (seen : List Attribute) (rest at : List ℕ) (e : Halt) → Follows bytes seen rest → mark_at rest ≡ Ok (None, at) → FailsBy e (AttributeAt at) → FailsBy e (Tails [] bytes)
follows_broken bytes seen rest at Memory before m h = tt
follows_broken bytes seen rest at Short before m h = before _ (broken m h)
follows_broken bytes seen rest at Wrong before m h = before _ (broken m h)

pub unopened_fails : (bytes : List ℕ) (e : Halt) → Fails e (opening_at bytes) → FailsBy e (AttributeAt bytes)
unopened_fails bytes Memory h = tt
unopened_fails bytes Short h = unopened h
unopened_fails bytes Wrong h = unopened h

pub opened_fails : (bytes name rest : List ℕ) (q : ℕ) (e : Halt) → opening_at bytes ≡ Ok (name, q, rest) → FailsBy e (Values q [] rest) → FailsBy e (AttributeAt bytes)
opened_fails bytes name rest q Memory o h = tt
opened_fails bytes name rest q Short o h = opened o h
opened_fails bytes name rest q Wrong o h = opened o h
