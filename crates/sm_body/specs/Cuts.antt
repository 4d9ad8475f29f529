-- Bodies whose bytes come cut anywhere.
use Rattle.std.specs.Prelude.{◌≡◌, ℕ, List, [], ◌++◌, take}
use Rattle.sm_body.specs.declared.framer.Step.TheVariants.{Skip, Body, End, More}
use Rattle.sm_body.specs.declared.place.Place.{Place}
use Rattle.sm_body.specs.Steps.{StepGives}

-- From the place, steps passed these bytes, up to the end of the body, and handed these on as the body. Each step was given
-- any bytes, and passed the first of them.
pub data EndsBehind : Place → List ℕ → List ℕ → Type 0 where
  ended : (place new : Place) (passed handed given : List ℕ) (n : ℕ)
      → StepGives place given (End n) new → passed ≡ take n given → handed ≡ []
      → EndsBehind place passed handed
  waited : (place new : Place) (passed handed given : List ℕ)
      → StepGives place given More new → EndsBehind new passed handed
      → EndsBehind place passed handed
  skipped : (place new : Place) (passed handed given later : List ℕ) (n : ℕ)
      → StepGives place given (Skip n) new → EndsBehind new later handed
      → passed ≡ take n given ++ later
      → EndsBehind place passed handed
  taken : (place new : Place) (passed handed given later data_later : List ℕ) (n : ℕ)
      → StepGives place given (Body n) new → EndsBehind new later data_later
      → passed ≡ take n given ++ later → handed ≡ take n given ++ data_later
      → EndsBehind place passed handed
