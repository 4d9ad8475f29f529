-- What the bytes behind a head have of a body.
use Rattle.std.specs.Prelude.{◌≡◌, ◌≢◌, ℕ, List, ◌++◌}
use Rattle.sm_model.specs.declared.framing.Framing.{Framing}
use Rattle.sm_body.specs.declared.place.Place.TheVariants.{Ended, Failed}
use Rattle.sm_body.specs.Places.{start, place_after, body_from}
use Rattle.sm_fetch.specs.declared.body.Framed.{Framed}
use Rattle.sm_fetch.specs.declared.body.Framed.TheVariants.{Whole, Cut, Bad}
use Rattle.sm_fetch.specs.Answered.{body_bytes}

-- a whole body in front
pub record IsFramedWhole (framing : Framing) (bytes body : List ℕ) : Type 0 where
  pub framed : List ℕ
  pub rest : List ℕ
  pub joined : bytes ≡ framed ++ rest
  pub ends : place_after (start framing) framed ≡ Ended
  pub body_is : body ≡ body_from (start framing) framed

-- the front of one
pub record IsFramedCut (framing : Framing) (bytes : List ℕ) : Type 0 where
  pub unended : place_after (start framing) bytes ≢ Ended
  pub unfailed : place_after (start framing) bytes ≢ Failed

-- a byte that fits nowhere, before the end
pub record IsFramedBad (framing : Framing) (bytes : List ℕ) : Type 0 where
  pub failed : place_after (start framing) bytes ≡ Failed
  pub unended : (framed rest : List ℕ) → bytes ≡ framed ++ rest → place_after (start framing) framed ≢ Ended

abbrev pub FramedAs : Framing → List ℕ → Framed → Type 0
FramedAs framing bytes (Whole body) = IsFramedWhole framing bytes (body_bytes body)
FramedAs framing bytes Cut = IsFramedCut framing bytes
FramedAs framing bytes Bad = IsFramedBad framing bytes
