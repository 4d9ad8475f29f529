-- A place in a body.
use Rattle.std.specs.Prelude.{ℕ, List, drop}

pub record Place : Type 0 where
  pub body : List ℕ
  pub at : ℕ

-- the bytes from the place on
abbrev pub left : Place → List ℕ
left p = drop p.at p.body
