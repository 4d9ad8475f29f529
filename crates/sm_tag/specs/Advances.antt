-- What is left of a text gets shorter with each tag, unless the text has ended.
use Rattle.std.specs.Prelude.{ℕ, ◌<◌}
use Rattle.sm_tag.specs.declared.grammar.Lead.{Lead}
use Rattle.sm_tag.specs.declared.grammar.Lead.TheVariants as lead
use Rattle.sm_model.specs.declared.tag.Tag.{Tag}
use Rattle.sm_model.specs.declared.tag.Tag.TheVariants.{Start, Finish, Text, End, Bad}

-- what comes next, the bytes left behind it, and those left before it
abbrev pub MovesOn : Lead → ℕ → ℕ → Type 0
MovesOn lead.Run new old = new < old
MovesOn lead.Tag new old = new < old
MovesOn lead.Ended new old = Unit {0}
MovesOn lead.Lost new old = Unit {0}
MovesOn lead.Stray new old = Unit {0}

-- the same of a tag
abbrev pub Advances : Tag → ℕ → ℕ → Type 0
Advances End new old = Unit {0}
Advances (Bad at) new old = Unit {0}
Advances (Text at) new old = new < old
Advances (Start name attributes empty at) new old = new < old
Advances (Finish name at) new old = new < old
