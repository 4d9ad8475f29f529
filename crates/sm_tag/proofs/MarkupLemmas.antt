-- Faults in a start tag, and one markup more that is skipped.
use Rattle.std.proofs.Common.{◌≡◌, ℕ, List, [], Ok, ◌≤◌, arith}
use Rattle.sm_tag.specs.declared.grammar.Lead.{Lead}
use Rattle.sm_tag.specs.declared.grammar.Lead.TheVariants as lead
use Rattle.sm_tag.specs.TagParts.{name_at, Tails}
use Rattle.sm_tag.specs.TagMarkup.{Starts, unnamed, named}
use Rattle.sm_tag.specs.declared.halt.Halt.{Halt}
use Rattle.sm_tag.specs.declared.halt.Halt.TheVariants.{Memory, Short, Wrong}
use Rattle.sm_tag.specs.Reads.{Fails, FailsBy}
use Rattle.sm_tag.specs.Advances.{MovesOn}

pub unnamed_fails : (bytes : List ℕ) (e : Halt) → Fails e (name_at bytes) → FailsBy e (Starts bytes)
unnamed_fails bytes Memory h = tt
unnamed_fails bytes Short h = unnamed h
unnamed_fails bytes Wrong h = unnamed h

pub named_fails : (bytes name rest : List ℕ) (e : Halt) → name_at bytes ≡ Ok (name, rest) → FailsBy e (Tails [] rest) → FailsBy e (Starts bytes)
named_fails bytes name rest Memory n h = tt
named_fails bytes name rest Short n h = named n h
named_fails bytes name rest Wrong n h = named n h

pub moves_on_further : (l : Lead) (a b c : ℕ) → MovesOn l a b → b ≤ c → MovesOn l a c
moves_on_further lead.Run a b c h le = omega arith
moves_on_further lead.Tag a b c h le = omega arith
moves_on_further lead.Ended a b c h le = tt
moves_on_further lead.Lost a b c h le = tt
moves_on_further lead.Stray a b c h le = tt
