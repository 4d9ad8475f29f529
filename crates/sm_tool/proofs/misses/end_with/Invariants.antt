use Rattle.std.proofs.Common.{◌≡◌, ◌++◌, drop}
use Rattle.sm_tool.specs.Misses.{miss_words}
use Rattle.sm_tool.proofs.misses.end_with.Given as goal

-- what was there and the words so far, and those of the others, are all
abbrev pub invariant-loop-miss : goal.invariant-loop-miss
invariant-loop-miss l = l.line.items ++ miss_words (drop l.miss-index l.outcomes) ≡ l.initial.line.items ++ miss_words l.outcomes
