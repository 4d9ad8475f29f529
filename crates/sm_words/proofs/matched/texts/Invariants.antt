use Rattle.std.proofs.Common.{map, string_bytes, []}
use Rattle.sm_words.proofs.Adding.{AddedUpTo}
use Rattle.sm_words.proofs.matched.texts.Given as goal

abbrev pub invariant-loop-text : goal.invariant-loop-text
invariant-loop-text l = AddedUpTo string_bytes l.texts [] (map string_bytes l.list.items) l.text-index
