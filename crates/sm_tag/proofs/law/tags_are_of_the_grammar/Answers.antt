use Rattle.std.proofs.Common.{Ok}
use Rattle.sm_tag.specs.declared.grammar.Markup.TheVariants.{Skipped, Finish, Start}
use Rattle.sm_tag.proofs.GrammarSound.{markups_made}
use Rattle.sm_tag.proofs.GrammarRead.{start_read, finish_read, skipped_read}
use Rattle.sm_tag.proofs.law.tags_are_of_the_grammar.Goals as goal

pub returns-clause-start : goal.returns-clause-start
returns-clause-start c = λ bytes name rest attributes empty. (markups_made bytes (Ok (Start name attributes empty, rest)), start_read bytes name rest attributes empty)

pub returns-clause-finish : goal.returns-clause-finish
returns-clause-finish c = λ bytes name rest. (markups_made bytes (Ok (Finish name, rest)), finish_read bytes name rest)

pub returns-clause-skipped : goal.returns-clause-skipped
returns-clause-skipped c = λ bytes rest. (markups_made bytes (Ok (Skipped, rest)), skipped_read bytes rest)
