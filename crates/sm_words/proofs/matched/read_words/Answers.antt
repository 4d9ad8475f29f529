use Rattle.std.proofs.Common.{Some}
use Rattle.std.proofs.lemmas.Option.{MatchOption-at_none}
use Rattle.clap.specs.Words.{found_of}
use Rattle.sm_words.proofs.Telling.{given_some, words_none, words_told}
use Rattle.sm_words.proofs.matched.read_words.Goals as goal

pub returns-in_default : goal.returns-in_default
returns-in_default c = words_none Some _ _ c.in_ok-words_command.ensures (MatchOption-at_none _ _ c.in_default.is c.in_ok-matches.ensures)

pub returns : goal.returns
returns c =
    words_told Some _ _ _ (found_of c.in-Some.matches) c.in_ok-words_command.ensures (given_some _ _ _ _ c.in-Some.is c.in_ok-matches.ensures) c.in_ok-words.ensures
