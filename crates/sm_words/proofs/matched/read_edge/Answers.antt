use Rattle.std.proofs.Common.{◌∙◌, ap, map, string_bytes, sym}
use Rattle.std.specs.Option.{option_map}
use Rattle.std.proofs.lemmas.Option.{MatchOption-at_none}
use Rattle.clap.specs.Words.{found_of}
use Rattle.sm_words.specs.Matched.{edge_texts_of}
use Rattle.sm_words.proofs.Telling.{given_some}
use Rattle.sm_words.proofs.Taking.{edge_no_journal, edge_none, edge_told, when_ok}
use Rattle.sm_words.proofs.matched.read_edge.Goals as goal

pub returns-in_default : goal.returns-in_default
returns-in_default c = edge_none _ _ c.in_ok-edge_command.ensures (MatchOption-at_none _ _ c.in_default.is c.in_ok-matches.ensures)

pub returns-in_default-2 : goal.returns-in_default-2
returns-in_default-2 c =
    edge_no_journal _ _ (found_of c.in-Some.matches) c.in_ok-edge_command.ensures (given_some _ _ _ _ c.in-Some.is c.in_ok-matches.ensures)
    (sym c.in_ok-journal.ensures ∙ ap (option_map string_bytes) c.in_default-2.is)

pub returns : goal.returns
returns c =
    let told = edge_told _ _ _ _ _ _ (found_of c.in-Some.matches) c.in_ok-edge_command.ensures (given_some _ _ _ _ c.in-Some.is c.in_ok-matches.ensures) (ap (map string_bytes) c.as_slice.ensures.value ∙ c.in_ok-words.ensures)
    c.in_ok-rounds.ensures c.in_ok-tries.ensures (sym c.in_ok-journal.ensures ∙ ap (option_map string_bytes) c.in-Some-2.is) in
    when_ok c.edge_by_words.result (λ texts. option_map edge_texts_of texts) _ _ c.edge_by_words.ensures told
