use Rattle.std.proofs.Common.{◌∙◌, string_bytes, map, sym, ap}
use Rattle.std.specs.Option.{option_map}
use Rattle.std.proofs.lemmas.Option.{MatchOption-at_none}
use Rattle.clap.specs.Words.{found_of}
use Rattle.sm_words.specs.Words.{only_word}
use Rattle.sm_words.proofs.Telling.{given_some}
use Rattle.sm_words.proofs.Taking.{has_all, lacks_bind, lacks_journal, lacks_players, lacks_port, lacks_store, serve_none, serve_told}
use Rattle.sm_words.proofs.matched.read_serve.Goals as goal

pub returns-in_default : goal.returns-in_default
returns-in_default c = serve_none _ _ c.in_ok-serve_command.ensures (MatchOption-at_none _ _ c.in_default.is c.in_ok-matches.ensures)

pub returns-in_default-2 : goal.returns-in_default-2
returns-in_default-2 c =
    let told = serve_told _ _ (found_of c.in-Some.matches) c.in_ok-serve_command.ensures (given_some _ _ _ _ c.in-Some.is c.in_ok-matches.ensures) in
    lacks_port _ _ told (sym c.in_ok-port.ensures ∙ ap (option_map string_bytes) c.in_default-2.is)

pub returns-in_default-3 : goal.returns-in_default-3
returns-in_default-3 c =
    let told = serve_told _ _ (found_of c.in-Some.matches) c.in_ok-serve_command.ensures (given_some _ _ _ _ c.in-Some.is c.in_ok-matches.ensures) in
    lacks_bind _ _ told (sym c.in_ok-bind.ensures ∙ ap (option_map string_bytes) c.in_default-3.is)

pub returns-in_default-4 : goal.returns-in_default-4
returns-in_default-4 c =
    let told = serve_told _ _ (found_of c.in-Some.matches) c.in_ok-serve_command.ensures (given_some _ _ _ _ c.in-Some.is c.in_ok-matches.ensures) in
    lacks_journal _ _ told (sym c.in_ok-journal.ensures ∙ ap (option_map string_bytes) c.in_default-4.is)

pub returns-in_default-5 : goal.returns-in_default-5
returns-in_default-5 c =
    let told = serve_told _ _ (found_of c.in-Some.matches) c.in_ok-serve_command.ensures (given_some _ _ _ _ c.in-Some.is c.in_ok-matches.ensures) in
    lacks_players _ _ told (sym c.in_ok-players.ensures ∙ ap (option_map string_bytes) c.in_default-5.is)

pub returns-in_default-6 : goal.returns-in_default-6
returns-in_default-6 c =
    let told = serve_told _ _ (found_of c.in-Some.matches) c.in_ok-serve_command.ensures (given_some _ _ _ _ c.in-Some.is c.in_ok-matches.ensures) in
    lacks_store _ _ told (ap only_word (sym c.in_ok-words.ensures ∙ sym (ap (map string_bytes) c.as_slice.ensures.value)) ∙ sym c.in_ok-store.ensures ∙ ap (option_map string_bytes) c.in_default-6.is)

pub returns : goal.returns
returns c =
    let told = serve_told _ _ (found_of c.in-Some.matches) c.in_ok-serve_command.ensures (given_some _ _ _ _ c.in-Some.is c.in_ok-matches.ensures) in
    has_all _ _ told c.get_flag-ladder.result _ _ _ _ _ _ (told.flag c.get_flag-ladder.result c.get_flag-ladder.ensures.value c.get_flag-ladder.ensures.other) c.in_ok-turns.ensures
    (sym c.in_ok-port.ensures ∙ ap (option_map string_bytes) c.in-Some-2.is) (sym c.in_ok-bind.ensures ∙ ap (option_map string_bytes) c.in-Some-3.is)
    (sym c.in_ok-journal.ensures ∙ ap (option_map string_bytes) c.in-Some-4.is) (sym c.in_ok-players.ensures ∙ ap (option_map string_bytes) c.in-Some-5.is)
    (ap only_word (sym c.in_ok-words.ensures ∙ sym (ap (map string_bytes) c.as_slice.ensures.value)) ∙ sym c.in_ok-store.ensures ∙ ap (option_map string_bytes) c.in-Some-6.is)
