use Rattle.std.proofs.Common.{◌∙◌, ap, sym}
use Rattle.std.specs.Option.{option_map}
use Rattle.sm_words.specs.Words.{Text, behind}
use Rattle.sm_words.specs.Line.{how_of}
use Rattle.sm_words.proofs.Reading.{gives_alone, gives_no_value, gives_nothing, gives_value}
use Rattle.sm_words.proofs.line.gives.Goals as goal

pub returns-in_err-rest : goal.returns-in_err-rest
returns-in_err-rest c =
    ap (λ o. option_map how_of o) c.from_residual.ensures
    ∙ gives_nothing c.args.name c.args.word.now (c.in_err-rest.ensures ∙ ap (λ (t : Text). behind t c.args.word.now) c.text.ensures)

pub returns-then-is_empty : goal.returns-then-is_empty
returns-then-is_empty c =
    gives_alone c.args.name c.args.word.now c.in_ok-rest.rest.now (c.in_ok-rest.ensures ∙ ap (λ (t : Text). behind t c.args.word.now) c.text.ensures) (sym c.is_empty.ensures ∙ c.if-is_empty.true)

pub returns-in_err-value : goal.returns-in_err-value
returns-in_err-value c =
    ap (λ o. option_map how_of o) c.from_residual-in_err-value.ensures
    ∙ gives_no_value c.args.name c.args.word.now c.in_ok-rest.rest.now (c.in_ok-rest.ensures ∙ ap (λ (t : Text). behind t c.args.word.now) c.text.ensures)
    (sym c.is_empty.ensures ∙ c.if-is_empty.false) c.in_err-value.ensures

pub returns : goal.returns
returns c =
    gives_value c.args.name c.args.word.now c.in_ok-rest.rest.now c.in_ok-value.value.now (c.in_ok-rest.ensures ∙ ap (λ (t : Text). behind t c.args.word.now) c.text.ensures) c.in_ok-value.ensures
