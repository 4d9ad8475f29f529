use Rattle.std.proofs.Common.{ap, ◌∙◌, arith}
use Rattle.sm_words.specs.Words.{Text, word_at}
use Rattle.sm_words.specs.Line.{read_of, adds_of}
use Rattle.sm_words.proofs.Reading.{line_read, read_none_yet, value_missing, word_read, word_refused}
use Rattle.sm_words.proofs.line.read_line.Goals as goal

pub loop-word-init : goal.loop-word-init
loop-word-init c = read_none_yet c.args.options.now c.args.words.now _ c.new-line.ensures

pub returns-in_default : goal.returns-in_default
returns-in_default c =
    word_refused c.args.options.now c.args.words.now (read_of c.loop-word.line) c.loop-word.place c.loop-word.word-index _ c.word-item.result c.loop-word-test.true c.word-item.is
    (c.in_default.ensures ∙ ap (λ (w : Text). word_at c.args.options.now c.loop-word.place w) c.as_str.ensures.value) c.loop-word.invariant

pub loop-word-preserved : goal.loop-word-preserved
loop-word-preserved c =
    word_read c.args.options.now c.args.words.now (read_of c.loop-word.line) (adds_of c.in-Some.field-0.adds) (read_of c.add.new.self) c.loop-word.place c.in-Some.field-0.next c.loop-word.word-index _
    c.word-item.result c.loop-word-test.true c.word-item.is
    (c.in-Some.ensures ∙ ap (λ (w : Text). word_at c.args.options.now c.loop-word.place w) c.as_str.ensures.value) (c.in_ok-add.ensures) c.loop-word.invariant

pub returns-in-Behind : goal.returns-in-Behind
returns-in-Behind c =
    value_missing c.args.options.now c.args.words.now (read_of c.loop-word.line) c.loop-word.place c.in-Behind.field-0 c.loop-word.word-index (omega (arith, c.loop-word-test.false)) c.in-Behind.is
    c.loop-word.invariant

pub returns-in_default-place : goal.returns-in_default-place
returns-in_default-place c =
    line_read c.args.options.now c.args.words.now (read_of c.loop-word.line) c.loop-word.place c.loop-word.word-index (omega (arith, c.loop-word-test.false)) c.in_default-place.not-Behind
    c.loop-word.invariant
