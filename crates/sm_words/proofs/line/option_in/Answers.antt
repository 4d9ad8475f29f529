use Rattle.std.proofs.Common.{refl, sym, arith}
use Rattle.sm_words.proofs.Reading.{first_here, first_later, first_none}
use Rattle.sm_words.specs.declared.option.Name.TheVariants.{Port}
use Rattle.sm_words.proofs.line.option_in.Goals as goal

pub loop-name-init : goal.loop-name-init
loop-name-init c = refl

pub returns-in-Some : goal.returns-in-Some
returns-in-Some c = first_here c.args.options.now c.args.word.now c.loop-name.name-index Port _ _ c.loop-name-test.true refl (sym (c.in-Some.ensures)) c.loop-name.invariant

pub loop-name-preserved : goal.loop-name-preserved
loop-name-preserved c = first_later c.args.options.now c.args.word.now c.loop-name.name-index Port _ c.loop-name-test.true refl (sym (c.in_default.ensures)) c.loop-name.invariant

pub returns : goal.returns
returns c = first_none c.args.options.now c.args.word.now c.loop-name.name-index (omega (arith, c.loop-name-test.false)) c.loop-name.invariant
