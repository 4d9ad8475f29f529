use Rattle.std.proofs.Common.{◌≡◌, ◌+◌, refl, sym, ◌∙◌}
use denote.Enum.Bare.{sameb}
use Rattle.sm_words.specs.contracts.option.Name.{the_type}
use Rattle.sm_words.specs.declared.option.Name.{Name}
use Rattle.sm_words.specs.declared.option.Name.TheVariants.{Port, Ladder, Turns, Bind, Journal, Players, From, Count, Tries, Refresh, Rounds}
use Rattle.sm_words.specs.Options.{is_same}
use Rattle.sm_words.proofs.Reading.{rest_whole, values_here, values_later, values_none}
use Rattle.sm_words.proofs.line.first_value.Goals as goal

same_names : (a b : Name) → sameb the_type a b ≡ is_same a b
same_names Port Port = refl
same_names Port Ladder = refl
same_names Port Turns = refl
same_names Port Bind = refl
same_names Port Journal = refl
same_names Port Players = refl
same_names Port From = refl
same_names Port Count = refl
same_names Port Tries = refl
same_names Port Refresh = refl
same_names Port Rounds = refl
same_names Ladder Port = refl
same_names Ladder Ladder = refl
same_names Ladder Turns = refl
same_names Ladder Bind = refl
same_names Ladder Journal = refl
same_names Ladder Players = refl
same_names Ladder From = refl
same_names Ladder Count = refl
same_names Ladder Tries = refl
same_names Ladder Refresh = refl
same_names Ladder Rounds = refl
same_names Turns Port = refl
same_names Turns Ladder = refl
same_names Turns Turns = refl
same_names Turns Bind = refl
same_names Turns Journal = refl
same_names Turns Players = refl
same_names Turns From = refl
same_names Turns Count = refl
same_names Turns Tries = refl
same_names Turns Refresh = refl
same_names Turns Rounds = refl
same_names Bind Port = refl
same_names Bind Ladder = refl
same_names Bind Turns = refl
same_names Bind Bind = refl
same_names Bind Journal = refl
same_names Bind Players = refl
same_names Bind From = refl
same_names Bind Count = refl
same_names Bind Tries = refl
same_names Bind Refresh = refl
same_names Bind Rounds = refl
same_names Journal Port = refl
same_names Journal Ladder = refl
same_names Journal Turns = refl
same_names Journal Bind = refl
same_names Journal Journal = refl
same_names Journal Players = refl
same_names Journal From = refl
same_names Journal Count = refl
same_names Journal Tries = refl
same_names Journal Refresh = refl
same_names Journal Rounds = refl
same_names Players Port = refl
same_names Players Ladder = refl
same_names Players Turns = refl
same_names Players Bind = refl
same_names Players Journal = refl
same_names Players Players = refl
same_names Players From = refl
same_names Players Count = refl
same_names Players Tries = refl
same_names Players Refresh = refl
same_names Players Rounds = refl
same_names From Port = refl
same_names From Ladder = refl
same_names From Turns = refl
same_names From Bind = refl
same_names From Journal = refl
same_names From Players = refl
same_names From From = refl
same_names From Count = refl
same_names From Tries = refl
same_names From Refresh = refl
same_names From Rounds = refl
same_names Count Port = refl
same_names Count Ladder = refl
same_names Count Turns = refl
same_names Count Bind = refl
same_names Count Journal = refl
same_names Count Players = refl
same_names Count From = refl
same_names Count Count = refl
same_names Count Tries = refl
same_names Count Refresh = refl
same_names Count Rounds = refl
same_names Tries Port = refl
same_names Tries Ladder = refl
same_names Tries Turns = refl
same_names Tries Bind = refl
same_names Tries Journal = refl
same_names Tries Players = refl
same_names Tries From = refl
same_names Tries Count = refl
same_names Tries Tries = refl
same_names Tries Refresh = refl
same_names Tries Rounds = refl
same_names Refresh Port = refl
same_names Refresh Ladder = refl
same_names Refresh Turns = refl
same_names Refresh Bind = refl
same_names Refresh Journal = refl
same_names Refresh Players = refl
same_names Refresh From = refl
same_names Refresh Count = refl
same_names Refresh Tries = refl
same_names Refresh Refresh = refl
same_names Refresh Rounds = refl
same_names Rounds Port = refl
same_names Rounds Ladder = refl
same_names Rounds Turns = refl
same_names Rounds Bind = refl
same_names Rounds Journal = refl
same_names Rounds Players = refl
same_names Rounds From = refl
same_names Rounds Count = refl
same_names Rounds Tries = refl
same_names Rounds Refresh = refl
same_names Rounds Rounds = refl

pub loop-at-init : goal.loop-at-init
loop-at-init c = refl

pub returns-then-eq : goal.returns-then-eq
returns-then-eq c =
    values_here c.args.given.now c.args.name c.loop-at.at _ c.index-given-at.result c.as_str.result.now _ c.loop-at-test.true c.index-given-at.is
    (sym (same_names c.index-given-at.result.name c.args.name) ∙ sym c.eq.ensures ∙ c.if-eq.true) c.as_str.ensures.value (rest_whole c.args.given.now (c.loop-at.at + 1)) c.loop-at.invariant

pub loop-at-preserved : goal.loop-at-preserved
loop-at-preserved c =
    values_later c.args.given.now c.args.name c.loop-at.at _ c.index-given-at.result c.loop-at-test.true c.index-given-at.is
    (sym (same_names c.index-given-at.result.name c.args.name) ∙ sym c.eq.ensures ∙ c.if-eq.false) c.loop-at.invariant

pub returns : goal.returns
returns c = values_none c.args.given.now c.args.name c.loop-at.at c.loop-at-test.false c.loop-at.invariant
