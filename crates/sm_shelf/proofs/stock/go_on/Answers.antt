use Rattle.std.proofs.Common.{rules, arith, ◌≡◌, ◌<◌, refl, sym, ap, subst, ◌∙◌, length, List, false, true}
use Rattle.std.proofs.lemmas.Bool.{false≢true}
use Rattle.std.specs.List.{slice_get}
use Rattle.std.specs.Option.{option_map, IfSome}
use Rattle.sm_model.specs.declared.track.Track.{Track}
use Rattle.sm_log.specs.Adds.{Add}
use Rattle.sm_catalog.specs.Whole.{add_in}
use Rattle.sm_shelf.proofs.Going.{goes_on, front_at, one_read}
use Rattle.sm_shelf.proofs.stock.go_on.Goals as goal

pub returns-then-ne : goal.returns-then-ne
returns-then-ne c = (
  λ no. absurd (false≢true no),
  λ on. absurd (
      let i = c.loop-i.i in
      let few = c.requires in
      let inside : i < length c.args.b.now.adds = omega (arith, few, c.len-i-end.ensures, c.loop-i-test.true) in
      let at = ap (λ (l : List Add). slice_get l i) on.1.1 ∙ front_at c.args.b.now.adds on.1.0 i inside in
      let other : option_map (add_in c.args.a.now.channel) c.added-in-loop-i.result ≡ slice_get c.args.b.now.adds i =
      subst (λ (t : List Track). option_map (add_in t) c.added-in-loop-i.result ≡ slice_get c.args.b.now.adds i) (sym on.0) c.added-in-loop-i.ensures.add in
      let within : IfSome c.added-in-loop-i.result (λ x. x.track < length c.args.a.now.channel) =
      subst (λ (t : List Track). IfSome c.added-in-loop-i.result (λ x. x.track < length t)) (sym on.0) c.added-in-loop-i.ensures.track in
      let same : c.added.result ≡ c.added-in-loop-i.result = one_read c.args.a.now.channel c.added.result c.added-in-loop-i.result c.channel.ensures.valid c.added.ensures.track within (c.added.ensures.add ∙ at ∙ sym other) in
      let no : c.ne.result ≡ false = search rules in
      let yes : c.ne.result ≡ true = c.if-ne.true in
      cc
      ),
)

pub returns : goal.returns
returns c = (
  λ _. (
      let same : c.args.a.now.channel ≡ c.args.b.now.channel = search rules in
      let few = c.requires in
      (same, goes_on c.args.a.now.adds c.args.b.now.adds (λ k lt. c.loop-i.invariant k (omega (arith, lt, few, c.len-i-end.ensures, c.loop-i-test.false))))
      ),
  λ _. refl,
)
