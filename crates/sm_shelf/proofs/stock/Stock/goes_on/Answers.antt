use Rattle.std.proofs.Common.{refl, sym, ap}
use Rattle.std.proofs.lemmas.Bool.{false≢true}
use Rattle.sm_log.specs.Digests.{Digest}
use Rattle.sm_shelf.proofs.Going.{from_nothing, not_from_nothing, digests_go, catalogs_go}
use Rattle.sm_shelf.proofs.stock.Stock.goes_on.Goals as goal

pub returns-in_default-None : goal.returns-in_default-None
returns-in_default-None c = (
  λ _. from_nothing c.args.self.now c.args.other.now c.other.inside.catalog (sym (ap (λ (d : Digest). d.channel) c.other.view_is)) (sym (ap (λ (d : Digest). d.adds) c.other.view_is)) c.in_default-None.is-1,
  λ _. refl,
)

pub returns-in-None-Some : goal.returns-in-None-Some
returns-in-None-Some c = (
  λ no. absurd (false≢true no),
  λ on. absurd (not_from_nothing c.args.self.now c.args.other.now c.self.inside.catalog c.other.inside.catalog _ (sym (ap (λ (d : Digest). d.channel) c.self.view_is)) (sym (ap (λ (d : Digest). d.channel) c.other.view_is))
      c.in-None-Some.is-0 c.in-None-Some.is-1 on),
)

pub returns-in-Some-Some : goal.returns-in-Some-Some
returns-in-Some-Some c =
    let dc = sym (ap (λ (d : Digest). d.channel) c.self.view_is) in
    let da = sym (ap (λ (d : Digest). d.adds) c.self.view_is) in
    let oc = sym (ap (λ (d : Digest). d.channel) c.other.view_is) in
    let oa = sym (ap (λ (d : Digest). d.adds) c.other.view_is) in (
      λ holds. let on = c.go_on.ensures.0 holds in
          digests_go c.args.self.now c.args.other.now c.self.inside.catalog c.other.inside.catalog c.in-Some-Some.a c.in-Some-Some.b dc da oc oa c.in-Some-Some.is-0 c.in-Some-Some.is-1 on.0 on.1,
      λ on. c.go_on.ensures.1 (catalogs_go c.args.self.now c.args.other.now c.self.inside.catalog c.other.inside.catalog c.in-Some-Some.a c.in-Some-Some.b dc da oc oa c.in-Some-Some.is-0 c.in-Some-Some.is-1
          c.self.invariant.listing c.other.invariant.listing on),
    )
