use Rattle.std.proofs.Common.{rules, ◌≡◌, ◌+◌, ◌<◌, ◌≤◌, ◌++◌, ◌∷◌, [], List, take, get_or, length, IsTrue, refl, sym, ◌∙◌, ap, subst, append_assoc}
use Rattle.std.proofs.lemmas.List.{append-nil, take_more, take_all}
use Rattle.sm_site.specs.declared.event.Event.{Event}
use Rattle.sm_site.specs.Scripts.{is_script}
use Rattle.sm_rows.proofs.scripts.script_of.Goals as goal

pub loop-i-preserved : goal.loop-i-preserved
loop-i-preserved c rest is =
    let events = c.args.events.items in
    let i = c.loop-i.i in
    let e = c.index.result.now in
    let within : i < length events = search rules in
    let here : e ≡ get_or events i e = search rules in
    let more : take (i + 1) events ++ rest ≡ take i events ++ e ∷ rest =
    ap (λ (xs : List Event). xs ++ rest) (take_more events i e within) ∙ append_assoc (take i events) (get_or events i e ∷ []) rest ∙ ap (λ (x : Event). take i events ++ x ∷ rest) (sym here) in
    subst (λ (xs : List Event). IsTrue (is_script c.args.first xs)) (sym more) (c.loop-i.invariant (e ∷ rest) (c.in_ok-from.ensures rest is))

pub returns : goal.returns
returns c =
    let events = c.args.events.items in
    let long : length events ≤ c.loop-i.i = search rules in
    subst (λ (xs : List Event). IsTrue (is_script c.args.first xs)) (append-nil (take c.loop-i.i events) ∙ take_all c.loop-i.i events long ∙ sym c.from_vec.ensures) (c.loop-i.invariant [] refl)
