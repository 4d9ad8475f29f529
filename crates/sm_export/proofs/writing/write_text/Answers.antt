use Rattle.std.proofs.Common.{◌∙◌, List, [], ◌++◌, ℕ, ap, le_refl}
use Rattle.std.proofs.lemmas.Result.{err_from_is_err_and}
use Rattle.sm_model.specs.FragText.{frag_text}
use Rattle.sm_export.proofs.Gathered.{nothing_more}
use Rattle.sm_export.proofs.Passing.{no_room, passed_as}
use Rattle.sm_export.proofs.writing.write_text.Goals as goal

pub returns : goal.returns
returns g c =
    let before : List ℕ = c.args.gathered.now.items in
    let text : List ℕ = frag_text c.args.seq c.args.id c.args.fragment.now [] in
    passed_as (g.O.Sink.held c.args.out.now) (g.O.Sink.held c.pass_on.new.out) (g.O.Sink.faults c.args.out.now) (g.O.Sink.faults c.pass_on.new.out) before before c.pass_on.new.gathered.items text
    c.as_slice.result.now c.pass_on.result (ap (λ (t : List ℕ). before ++ t) (c.as_slice.ensures ∙ c.in_ok-text.ensures)) c.pass_on.ensures

pub returns-in_err-text : goal.returns-in_err-text
returns-in_err-text g c =
    let q = err_from_is_err_and c.from_residual.result c.from_residual.ensures.1 in
    let a = g.O.Sink.held c.args.out.now in
    let n = g.O.Sink.faults c.args.out.now in
    let before : List ℕ = c.args.gathered.now.items in
    let text : List ℕ = frag_text c.args.seq c.args.id c.args.fragment.now [] in
    rw (q.1, q.2) (no_room a a n n before before text (nothing_more a before text) (le_refl n))
