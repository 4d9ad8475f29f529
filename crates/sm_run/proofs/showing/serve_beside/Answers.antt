use Rattle.std.proofs.Common.{List, Option, sym, ◌∙◌, subst}
use Rattle.sm_site.specs.Meanings.{Item}
use Rattle.sm_show.specs.Recalling.{Publishes}
use Rattle.sm_model.specs.declared.entry.Entry.{Entry}
use Rattle.sm_shelf.specs.Shelf.{Belongs}
use Rattle.sm_show.proofs.Resting.{recalls_here}
use Rattle.sm_run.proofs.Beginning.{known_before, on_err, served_before, shown_before}
use Rattle.sm_run.proofs.showing.serve_beside.Goals as goal

pub returns-in_err-select-clause-idle : goal.returns-in_err-select-clause-idle
returns-in_err-select-clause-idle g c = on_err c.from_residual.result _ (recalls_here g.S.Disk.seen c.args.state.now c.args.site.now c.requires.stands)

pub serve_shown-requires-clause-known : goal.serve_shown-requires-clause-known
serve_shown-requires-clause-known g c some =
    known_before g.S.Disk.seen c.args.state.now c.args.site.now c.catch_up.new.site c.catch_up.ensures.brings.recalls c.requires.known some

pub returns-clause-runs : goal.returns-clause-runs
returns-clause-runs g c h serves =
    let u = c.catch_up.ensures.brings.recalls.rests h serves in
    served_before g.S.Disk.seen h c.args.state.now c.catch_up.new.site c.serve_shown.result c.args.turns c.serve_shown.new.state c.serve_shown.new.site u
    (c.serve_shown.ensures.runs u.later u.serves)

pub returns-clause-shown : goal.returns-clause-shown
unfolding served_before
returns-clause-shown g c h serves told belongs =
    let r = c.catch_up.ensures.brings.recalls in
    let u = r.rests h serves in
    let has = r.told ∙ told in
    let s = c.serve_shown.ensures.shown u.later u.serves has
    (subst (λ (l : List Entry). Belongs l c.catch_up.new.writer) (sym (u.log has)) (c.catch_up.ensures.brings.belongs h serves told belongs)) in (
      served_before g.S.Disk.seen h c.args.state.now c.catch_up.new.site c.serve_shown.result c.args.turns c.serve_shown.new.state c.serve_shown.new.site u s.0,
      shown_before g.S.Disk.seen h c.args.state.now c.catch_up.new.site c.serve_shown.result s.0.later c.args.writer.now c.catch_up.new.writer c.serve_shown.new.writer u has
          (subst (λ (t : Option (List Item)). Publishes t c.args.writer.now c.catch_up.new.writer) serves.keeps.told c.catch_up.ensures.brings.publishes) s.1,
    )
