use Rattle.std.proofs.Common.{◌≡◌, take, drop, sym, ap, Ok, Err}
use Rattle.std.proofs.lemmas.List.{take-append-drop}
use Rattle.std.proofs.lemmas.Result.{err_from_is_err_and}
use Rattle.sm_export.specs.declared.head.Unread.TheVariants as unread
use Rattle.sm_export.proofs.Heads.{refused_yet}
use Rattle.sm_export.proofs.head.head_behind.Goals as goal

pub returns-in_err-feed_all-clause-refused : goal.returns-in_err-feed_all-clause-refused
returns-in_err-feed_all-clause-refused c r e =
    let q = err_from_is_err_and c.from_residual.result c.from_residual.ensures.1 in
    let out = q.1 in
    let is = q.2 in
    let same : c.in_err-feed_all.field-0.0 ≡ unread.Refused r = cc in
    let input = c.args.input.now in
    let from = c.args.from in
    refused_yet c.front.ensures input (take from input) (drop from input) r (sym (take-append-drop from input)) (c.in_err-feed_all.ensures.refused r (ap Err same))

pub returns-clause-head : goal.returns-clause-head
returns-clause-head c = let f = c.in_ok-head.ensures.found c.in-Some.head (ap Ok c.in-Some.is) in (f.0, f.1)
