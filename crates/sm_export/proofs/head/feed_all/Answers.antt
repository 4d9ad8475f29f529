use Rattle.std.proofs.Common.{◌≡◌, ◌≤◌, false, take, drop, refl, sym, subst, arith}
use Rattle.std.proofs.lemmas.List.{take-append-drop}
use Rattle.std.proofs.lemmas.Result.{err_from_is_err_and}
use Rattle.sm_push.specs.Body.{walk}
use Rattle.sm_push.specs.Standing.{Stands}
use Rattle.sm_export.specs.Heads.{SeenAt}
use Rattle.sm_export.specs.declared.head.Unread.TheVariants as unread
use Rattle.sm_export.proofs.Heads.{piece_joined, fed_refused, seen_more}
use Rattle.sm_export.proofs.head.feed_all.Goals as goal

pub loop-at-init : goal.loop-at-init
unfolding walk
loop-at-init c = record { within = omega arith; stands = c.requires; seen = refl }

pub returns-in_err-items-clause-refused : goal.returns-in_err-items-clause-refused
returns-in_err-items-clause-refused c = λ r e.
    let at = c.loop-at.at in
    let end = c.min-end.result in
    let input = c.args.input.now in
    let q = err_from_is_err_and c.from_residual.result c.from_residual.ensures.1 in
    let out = q.1 in
    let t = q.2 r (let same : q.0 ≡ unread.Refused r = cc in same) in
    let led = rw t.1 at (c.in_err-items.ensures.answers false (take at input) c.loop-at.invariant.stands) in
    let least = c.min-end.ensures in
    let sum = c.saturating_add.ensures in
    let inside = c.loop-at-test.true in
    let fits = c.loop-at.auto.at-fits in
    fed_refused c.front.ensures input (take at input) _ (take end input) (drop end input) _ _ r (piece_joined input at end (omega (arith, least, sum, inside, fits))) (sym (take-append-drop end input)) led

pub loop-at-preserved : goal.loop-at-preserved
loop-at-preserved c =
    let at = c.loop-at.at in
    let end = c.min-end.result in
    let input = c.args.input.now in
    let least = c.min-end.ensures in
    let sum = c.saturating_add.ensures in
    let inside = c.loop-at-test.true in
    let fits = c.loop-at.auto.at-fits in
    let le : at ≤ end = omega (arith, least, sum, inside, fits) in
    let whole = piece_joined input at end le in
    let fed = c.in_ok-items.ensures.answers false (take at input) c.loop-at.invariant.stands in
    record {
      within = omega (arith, least);
      stands = subst (Stands false c.feed.new.self) whole fed.0;
      seen = subst (SeenAt input end) (sym c.seen_after-seen.ensures) (seen_more input _ at end c.loop-at.seen c.in_ok-items.items le c.loop-at.invariant.seen whole fed.1);
    }
