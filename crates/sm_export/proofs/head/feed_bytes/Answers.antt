use Rattle.std.proofs.Common.{◌≡◌, ◌≤◌, ◌+◌, false, length, take, drop, sym, ap, subst, ◌∙◌, arith}
use Rattle.std.proofs.lemmas.List.{take-append-drop}
use Rattle.std.proofs.lemmas.Result.{err_from_is_err_and}
use Rattle.sm_push.specs.Header.{id_for}
use Rattle.sm_push.specs.Standing.{Stands}
use Rattle.sm_export.specs.Heads.{HeadAt}
use Rattle.sm_export.specs.declared.head.Head.{Head}
use Rattle.sm_export.specs.declared.head.Unread.TheVariants as unread
use Rattle.sm_export.proofs.Heads.{piece_joined, fed_none, fed_some, fed_refused, fed_head}
use Rattle.sm_export.proofs.head.feed_bytes.Goals as goal

pub returns-in_err-items-clause-refused : goal.returns-in_err-items-clause-refused
returns-in_err-items-clause-refused c = λ r e.
    let at = c.loop-at.at in
    let input = c.args.input.now in
    let q = err_from_is_err_and c.from_residual.result c.from_residual.ensures.1 in
    let out = q.1 in
    let t = q.2 r (let same : q.0 ≡ unread.Refused r = cc in same) in
    let led = rw t.1 at (c.in_err-items.ensures.answers false (take at input) c.loop-at.invariant.stands) in
    fed_refused c.front.ensures input (take at input) _ (take (at + 1) input) (drop (at + 1) input) _ _ r (piece_joined input at (at + 1) (omega arith)) (sym (take-append-drop (at + 1) input)) led

pub returns-in-Some-clause-found : goal.returns-in-Some-clause-found
returns-in-Some-clause-found c = λ h e.
    let at = c.loop-at.at in
    let input = c.args.input.now in
    let inside = c.loop-at-test.true in
    let whole = piece_joined input at (at + 1) (omega arith) in
    let fed = c.in_ok-items.ensures.answers false (take at input) c.loop-at.invariant.stands in
    let stands : Stands false c.feed.new.self (take (at + 1) input) = subst (Stands false c.feed.new.self) whole fed.0 in
    let gives = fed_some (take at input) _ (take (at + 1) input) c.in_ok-items.items c.in-Some.channel whole fed.1 c.loop-at.invariant.none (sym c.first_header.ensures ∙ c.in-Some.is) in
    let id : c.track_id.result ≡ id_for c.args.name.now c.args.bitrate _ = c.track_id.ensures ∙ ap (id_for c.args.name.now c.args.bitrate) stands.header in
    let made : Head = record { len = at + 1; channel = c.in-Some.channel; id = c.track_id.result } in
    let same : made ≡ h = cc in
    subst (λ (k : Head). (k.len ≤ length input) × HeadAt input c.args.name.now c.args.bitrate k) same
    (omega (arith, inside), fed_head c.front.ensures input at c.in-Some.channel c.args.name.now c.args.bitrate c.track_id.result inside gives c.loop-at.invariant.none id)

pub loop-at-preserved : goal.loop-at-preserved
loop-at-preserved c =
    let at = c.loop-at.at in
    let input = c.args.input.now in
    let whole = piece_joined input at (at + 1) (omega arith) in
    let fed = c.in_ok-items.ensures.answers false (take at input) c.loop-at.invariant.stands in
    record {
      stands = subst (Stands false c.feed.new.self) whole fed.0;
      none = fed_none (take at input) _ (take (at + 1) input) c.in_ok-items.items whole fed.1 c.loop-at.invariant.none (sym c.first_header.ensures ∙ c.in_default.is);
    }
