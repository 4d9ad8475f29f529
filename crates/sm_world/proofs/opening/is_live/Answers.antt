use Rattle.std.proofs.Common.{◌≡◌, ◌<◌, ◌+◌, List, length, get_or, sym, ◌∙◌, subst, arith, below_more}
use Rattle.sm_serve.specs.declared.live.Live.{Live}
use Rattle.sm_serve.specs.Serving.{numbers_of}
use Rattle.sm_serve.proofs.Lives.{number_at, among_at, among_none, as_many}
use Rattle.sm_world.proofs.opening.is_live.Goals as goal

pub returns-then-live-conn : goal.returns-then-live-conn
returns-then-live-conn c =
    let ls = c.args.state.now.lives.items in
    let i = c.loop-live.live-index in
    let x = c.live-item.result in
    let within : i < length ls = subst (λ (l : List Live). i < length l) c.deref-live-items.ensures.value c.loop-live-test.true in
    let is : x ≡ get_or ls i x = subst (λ (l : List Live). x ≡ get_or l i x) c.deref-live-items.ensures.value c.live-item.is in
    let many = as_many ls in
    sym (among_at (numbers_of ls) i c.args.conn (omega (arith, many, within)) (number_at ls i x within is ∙ c.if-live-conn.true))

pub loop-live-preserved : goal.loop-live-preserved
loop-live-preserved c =
    let ls = c.args.state.now.lives.items in
    let i = c.loop-live.live-index in
    let x = c.live-item.result in
    let within : i < length ls = subst (λ (l : List Live). i < length l) c.deref-live-items.ensures.value c.loop-live-test.true in
    let is : x ≡ get_or ls i x = subst (λ (l : List Live). x ≡ get_or l i x) c.deref-live-items.ensures.value c.live-item.is in
    below_more _ _ c.loop-live.invariant (λ e. c.if-live-conn.false (sym (number_at ls i x within is) ∙ e))

pub returns : goal.returns
returns c =
    let ls = c.args.state.now.lives.items in
    let all : length ls < c.loop-live.live-index + 1 = subst (λ (l : List Live). length l < c.loop-live.live-index + 1) c.deref-live-items.ensures.value (let ends = c.loop-live-test.false in omega (arith, ends)) in
    let many = as_many ls in
    sym (among_none (numbers_of ls) c.args.conn (λ k within. c.loop-live.invariant k (omega (arith, many, within, all))))
