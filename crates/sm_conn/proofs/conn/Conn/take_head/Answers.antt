use Rattle.std.proofs.Common.{◌≡◌, ap, sym, subst, arith, [], drop, Ok}
use Rattle.std.proofs.lemmas.List.{append-nil}
use Rattle.sm_head.specs.declared.asked.Asked.{Asked}
use Rattle.sm_head.specs.declared.request.ReqHead.{ReqHead}
use Rattle.sm_head.specs.Requests.{IsReqAnswer}
use Rattle.sm_conn.specs.declared.conn.State.{State}
use Rattle.sm_conn.specs.Parts.{Mode, in_head, Reads, opening}
use Rattle.sm_conn.specs.Stands.{mode_at, mode_from, rank}
use Rattle.sm_conn.proofs.ActLaw.{whole_act, partial_act}
use Rattle.sm_conn.proofs.conn.Conn.take_head.Goals as goal

pub returns-in_ok-open-in-Whole : goal.returns-in_ok-open-in-Whole
returns-in_ok-open-in-Whole c =
    let w = c.in-Whole in
    let bytes = c.args.bytes.now in
    let at : mode_at c.args.self.now.state ≡ in_head [] = ap mode_at c.requires.stands in
    let near : rank c.args.self.now.state ≡ 0 = ap rank c.requires.stands in
    let is = subst (λ (r : ReqHead). IsReqAnswer bytes (Ok r)) w.is c.requires.read in
    let asked : Asked = record { method = w.method; target = w.target; framing = w.framing; close = w.close; expects = w.expects } in (
      is.fits,
      omega (arith, is.fits, is.some, c.behind_head-self.ensures.low),
      opening asked,
      c.in_ok-open-in-Whole.ensures w.framing,
      λ items last next. whole_act _ bytes w.length asked at is items last
          (subst (λ (m : Mode). Reads m (drop w.length bytes) items last) (c.behind_head-self.ensures.leads w.target w.expects) next),
    )

pub returns-in_ok-self-in-Partial : goal.returns-in_ok-self-in-Partial
returns-in_ok-self-in-Partial c =
    let at : mode_at c.args.self.now.state ≡ in_head [] = ap mode_at c.requires.stands in
    let wait = subst (λ (r : ReqHead). IsReqAnswer c.args.bytes.now (Ok r)) c.in-Partial.is c.requires.read in
    let copied = c.in_ok-self-in-Partial.ensures.items_if_clones_equal (λ x y e. e) in
    let kept = c.in_ok-self-in-Partial.field-0.items in
    let stays : mode_from c.args.self.now.state kept ≡ in_head kept = ap (λ (s : State). mode_from s kept) c.requires.stands in
    ([], sym (append-nil _), subst (λ (m : Mode). Reads (mode_at c.args.self.now.state) c.args.bytes.now [] m) (sym stays) (partial_act _ c.args.bytes.now kept at wait copied))
