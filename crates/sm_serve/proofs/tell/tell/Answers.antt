use Rattle.std.proofs.Common.{List, ℕ, sym, ◌∙◌, ap}
use Rattle.std.proofs.lemmas.List.{append-nil}
use Rattle.sm_serve.specs.Run.{sending}
use Rattle.sm_serve.proofs.tell.tell.Goals as goal

pub returns : goal.returns
returns g c =
    let s = c.tell_both.ensures in
    record {
      goes_on = λ h more origin keeps stands phase. s.goes_on h more origin keeps stands
          (phase ∙ ap (λ (bytes : List ℕ). sending c.args.number bytes c.args.close more) (sym (append-nil c.args.bytes.now)));
      closed = s.closed;
      live = s.live;
      sent = s.sent;
    }
