use Rattle.std.proofs.Common.{◌≡◌, ◌+◌, ◌-◌, ℕ, length, drop, ap, sym, ◌∙◌, arith}
use Rattle.std.proofs.lemmas.List.{length-drop}
use Rattle.sm_model.specs.Frag.{rest_of}
use Rattle.sm_moof.proofs.cut.samples_fit.Goals as goal

pub returns : goal.returns
returns c body e =
    let rest : drop c.skip_of-skip.result body ≡ rest_of (c.args.size + c.args.head) c.args.run.now.start body = c.skip_of-skip.ensures.rest body e in
    let room : c.args.len - c.skip_of-skip.result ≡ length (rest_of (c.args.size + c.args.head) c.args.run.now.start body) =
    ap (λ (n : ℕ). n - c.skip_of-skip.result) e ∙ sym (length-drop c.skip_of-skip.result body) ∙ ap length rest in
    grind (arith, room, c.lacks_bytes.ensures)
