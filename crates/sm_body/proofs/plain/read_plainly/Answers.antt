use Rattle.std.proofs.Common.{◌∙◌, ap, sym, Bool, ℕ, [], ◌∷◌, ◌++◌, take, get_or, Vec, Global}
use Rattle.std.proofs.lemmas.List.{append-nil}
use Rattle.std.specs.Prelude.{if◌then◌else◌}
use Rattle.sm_body.specs.declared.place.Place.{Place}
use Rattle.sm_body.specs.Places.{start, body_from, next_place, is_data}
use Rattle.sm_body.proofs.PlainLaw.{place_more, body_more}
use Rattle.sm_body.proofs.plain.read_plainly.Goals as goal
use Rattle.sm_body.proofs.plain.read_plainly.Goals.{then-is_data+in_ok-push, else-is_data}

pub loop-byte-preserved : goal.loop-byte-preserved
loop-byte-preserved c =
    let i = c.loop-byte.byte-index in
    let text = c.args.text.now in
    let p = start c.args.framing in
    let before = body_from p (take i text) in
    let said = c.is_data.ensures ∙ ap is_data c.loop-byte.invariant.place in
    let more = body_more p text i c.loop-byte-test.true in
    let chosen = λ (b : Bool). before ++ (if b then get_or text i 0 ∷ [] else []) in
    record {
      place = c.next_place-place.ensures ∙ ap (λ (q : Place). next_place q (get_or text i 0)) c.loop-byte.invariant.place ∙ sym (place_more p text i c.loop-byte-test.true);
      body = elim c.if-is_data.branch [
        | then-is_data+in_ok-push w ↦
            ap (λ (v : Vec ℕ Global). v.items) w.body-is ∙ w.in_ok-push.ensures.items ∙ ap (λ b. b ++ get_or text i 0 ∷ []) c.loop-byte.invariant.body
            ∙ sym (more ∙ ap chosen (sym said ∙ w.if-is_data.true))
        | else-is_data w ↦
            ap (λ (v : Vec ℕ Global). v.items) w.body-is ∙ c.loop-byte.invariant.body
            ∙ sym (more ∙ ap chosen (sym said ∙ w.if-is_data.false) ∙ append-nil before)
      ];
    }
