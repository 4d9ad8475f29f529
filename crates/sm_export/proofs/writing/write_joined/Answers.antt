use Rattle.std.proofs.Common.{◌≡◌, ◌∙◌, List, [], ◌++◌, ℕ, length, take, sym, ap, le_refl}
use Rattle.std.proofs.Math.Seq.{take-append_seam}
use Rattle.sm_model.specs.FragText.{frag_text}
use Rattle.sm_export.proofs.Gathered.{all_gathered, front_of_more}
use Rattle.sm_export.proofs.Passing.{no_room, passed_as}
use Rattle.sm_export.proofs.writing.write_joined.Goals as goal

pub returns-in-Ok : goal.returns-in-Ok
returns-in-Ok g c =
    let before : List ℕ = c.args.gathered.now.items in
    let head : List ℕ = c.append_fragment_head.new.out.items in
    let text : List ℕ = frag_text c.args.seq c.args.id c.args.fragment.now [] in
    let joined : head ++ c.args.body.now ≡ before ++ text = ap (λ (t : List ℕ). head ++ t) c.requires.body ∙ c.in-Ok.ensures.ok in
    passed_as (g.O.Sink.held c.args.out.now) (g.O.Sink.held c.pass_on.new.out) (g.O.Sink.faults c.args.out.now) (g.O.Sink.faults c.pass_on.new.out) before head c.pass_on.new.gathered.items text c.args.body.now
    c.pass_on.result joined c.pass_on.ensures

pub returns-in-Err : goal.returns-in-Err
returns-in-Err g c =
    let a = g.O.Sink.held c.args.out.now in
    let n = g.O.Sink.faults c.args.out.now in
    let before : List ℕ = c.args.gathered.now.items in
    let after : List ℕ = c.truncate.new.self.items in
    let text : List ℕ = frag_text c.args.seq c.args.id c.args.fragment.now [] in
    let stays = c.in-Err.ensures.stays in
    let same : before ≡ after =
    sym (c.truncate.ensures.items ∙ (ap (λ (l : List ℕ). take (length c.as_slice-before.result.now) l) stays.joined
    ∙ (ap (λ (k : List ℕ). take (length k) (before ++ stays.behind)) c.as_slice-before.ensures.value ∙ take-append_seam before stays.behind))) in
    no_room a a n n before after text (front_of_more a a before text after (all_gathered a before after same)) (le_refl n)
