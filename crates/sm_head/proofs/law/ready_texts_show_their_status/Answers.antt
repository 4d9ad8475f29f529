use Rattle.std.proofs.Common.{◌≡◌, ◌≤◌, ◌<◌, true, List, ℕ, ◌∷◌, [], ◌++◌, sym, ◌∙◌, subst, arith}
use Rattle.std.specs.Prelude.{codes}
use Rattle.sm_head.specs.declared.reply.Content.TheVariants.{Plain}
use Rattle.sm_head.specs.Shown.{shows_status}
use Rattle.sm_head.proofs.ShownLaw.{status_shown, status_shows, status_apart, line_laid, head_has_no_body}
use Rattle.sm_head.proofs.law.ready_texts_show_their_status.Goals as goal

abbrev told : List ℕ
told = codes "33 NoMemory" ++ 10 ∷ []

pub returns : goal.returns
returns c =
    let laid = c.continue_is_told.ensures ∙ line_laid 100 in
    let go = laid ∙ status_apart 100 (13 ∷ 10 ∷ 13 ∷ 10 ∷ []) in
    let none = c.no_memory_is_told.ensures in
    let one : (100 ≤ 100) × (100 < 1000) = (omega arith, omega arith) in
    let five : (100 ≤ 500) × (500 < 1000) = (omega arith, omega arith) in
    record {
      goes_on = λ other part more also text shown. status_shown 100 other part more _ one also (text ∙ go) shown;
      empty = λ part more text. head_has_no_body 100 part more _ one text laid;
      no_memory = λ other part more also text shown. c.part_shows_its_status.ensures.own 500 other Plain told true part more five also (text ∙ none) shown;
      whole = (
        subst (λ (l : List ℕ). shows_status 100 l ≡ true) (sym go) (status_shows 100 _),
        subst (λ (l : List ℕ). shows_status 500 l ≡ true) (sym none) (c.part_shows_its_status.ensures.whole 500 Plain told true),
      );
    }
