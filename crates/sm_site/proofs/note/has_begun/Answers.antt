use Rattle.std.proofs.Common.{rules, arith, false, ◌≤◌, ◌-◌, not, length, sym, ◌∙◌, ap}
use Rattle.sm_site.specs.declared.step.Step.{Step}
use Rattle.sm_site.specs.Past.{is_crash}
use Rattle.sm_site.proofs.Opens.{open_at}
use Rattle.sm_site.proofs.note.has_begun.Goals as goal

pub returns : goal.returns
returns c =
    let past = c.args.past.now in
    let last = c.index-past-past.result in
    let some : 1 ≤ length past = search (rules, arith) in
    ap not c.is_crash_step.ensures ∙ ap (λ (s : Step). not (is_crash s)) c.index-past-past.is ∙ sym (open_at false past (length past - 1) last (omega (arith, some)))
