use Rattle.std.proofs.Common.{◌≡◌, ⊎_elim, inl, inr, ℕ, ◌+◌, ◌-◌, Option, Bool, length, refl, ◌∙◌, sym, ap, subst, arith}
use Rattle.sm_fetch.specs.Exchanges.{IsWithin}
use Rattle.sm_world.specs.Worlds.{GoesOn}
use Rattle.sm_world.specs.Later.{IsLater}
use Rattle.sm_world.proofs.Answered.{came_of}
use Rattle.sm_world.proofs.Numbering.{answer_within, later_exchange, since_within}
use Rattle.sm_fetch.specs.Origins.{AnswersFrom}
use Rattle.sm_site.specs.Faults.{is_listed}
use Rattle.sm_serve.specs.declared.state.State.{State}
use Rattle.sm_fetch.specs.declared.dial.Answer.TheVariants as answers
use Rattle.sm_world.specs.Saying.{StandsAt, SaysOn}
use Rattle.sm_world.proofs.Speaking.{answers_on}
use Rattle.sm_world.specs.Answering.{HasCause, answer_for}
use Rattle.sm_world.specs.Dialing.{next_number}
use Rattle.sm_world.specs.Went.{CameOf}
use Rattle.sm_world.proofs.exchange.OriginDialDial.exchange.Goals as goal

pub returns-clause-answers : goal.returns-clause-answers
returns-clause-answers g c =
    let number = c.number-number.result in
    let v = c.args.self.now.1 in
    let came = c.ask-state.result.acted in
    let is : number ≡ next_number v = c.number-number.ensures in
    let lost : c.contains-lost.result ≡ is_listed (next_number v) v.lost =
    c.contains-lost.ensures ∙ ap (λ (v : _). is_listed number v.1.lost) c.self.view_is ∙ ap (λ (n : ℕ). is_listed n v.lost) is
    in
    let cut : c.contains-cut.result ≡ is_listed (next_number v) v.cut =
    c.contains-cut.ensures ∙ ap (λ (v : _). is_listed number v.1.cut) c.self.view_is ∙ ap (λ (n : ℕ). is_listed n v.cut) is
    in
    let e = c.ask-state.new.site in
    let says : SaysOn g.S.Disk.seen c.self.inside.state c.self.inside.site c.args.request.now came c.ask-state.result.state e =
    subst (λ (o : Option State). SaysOn g.S.Disk.seen o c.self.inside.site c.args.request.now came c.ask-state.result.state e) c.take-state.ensures.value c.ask-state.ensures.says
    in (
      came,
      subst (λ (v : _). HasCause g.S.Disk.seen.view v.1.state v.0 c.ask-state.result.state e c.args.request.now came) c.self.view_is
          (subst (λ (o : Option State). HasCause g.S.Disk.seen.view o c.self.inside.site c.ask-state.result.state e c.args.request.now came) c.take-state.ensures.value c.ask-state.ensures.cause),
      subst (λ (v : _). SaysOn g.S.Disk.seen v.1.state v.0 c.args.request.now came c.ask-state.result.state e) c.self.view_is says,
      ⊎_elim
          (λ wants. inl wants)
          (λ same. inr (same ∙ c.answer_for-answer.ensures ∙ ap (λ (b : Bool). answer_for b c.contains-cut.result c.args.limit came) lost
          ∙ ap (λ (b : Bool). answer_for (is_listed (next_number v) v.lost) b c.args.limit came) cut))
          c.told.ensures.same,
    )

pub returns-clause-store : goal.returns-clause-store
returns-clause-store g c =
    let e = c.ask-state.new.site in
    let state = c.ask-state.result.state in
    let answer = c.told.result in
    let came = c.ask-state.result.acted in
    let says : SaysOn g.S.Disk.seen c.self.inside.state c.self.inside.site c.args.request.now came state e =
    subst (λ (o : Option State). SaysOn g.S.Disk.seen o c.self.inside.site c.args.request.now came state e) c.take-state.ensures.value c.ask-state.ensures.says
    in
    subst (λ (v : _). AnswersFrom (StandsAt g.S.Disk.seen v.1.state v.0) (StandsAt g.S.Disk.seen state e) c.args.request.now answer) c.self.view_is
    (answers_on g.S.Disk.seen c.self.inside.state state c.self.inside.site e c.args.request.now c.contains-lost.result c.contains-cut.result c.args.limit came answer says
    (⊎_elim (λ (wants : answer ≡ answers.NoMemory). inl wants) (λ (same : answer ≡ c.answer_for-answer.result). inr (same ∙ c.answer_for-answer.ensures)) c.told.ensures.same))

pub returns-clause-within : goal.returns-clause-within
returns-clause-within g c = ⊎_elim
    (λ (wants : c.told.result ≡ answers.NoMemory). subst (IsWithin c.args.limit) (sym wants) (omega arith))
    (λ (same : c.told.result ≡ c.answer_for-answer.result). subst (IsWithin c.args.limit) (sym (same ∙ c.answer_for-answer.ensures))
    (answer_within c.contains-lost.result c.contains-cut.result c.args.limit c.ask-state.result.acted))
    c.told.ensures.same

pub returns-clause-goes_on : goal.returns-clause-goes_on
returns-clause-goes_on g c =
    let s = c.self.inside in
    let e = c.ask-state.new.site in
    let state = c.ask-state.result.state in
    let came = c.ask-state.result.acted in
    let n = length s.made.items - s.since + 1 in
    let goes : GoesOn g.S.Disk.seen s.state s.site state e = subst (λ (o : Option State). GoesOn g.S.Disk.seen o s.site state e) c.take-state.ensures.value c.ask-state.ensures.goes_on in
    let says : SaysOn g.S.Disk.seen s.state s.site c.args.request.now came state e =
    subst (λ (o : Option State). SaysOn g.S.Disk.seen o s.site c.args.request.now came state e) c.take-state.ensures.value c.ask-state.ensures.says
    in
    let went : CameOf (g.S.Disk.seen.view s.site) (g.S.Disk.seen.view e) c.args.request.now came =
    came_of g.S.Disk.seen c.take-state.result state s.site e c.args.request.now came c.ask-state.ensures.cause
    in
    let number : c.number-number.result ≡ n = c.number-number.ensures ∙ sym (ap (λ (v : _). next_number v.1) c.self.view_is) in
    let lost : c.contains-lost.result ≡ is_listed n s.lost = c.contains-lost.ensures ∙ ap (λ (k : ℕ). is_listed k s.lost) number in
    let cut : c.contains-cut.result ≡ is_listed n s.cut = c.contains-cut.ensures ∙ ap (λ (k : ℕ). is_listed k s.cut) number in
    subst (λ (v : _). IsLater g.S.Disk.seen v (
      e,
      record {
        state = state;
        limits = s.limits;
        lost = s.lost;
        cut = s.cut;
        since = s.since;
        made = c.told.new.made.items;
        faults = c.told.new.faults;
        crashes = s.crashes;
      },
    )) c.self.view_is
    (later_exchange g.S.Disk.seen _ _ c.args.request.now c.args.limit came says went c.told.result c.told.ensures.made
    (⊎_elim (λ (wants : c.told.result ≡ answers.NoMemory). inl wants)
    (λ (same : c.told.result ≡ c.answer_for-answer.result). inr (same ∙ c.answer_for-answer.ensures ∙ ap (λ (b : Bool). answer_for b c.contains-cut.result c.args.limit came) lost
    ∙ ap (λ (b : Bool). answer_for (is_listed n s.lost) b c.args.limit came) cut))
    c.told.ensures.same)
    refl refl refl refl refl c.ask-state.ensures.tells goes)

pub invariant_of-self : goal.invariant_of-self
invariant_of-self g c =
    let i = c.self.invariant in
    let s = c.self.inside in
    let goes : GoesOn g.S.Disk.seen s.state s.site c.ask-state.result.state c.ask-state.new.site =
    subst (λ (o : Option State). GoesOn g.S.Disk.seen o s.site c.ask-state.result.state c.ask-state.new.site) c.take-state.ensures.value c.ask-state.ensures.goes_on
    in
    let w = goes i.2.0 i.2.1 in
    (i.0, i.1, (w.0, w.1), since_within s.since s.made.items c.told.new.made.items c.args.request.now c.args.limit c.told.result i.3 c.told.ensures.made)
