use Rattle.std.proofs.Common.{◌≡◌, ⊎_elim, IfSome, refl, sym, ◌∙◌, ap, subst, arith}
use Rattle.sm_site.specs.declared.event.Event.{Event}
use Rattle.sm_site.specs.declared.event.Event.TheVariants.{Ended}
use Rattle.sm_site.specs.Meanings.Deal.{Over}
use Rattle.sm_site.specs.Event.{deal_of, IsNext}
use Rattle.sm_site.specs.Clauses.{Adds}
use Rattle.sm_site.specs.Meanings.{View}
use Rattle.sm_site.proofs.Views.{same_here}
use Rattle.sm_serve.specs.declared.outcome.Turn.{Turn as Turned}
use Rattle.sm_serve.specs.declared.outcome.Turn.TheVariants as turned
use Rattle.sm_serve.specs.declared.outcome.Turn.TheVariants.{Went, LinkFault, NoMemory}
use Rattle.sm_serve.specs.Serving.{taken_by, IsAtRest}
use Rattle.sm_serve.proofs.Transcripts.{adds_told, told_here, chosen_here}
use Rattle.sm_serve.proofs.Sending.{contents_here}
use Rattle.sm_serve.proofs.Events.{pend, still_serves, turn_taken, turn_not_taken, may_handle, is_new}
use Rattle.sm_serve.proofs.Ending.{has_taken, over_is_told}
use Rattle.sm_serve.proofs.serving.turn.Goals as goal

took : (r : Turned) → (r ≡ LinkFault → ⊥) → (r ≡ NoMemory → ⊥) → taken_by r ≡ 1
took Went a b = refl
took turned.Ended a b = refl
took LinkFault a b = absurd (a refl)
took NoMemory a b = absurd (b refl)

pub handle-requires-clause-may : goal.handle-requires-clause-may
handle-requires-clause-may g c =
    let W = g.S.Link.seen.view in
    let d = c.args.site.now in
    let e = c.next.new.self in
    let adds : Adds (deal_of c.in-Ok.event) (W d) (W e) = c.in-Ok.ensures.taken in
    may_handle g.S.Disk.seen g.S.Link.seen g.met.S.Site.one g.met.S.Disk.told c.in-Ok.event c.args.state.now d e
    c.requires.known adds (told_here g.S.Disk.seen g.S.Link.seen g.met.S.Site.one d e (adds_told (W d) (W e) (deal_of c.in-Ok.event) adds))

pub returns-in-Ok-clause-runs : goal.returns-in-Ok-clause-runs
unfolding turn_taken
returns-in-Ok-clause-runs g c h serves =
    let W = g.S.Link.seen.view in
    let d = c.args.site.now in
    let e = c.next.new.self in
    let adds : Adds (deal_of c.in-Ok.event) (W d) (W e) = c.in-Ok.ensures.taken in
    let call = c.next.ensures.link_alone in
    let p = pend g.S.Disk.seen g.S.Link.seen g.met.S.Site.one g.met.S.Disk.told h d e
    (deal_of c.in-Ok.event) serves.keeps call adds c.next.ensures.send_faults in
    let next : IfSome (W d).transcript (IsNext c.in-Ok.event) = c.in-Ok.ensures.rising in
    let same = same_here g.S.Disk.seen g.S.Link.seen g.met.S.Site.one d e c.next.ensures.link_alone.crash in
    let rest : IsAtRest g.S.Disk.seen h c.args.state.now e = record {
      stands = c.fewer_images_stand.ensures h.point.machine c.args.state.now.origin d e serves.rest.stands
          (contents_here g.S.Disk.seen g.S.Link.seen g.met.S.Site.one g.met.S.Disk.told d e call)
          (λ image left. (same image).0 left);
      phase_is = serves.rest.phase_is;
      numbers = serves.rest.numbers;
      resting = serves.rest.resting;
    } in (
      turn_taken g.S.Disk.seen g.S.Link.seen g.met.S.Site.one h (taken_by c.handle.result) (deal_of c.in-Ok.event) c.handle.new.state d e c.handle.new.site
          (sym (took c.handle.result c.handle.ensures.no_fault c.handle.ensures.no_want)) c.in-Ok.ensures.script c.handle.ensures.handles.link.script
          (c.handle.ensures.handles.goes_on h p.0 p.1 rest (is_new g.S.Disk.seen g.S.Link.seen
          g.met.S.Site.one g.met.S.Disk.told
          c.in-Ok.event h d serves.keeps.told next)),
      has_taken c.handle.result c.in-Ok.event c.handle.ensures.no_fault c.handle.ensures.no_want c.handle.ensures.ended,
    )

pub returns-in-Ok-clause-link_fault : goal.returns-in-Ok-clause-link_fault
returns-in-Ok-clause-link_fault g c is = absurd (c.handle.ensures.no_fault is)

pub returns-in-Ok-clause-none_taken : goal.returns-in-Ok-clause-none_taken
returns-in-Ok-clause-none_taken g c is = absurd (⊎_elim c.handle.ensures.no_fault c.handle.ensures.no_want is)

pub returns-in-Err-Failed-clause-runs : goal.returns-in-Err-Failed-clause-runs
unfolding turn_not_taken
returns-in-Err-Failed-clause-runs g c h serves =
    let call = c.next.ensures.link_alone in (
      turn_not_taken g.S.Disk.seen g.S.Link.seen g.met.S.Site.one h c.args.state.now c.args.site.now c.next.new.self c.in-Err-Failed.ensures.still_to_come
          (still_serves g.S.Disk.seen g.S.Link.seen g.met.S.Site.one g.met.S.Disk.told
          c.fewer_images_stand.ensures h c.args.state.now c.args.site.now c.next.new.self serves call c.in-Err-Failed.ensures.not_taken c.next.ensures.send_faults),
      refl,
    )

pub returns-in-Err-NoMemory-clause-runs : goal.returns-in-Err-NoMemory-clause-runs
unfolding turn_not_taken
returns-in-Err-NoMemory-clause-runs g c h serves =
    let call = c.next.ensures.link_alone in (
      turn_not_taken g.S.Disk.seen g.S.Link.seen g.met.S.Site.one h c.args.state.now c.args.site.now c.next.new.self c.in-Err-NoMemory.ensures.still_to_come
          (still_serves g.S.Disk.seen g.S.Link.seen g.met.S.Site.one g.met.S.Disk.told
          c.fewer_images_stand.ensures h c.args.state.now c.args.site.now c.next.new.self serves call c.in-Err-NoMemory.ensures.not_taken c.next.ensures.send_faults),
      refl,
    )

pub returns-in-Ok-clause-ended : goal.returns-in-Ok-clause-ended
returns-in-Ok-clause-ended g c is =
    let W = g.S.Link.seen.view in
    let over : c.in-Ok.event ≡ Ended = c.handle.ensures.ended.0 is in
    let here = c.handle.ensures.still over in
    let adds : Adds (deal_of c.in-Ok.event) (W c.args.site.now) (W c.next.new.self) = c.in-Ok.ensures.taken in
    subst (λ (s : _). Adds Over (W c.args.site.now) (W s)) (sym here) (subst (λ (e : Event). Adds (deal_of e) (W c.args.site.now) (W c.next.new.self)) over adds)

pub returns-in-Ok-clause-over : goal.returns-in-Ok-clause-over
returns-in-Ok-clause-over g c some adds =
    let k = c.requires.known some in
    let t = returns-in-Ok-clause-runs g c k.0 k.1 in
    over_is_told g.S.Disk.seen g.S.Link.seen g.met.S.Site.one c.handle.result k.0 (taken_by c.handle.result) (g.S.Disk.seen.view c.args.site.now).script
    c.args.state.now c.handle.new.state c.args.site.now c.handle.new.site k.1 t.0 t.1 adds

pub returns-in-Err-Failed-clause-over : goal.returns-in-Err-Failed-clause-over
returns-in-Err-Failed-clause-over g c some adds =
    let k = c.requires.known some in
    let t = returns-in-Err-Failed-clause-runs g c k.0 k.1 in
    over_is_told g.S.Disk.seen g.S.Link.seen g.met.S.Site.one LinkFault k.0 0 (g.S.Disk.seen.view c.args.site.now).script
    c.args.state.now c.args.state.now c.args.site.now c.next.new.self k.1 t.0 t.1 adds

pub returns-in-Err-NoMemory-clause-over : goal.returns-in-Err-NoMemory-clause-over
returns-in-Err-NoMemory-clause-over g c some adds =
    let k = c.requires.known some in
    let t = returns-in-Err-NoMemory-clause-runs g c k.0 k.1 in
    over_is_told g.S.Disk.seen g.S.Link.seen g.met.S.Site.one NoMemory k.0 0 (g.S.Disk.seen.view c.args.site.now).script
    c.args.state.now c.args.state.now c.args.site.now c.next.new.self k.1 t.0 t.1 adds

pub handle-requires-clause-stands : goal.handle-requires-clause-stands
handle-requires-clause-stands g c =
    let m = c.requires.stands in
    let d = c.args.site.now in
    let e = c.next.new.self in
    let call = c.next.ensures.link_alone in
    let same = same_here g.S.Disk.seen g.S.Link.seen g.met.S.Site.one d e c.next.ensures.link_alone.crash in (
      m.0,
      c.fewer_images_stand.ensures m.0 c.args.state.now.origin d e m.1
          (contents_here g.S.Disk.seen g.S.Link.seen g.met.S.Site.one g.met.S.Disk.told d e call)
          (λ image left. (same image).0 left),
    )

pub returns-in-Err-Failed-clause-stands : goal.returns-in-Err-Failed-clause-stands
returns-in-Err-Failed-clause-stands g c =
    let m = c.requires.stands in
    let d = c.args.site.now in
    let e = c.next.new.self in
    let call = c.next.ensures.link_alone in
    let same = same_here g.S.Disk.seen g.S.Link.seen g.met.S.Site.one d e c.next.ensures.link_alone.crash in (
      m.0,
      c.fewer_images_stand.ensures m.0 c.args.state.now.origin d e m.1
          (contents_here g.S.Disk.seen g.S.Link.seen g.met.S.Site.one g.met.S.Disk.told d e call)
          (λ image left. (same image).0 left),
    )

pub returns-in-Err-NoMemory-clause-stands : goal.returns-in-Err-NoMemory-clause-stands
returns-in-Err-NoMemory-clause-stands g c =
    let m = c.requires.stands in
    let d = c.args.site.now in
    let e = c.next.new.self in
    let call = c.next.ensures.link_alone in
    let same = same_here g.S.Disk.seen g.S.Link.seen g.met.S.Site.one d e c.next.ensures.link_alone.crash in (
      m.0,
      c.fewer_images_stand.ensures m.0 c.args.state.now.origin d e m.1
          (contents_here g.S.Disk.seen g.S.Link.seen g.met.S.Site.one g.met.S.Disk.told d e call)
          (λ image left. (same image).0 left),
    )

pub returns-in-Ok-clause-link_faults : goal.returns-in-Ok-clause-link_faults
returns-in-Ok-clause-link_faults g c =
    let before = ap (λ (v : View). v.link_faults) (g.met.S.Site.one.view c.args.site.now) in
    let between = ap (λ (v : View). v.link_faults) (g.met.S.Site.one.view c.next.new.self) in
    let later = c.next.ensures.link_faults in
    let same = c.handle.ensures.handles.link.link_faults in
    omega (arith, before, between, later, same)

pub returns-in-Err-Failed-clause-link_faults : goal.returns-in-Err-Failed-clause-link_faults
returns-in-Err-Failed-clause-link_faults g c =
    let before = ap (λ (v : View). v.link_faults) (g.met.S.Site.one.view c.args.site.now) in
    let between = ap (λ (v : View). v.link_faults) (g.met.S.Site.one.view c.next.new.self) in
    let later = c.next.ensures.link_faults in
    omega (arith, before, between, later)

pub returns-in-Err-NoMemory-clause-link_faults : goal.returns-in-Err-NoMemory-clause-link_faults
returns-in-Err-NoMemory-clause-link_faults g c =
    let before = ap (λ (v : View). v.link_faults) (g.met.S.Site.one.view c.args.site.now) in
    let between = ap (λ (v : View). v.link_faults) (g.met.S.Site.one.view c.next.new.self) in
    let later = c.next.ensures.link_faults in
    omega (arith, before, between, later)

pub returns-in-Ok-clause-chosen : goal.returns-in-Ok-clause-chosen
returns-in-Ok-clause-chosen g c =
    c.handle.ensures.handles.link.chosen ∙ chosen_here g.S.Disk.seen g.S.Link.seen g.met.S.Site.one c.args.site.now c.next.new.self c.next.ensures.link_alone.disk.chosen

pub returns-in-Err-Failed-clause-chosen : goal.returns-in-Err-Failed-clause-chosen
returns-in-Err-Failed-clause-chosen g c = chosen_here g.S.Disk.seen g.S.Link.seen g.met.S.Site.one c.args.site.now c.next.new.self c.next.ensures.link_alone.disk.chosen

pub returns-in-Err-NoMemory-clause-chosen : goal.returns-in-Err-NoMemory-clause-chosen
returns-in-Err-NoMemory-clause-chosen g c = chosen_here g.S.Disk.seen g.S.Link.seen g.met.S.Site.one c.args.site.now c.next.new.self c.next.ensures.link_alone.disk.chosen
