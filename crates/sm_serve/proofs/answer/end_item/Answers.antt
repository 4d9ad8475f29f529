use Rattle.std.proofs.Common.{◌≡◌, Bool, true, false, if◌then◌else◌, refl, sym, ◌∙◌, ap}
use Rattle.sm_serve.specs.Run.{idle, acting, shutting, in_phase}
use Rattle.sm_site.specs.Meanings.Deal.{Shut}
use Rattle.sm_serve.proofs.Transcripts.{adds_told}
use Rattle.sm_serve.proofs.Steps.{not_open, sent_call, none_sent}
use Rattle.sm_serve.proofs.Reaching.{reached, reached_here}
use Rattle.sm_serve.proofs.Sending.{shut_after}
use Rattle.sm_serve.proofs.answer.end_item.Goals as goal

pub returns-then-close : goal.returns-then-close
returns-then-close g c =
    let W = g.S.Link.seen.view in
    let d = c.args.site.now in
    let e = c.close.new.self in
    let n = c.args.number in
    let call = c.close.ensures.link_alone in
    let sent = sent_call g.S.Disk.seen g.S.Link.seen g.met.S.Site.one g.met.S.Disk.told c.fewer_images_stand.ensures d e call
    (adds_told (W d) (W e) (Shut n) c.close.ensures.shut) c.close.ensures.link_faults c.close.ensures.script in
    record {
      goes_on = λ h more origin keeps stands phase.
          let shuts : h.point.phase ≡ shutting n = phase ∙ ap (λ (b : Bool). if b then shutting n else acting n more) c.if-close.true in
          let s = shut_after g.S.Disk.seen g.S.Link.seen g.met.S.Site.one g.met.S.Disk.told h d e n keeps call shuts c.close.ensures.shut c.close.ensures.send_faults in
          reached g.S.Disk.seen h s.later n false e (in_phase h.point idle) origin s.keeps s.follows s.point_is refl refl (sent.stands h.point.machine origin stands);
      closed = λ is. refl;
      live = λ open_. absurd (not_open open_);
      sent = sent;
    }

pub returns : goal.returns
returns g c =
    let n = c.args.number in
    record {
      goes_on = λ h more origin keeps stands phase. reached_here g.S.Disk.seen h n (acting n more) (h.point.counts n) origin c.args.site.now keeps stands
          (phase ∙ ap (λ (b : Bool). if b then shutting n else acting n more) c.if-close.false) refl;
      closed = λ is. absurd (let both : false ≡ true = sym c.if-close.false ∙ is in cc);
      live = λ open_. c.requires.live;
      sent = none_sent g.S.Disk.seen c.args.site.now;
    }
