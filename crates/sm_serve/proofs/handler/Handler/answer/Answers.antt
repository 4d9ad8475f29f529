use Rattle.std.proofs.Common.{true, false, List, Option, Some, IfSome, refl, sym, subst}
use Rattle.sm_site.specs.Meanings.{Item, IsLive}
use Rattle.sm_serve.specs.Run.{idle, acting}
use Rattle.sm_serve.proofs.Between.{none_then, none_of_disk}
use Rattle.sm_serve.proofs.Steps.{not_open}
use Rattle.sm_serve.proofs.Going.{acted}
use Rattle.sm_serve.proofs.Reaching.{reach_then, behind, behind_keeps, behind_follows, behind_counts, behind_phase}
use Rattle.sm_serve.proofs.handler.Handler.answer.Goals as goal

pub returns-in-Open-clause-goes_on : goal.returns-in-Open-clause-goes_on
returns-in-Open-clause-goes_on g c h item more keeps stands phase does close =
    let d = c.args.self.now.site.now in
    let e = c.act-reply.new.site in
    let n = c.args.self.now.live.now.number in
    let o = c.act-reply.new.self in
    let act = c.args.act.now in
    let reply = c.act-reply.result in
    let one = c.act-reply.ensures.acts.one in
    let a = acted g.S.Disk.seen g.met.S.Disk.told h d e o act reply (Some n) keeps one.told g.met.S.Disk.now_at g.met.S.Disk.calls_told
    (λ has. one.step has h.point.machine stands) one.stands one.disk_alone.link one.disk_alone.no_fewer in
    let k = behind g.S.Disk.seen h e o act reply n item more a phase does in
    let kept = behind_keeps g.S.Disk.seen h e o act reply n item more a phase does in
    let follows = behind_follows g.S.Disk.seen h e o act reply n item more a phase does in
    let counts = behind_counts g.S.Disk.seen h e o act reply n item more a phase does in
    let at = behind_phase g.S.Disk.seen h e o act reply n item more a phase does c.args.close close in
    reach_then g.S.Disk.seen h k n true (acting n more) _ _ o c.send_reply.new.site follows
    (c.in-Open.ensures.goes_on k more o kept a.stands at) (λ t. counts)

pub returns-clause-goes_on : goal.returns-clause-goes_on
returns-clause-goes_on g c h item more keeps stands phase does close =
    let d = c.args.self.now.site.now in
    let e = c.act-reply.new.site in
    let n = c.args.self.now.live.now.number in
    let o = c.act-reply.new.self in
    let act = c.args.act.now in
    let reply = c.act-reply.result in
    let one = c.act-reply.ensures.acts.one in
    let a = acted g.S.Disk.seen g.met.S.Disk.told h d e o act reply (Some n) keeps one.told g.met.S.Disk.now_at g.met.S.Disk.calls_told
    (λ has. one.step has h.point.machine stands) one.stands one.disk_alone.link one.disk_alone.no_fewer in
    let k = behind g.S.Disk.seen h e o act reply n item more a phase does in
    let kept = behind_keeps g.S.Disk.seen h e o act reply n item more a phase does in
    let follows = behind_follows g.S.Disk.seen h e o act reply n item more a phase does in
    let at = behind_phase g.S.Disk.seen h e o act reply n item more a phase does c.args.close close in
    reach_then g.S.Disk.seen h k n false idle _ _ o c.send_reply.new.site follows
    (c.in-Closed.ensures.goes_on k more o kept a.stands at) (λ t. absurd (cc))

pub send_reply-requires : goal.send_reply-requires
send_reply-requires g c = record {
  live = subst (λ (o : Option (List Item)). IfSome o (IsLive c.args.self.now.live.now.number)) (sym c.act-reply.ensures.acts.one.disk_alone.link.transcript) c.requires.may.live;
}

pub returns-in-Open-clause-leaves : goal.returns-in-Open-clause-leaves
returns-in-Open-clause-leaves g c =
    let one = c.act-reply.ensures.acts.one in
    record {
      borrows = record { site = refl; origin = refl; live = refl };
      stands = (one.stands.0, c.send_reply.ensures.sent.stands one.stands.0 c.act-reply.new.self one.stands.1);
      live = λ open_. c.in-Open.ensures.live refl;
      same = refl;
      link = none_then _ _ _ (none_of_disk _ _ one.disk_alone.link) c.send_reply.ensures.sent.link;
    }

pub returns-clause-leaves : goal.returns-clause-leaves
returns-clause-leaves g c =
    let one = c.act-reply.ensures.acts.one in
    record {
      borrows = record { site = refl; origin = refl; live = refl };
      stands = (one.stands.0, c.send_reply.ensures.sent.stands one.stands.0 c.act-reply.new.self one.stands.1);
      live = λ open_. absurd (not_open open_);
      same = refl;
      link = none_then _ _ _ (none_of_disk _ _ one.disk_alone.link) c.send_reply.ensures.sent.link;
    }
