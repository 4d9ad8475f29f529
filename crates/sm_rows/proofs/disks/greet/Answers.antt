use Rattle.std.proofs.Common.{rules}
use Rattle.sm_site.specs.Meanings.Deal.{Began}
use Rattle.sm_site.specs.Clauses.{Adds}
use Rattle.sm_site.proofs.Lives.{live_began, live_after_send}
use Rattle.sm_rows.proofs.disks.greet.Goals as goal

pub send-requires : goal.send-requires
send-requires g c =
    let began : Adds (Began c.in-Opened.conn) (g.L.Link.seen.view c.args.link.now) (g.L.Link.seen.view c.next.new.self) = search rules in
    record { live = live_began c.in-Opened.conn (g.L.Link.seen.view c.args.link.now) (g.L.Link.seen.view c.next.new.self) began }

pub close-requires : goal.close-requires
close-requires g c =
    let began : Adds (Began c.in-Opened.conn) (g.L.Link.seen.view c.args.link.now) (g.L.Link.seen.view c.next.new.self) = search rules in
    record {
      live = live_after_send c.send.result c.in-Opened.conn _ (g.L.Link.seen.view c.next.new.self) (g.L.Link.seen.view c.send.new.self) c.send.ensures.sent c.send.ensures.part
          (live_began c.in-Opened.conn (g.L.Link.seen.view c.args.link.now) (g.L.Link.seen.view c.next.new.self) began);
    }
