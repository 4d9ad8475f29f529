use Rattle.std.proofs.Common.{◌≡◌, List, None, Bool, sym, ◌∙◌, subst}
use Rattle.std.specs.Prelude.{IsTrue}
use Rattle.sm_model.specs.declared.entry.Entry.{Entry}
use Rattle.sm_archive.specs.declared.archive.Archive.{Archive}
use Rattle.sm_archive.specs.Stands.{Stands as Holds}
use Rattle.sm_world.specs.Encoders.{log_of}
use Rattle.sm_world.specs.Worlds.{World, IsClosed}
use Rattle.sm_world.proofs.ReadBack.{closed_again, holds_log, ok_map, one_store_of}
use Rattle.sm_world.proofs.reading.read_all.Goals as goal

pub returns-in-Ok-clause-stays : goal.returns-in-Ok-clause-stays
returns-in-Ok-clause-stays g c w closed =
    let A = g.S.Disk.seen.may_leave in
    let d = c.args.site.now in
    let holds = holds_log g.S.Disk.seen c.stores_have_one_reading.ensures.one_list c.bodies_have_one_log.ensures w d c.start.new.site c.in-Ok.state
    (g.met.S.Crashing.tells d).contents (g.met.S.Disk.contents_pass d) c.in-Ok.ensures.opens.store closed in
    let lent = subst (λ (a : Archive). Holds a w.log None (A c.start.new.site)) (sym c.archive.ensures) holds in
    closed_again g.S.Disk.seen w d c.keeps_all.new.site (c.keeps_all.ensures.disk_alone.link.transcript ∙ c.in-Ok.ensures.opens.disk_alone.link.transcript)
    (one_store_of c.archive.result.now w.log (A c.keeps_all.new.site) (c.keeps_all.ensures.stands w.log lent)) closed

pub returns-in-Ok-clause-kept : goal.returns-in-Ok-clause-kept
returns-in-Ok-clause-kept g c =
    let A = g.S.Disk.seen.may_leave in
    let d = c.args.site.now in
    ok_map c.keeps_all.result
    (λ (same : Bool). IsTrue same → (log : List Entry) → Holds c.archive.result.now log None (A c.start.new.site) → log ≡ log_of c.args.rounds)
    (λ (same : Bool). IsTrue same → (w : World) → IsClosed g.S.Disk.seen w d → w.log ≡ log_of c.args.rounds)
    (λ same kept so w closed. kept so w.log (subst (λ (a : Archive). Holds a w.log None (A c.start.new.site)) (sym c.archive.ensures)
    (holds_log g.S.Disk.seen c.stores_have_one_reading.ensures.one_list c.bodies_have_one_log.ensures w d c.start.new.site c.in-Ok.state
    (g.met.S.Crashing.tells d).contents (g.met.S.Disk.contents_pass d) c.in-Ok.ensures.opens.store closed)))
    c.keeps_all.ensures.kept
