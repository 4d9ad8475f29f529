use Rattle.std.proofs.Common.{rules, map, drop}
use Rattle.sm_shelf.specs.Shelf.{op_in}
use Rattle.sm_shelf.proofs.Logs.{desk, kept_of, laid_ok, laid_err, next_log, waits_of}
use Rattle.sm_shelf.proofs.writer.ShelfWriter.lay.Goals as goal

pub returns-then-is_err-clause-log : goal.returns-then-is_err-clause-log
returns-then-is_err-clause-log g c log sound belongs of =
    kept_of log c.args.self.now (desk c.self.inside.name c.append.new.self.desk.shown.value (map op_in (drop c.append.new.self.behind c.append.new.self.log.items)) c.self.inside.past.items)
    (search rules) (search rules) belongs

pub returns-in-Ok-clause-ok : goal.returns-in-Ok-clause-ok
returns-in-Ok-clause-ok g c =
    laid_ok c.args.self.now (g.S.Disk.seen.view c.args.site.now).transcript c.self.inside.name c.self.inside.core.desk.shown.value c.append.new.self.desk.shown.value c.publish.new.core.desk.shown.value
    (drop c.self.inside.core.behind c.self.inside.core.log.items) (drop c.append.new.self.behind c.append.new.self.log.items) (drop c.publish.new.core.behind c.publish.new.core.log.items)
    c.self.inside.past.items c.note.new.past.items c.args.one c.self.view_is (search rules) (search rules) c.in-Ok.ensures.ok c.note.ensures

pub returns-in-Ok-clause-log : goal.returns-in-Ok-clause-log
returns-in-Ok-clause-log g c log sound belongs of =
    next_log log c.args.self.now
    (desk c.self.inside.name c.publish.new.core.desk.shown.value (map op_in (drop c.publish.new.core.behind c.publish.new.core.log.items)) c.note.new.past.items)
    (g.S.Disk.seen.view c.args.site.now).transcript (op_in c.args.one) sound belongs of (returns-in-Ok-clause-ok g c)

pub returns-in-Err-clause-err : goal.returns-in-Err-clause-err
returns-in-Err-clause-err g c =
    laid_err c.args.self.now c.self.inside.name c.self.inside.core.desk.shown.value c.append.new.self.desk.shown.value c.publish.new.core.desk.shown.value
    (drop c.self.inside.core.behind c.self.inside.core.log.items) (drop c.append.new.self.behind c.append.new.self.log.items) (drop c.publish.new.core.behind c.publish.new.core.log.items)
    c.self.inside.past.items c.args.one c.self.view_is (search rules) (search rules) c.in-Err.ensures.err

pub returns-in-Err-clause-log : goal.returns-in-Err-clause-log
returns-in-Err-clause-log g c log sound belongs of =
    waits_of log c.args.self.now
    (desk c.self.inside.name c.publish.new.core.desk.shown.value (map op_in (drop c.publish.new.core.behind c.publish.new.core.log.items)) c.self.inside.past.items)
    (op_in c.args.one) belongs of (returns-in-Err-clause-err g c)
