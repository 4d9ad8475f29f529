use Rattle.std.proofs.Common.{ℕ, List, None, ◌++◌, string_bytes, ap, ◌∙◌, arith}
use Rattle.sm_site.proofs.Moments.{alone_then}
use Rattle.sm_command.proofs.Lasting.{no_other}
use Rattle.sm_command.proofs.Lines.{all_lines, text_next}
use Rattle.sm_command.proofs.listing.lines.Goals as goal

pub loop-place-preserved : goal.loop-place-preserved
loop-place-preserved g c =
    let inv = c.loop-place.invariant in
    record {
      some = (inv.some.0, c.line_of.ensures.stands inv.some.0 inv.some.1);
      stands = λ log s. c.line_of.ensures.stands log (inv.stands log s);
      told = c.line_of.ensures.told ∙ inv.told;
      any_moment = no_other g.D.Disk.seen g.met.D.Disk.at_now g.met.D.Disk.now_at c.args.disk.now c.loop-place.disk c.line_of.new.disk inv.any_moment
          c.line_of.ensures.any_moment;
      disk_alone = alone_then (g.D.Disk.seen.view c.args.disk.now) (g.D.Disk.seen.view c.loop-place.disk) (g.D.Disk.seen.view c.line_of.new.disk)
          inv.disk_alone c.line_of.ensures.disk_alone;
      text = λ log s told.
          let count = c.len-place-end.ensures s.bodies s.body log None s.keeps in
          let inside = c.loop-place-test.true in
          text_next c.loop-place.place log (string_bytes c.loop-place.text) (string_bytes c.in_ok-line.line) (string_bytes c.put_behind.new.text) (omega (arith, count, inside))
          (inv.text log s told)
          (c.in_ok-line.ensures.line log (inv.stands log s) (inv.told ∙ told))
          (c.in_ok-put_behind.ensures ∙ ap (λ (t : List ℕ). string_bytes c.loop-place.text ++ t) c.deref.ensures);
    }

pub returns-clause-lines : goal.returns-clause-lines
returns-clause-lines g c log s told =
    let count = c.len-place-end.ensures s.bodies s.body log None s.keeps in
    let outside = c.loop-place-test.false in
    let within = c.loop-place.auto.place-end in
    c.bytes_of.ensures ∙ all_lines c.loop-place.place log (string_bytes c.loop-place.text) (omega (arith, count, outside, within)) (c.loop-place.invariant.text log s told)

pub returns-in_err-line-clause-any_moment : goal.returns-in_err-line-clause-any_moment
returns-in_err-line-clause-any_moment g c =
    no_other g.D.Disk.seen g.met.D.Disk.at_now g.met.D.Disk.now_at c.args.disk.now c.loop-place.disk c.line_of.new.disk c.loop-place.invariant.any_moment
    c.line_of.ensures.any_moment

pub returns-in_err-put_behind-clause-any_moment : goal.returns-in_err-put_behind-clause-any_moment
returns-in_err-put_behind-clause-any_moment g c =
    no_other g.D.Disk.seen g.met.D.Disk.at_now g.met.D.Disk.now_at c.args.disk.now c.loop-place.disk c.line_of.new.disk c.loop-place.invariant.any_moment
    c.line_of.ensures.any_moment
