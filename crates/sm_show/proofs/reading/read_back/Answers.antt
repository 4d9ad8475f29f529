use Rattle.std.proofs.Common.{arith, ◌≡◌, ◌+◌, ◌-◌, ℕ, List, length, reverse, refl, sym, ap, subst}
use Rattle.sm_model.specs.declared.fragment.Fragment.{Fragment}
use Rattle.sm_log.specs.Adds.{Add}
use Rattle.sm_show.specs.Recalling.{IsEndOf}
use Rattle.sm_show.proofs.Resting.{back_without, recalls_here, recalls_then}
use Rattle.sm_show.proofs.Readings.{Gathered, gathers, gathered, end_gathered, reverse_push}
use Rattle.sm_show.proofs.reading.read_back.Goals as goal

pub loop-site-init : goal.loop-site-init
loop-site-init g c =
    let law = c.catalogs_of_logs_fit.ensures in
    let m = c.requires.stands in
    let keeps = m.1.stands.keeps in
    let shows = c.requires.of m.1.stands.bodies m.1.stands.body m.0.log m.0.doubt keeps in
    let few = (law.listing m.0.log keeps.sound).few in
    let same = ap (λ (l : List Add). length l) shows.1 in
    let adds = c.args.catalog.now.adds in
    let whole : c.len-left.result ≡ length adds = omega (arith, c.len-left.ensures, few, same) in
    record {
      recalls = recalls_here g.S.Disk.seen c.args.state.now c.args.site.now c.requires.stands;
      gathered = subst (λ (l : List Fragment). Gathered g.S.Disk.seen c.args.state.now adds c.args.site.now c.len-left.result 0 l)
          (sym (ap (λ (l : List Fragment). reverse l) c.new-read.ensures.items))
          (gathers g.S.Disk.seen c.args.state.now c.args.catalog.now c.args.site.now c.len-left.result
          (record { places = law.places; kept = law.kept; many = law.many }) c.requires.of whole);
      short = omega arith;
    }

pub loop-site-preserved : goal.loop-site-preserved
loop-site-preserved g c =
    let law = c.catalogs_of_logs_fit.ensures in
    let was = c.loop-site.invariant in
    let got = c.in-Ok.ensures.read in
    let left = c.loop-site.left in
    let more = c.is_short.ensures.more c.loop-site-test.true in
    let adds = c.args.catalog.now.adds in
    let some = more.0 in
    let few = more.1 in
    let size = got.2 in
    let valid = got.3.valid.short in
    record {
      recalls = recalls_then g.S.Disk.seen c.args.state.now c.args.site.now c.loop-site.site c.read_next.new.site was.recalls c.read_next.ensures.back.recalls;
      gathered = subst (λ (l : List Fragment). Gathered g.S.Disk.seen c.args.state.now adds c.args.site.now (left - 1) (c.loop-site.bytes + c.in-Ok.count) l)
          (sym (reverse_push c.loop-site.read.items c.read_next.new.read.items got.0 got.1))
          (gathered g.S.Disk.seen c.args.state.now c.args.catalog.now c.args.site.now c.loop-site.site left (left - 1) c.loop-site.bytes (c.loop-site.bytes + c.in-Ok.count) (left - 1)
          (reverse c.loop-site.read.items) got.0 (record { places = law.places; kept = law.kept; many = law.many }) c.requires.of was.recalls was.gathered got.3
          (omega (arith, some)) refl (ap (λ (n : ℕ). c.loop-site.bytes + n) size));
      short = omega (arith, few, size, valid);
    }

pub returns-in-Err-clause-back : goal.returns-in-Err-clause-back
returns-in-Err-clause-back g c =
    back_without g.S.Disk.seen c.args.state.now c.args.site.now c.loop-site.site c.read_next.new.site c.in-Err.lack c.loop-site.invariant.recalls
    c.in-Err.ensures.back

pub returns-clause-last : goal.returns-clause-last
returns-clause-last g c =
    subst (λ (l : List Fragment). IsEndOf g.S.Disk.seen c.args.state.now c.args.catalog.now.adds c.args.site.now l) (sym c.reverse.ensures.items)
    (end_gathered g.S.Disk.seen c.args.state.now c.args.catalog.now.adds c.args.site.now c.loop-site.left c.loop-site.bytes (reverse c.loop-site.read.items)
    c.loop-site.invariant.gathered (c.is_short.ensures.enough c.loop-site-test.false))
