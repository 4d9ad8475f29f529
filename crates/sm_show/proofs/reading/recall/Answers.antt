use Rattle.std.proofs.Common.{inl, inr, ◌∙◌}
use Rattle.sm_show.specs.Recalling.{Reads}
use Rattle.sm_show.proofs.Resting.{rests_by}
use Rattle.sm_show.proofs.Readings.{if_ok, recalled_found}
use Rattle.sm_show.proofs.reading.recall.Goals as goal

pub returns-clause-back : goal.returns-clause-back
returns-clause-back g c =
    let r = c.recall-fetched.ensures in
    record {
      recalls = record {
        stands = r.stands;
        rests = λ h serves. rests_by g.S.Disk.seen h c.args.address.now c.recall-fetched.result c.args.state.now c.recall-fetched.new.site (r.runs h serves);
        told = r.told;
        disk_alone = r.disk_alone;
      };
      fault = λ is told. elim (c.fragment_in.ensures.disk is) [
        | inl fault ↦ r.fault fault
        | inr damaged ↦ absurd (r.damaged damaged told)
      ];
    }

pub returns-clause-reads : goal.returns-clause-reads
returns-clause-reads g c =
    if_ok c.fragment_in.result (Reads g.S.Disk.seen c.args.state.now c.args.catalog.now.adds c.args.index c.args.site.now) (λ f is.
    let r = c.recall-fetched.ensures in
    let was = c.fragment_in.ensures.found f is in
    let x = c.requires.at in
    let ok = r.valid was.0 f was.1 in
    record {
      added = x.0;
      at = x.1;
      valid = ok.0;
      address = ok.1 ∙ x.2;
      found = λ h serves told.
          let log = h.point.machine.log in
          let stands = serves.rest.stands.stands in
          let shows = c.requires.lists.of stands.bodies stands.body log h.point.machine.doubt stands.keeps in
          let held = r.found was.0 f was.1 h.point.machine serves.rest.stands in
          recalled_found log c.args.catalog.now.adds x.0 c.args.index was.0 c.args.address.now f (c.catalogs_of_logs_fit.ensures.listing log stands.keeps.sound) shows.1 x.1 x.2 held.place (held.same told);
    })
