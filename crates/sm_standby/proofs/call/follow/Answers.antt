use Rattle.std.proofs.Common.{◌++◌, None}
use Rattle.sm_pull.proofs.Disks.{kept_count}
use Rattle.sm_standby.specs.Turns.{kept_in}
use Rattle.sm_standby.specs.Rounds.{kept_by}
use Rattle.sm_standby.proofs.Logs.{stays_placed}
use Rattle.sm_standby.proofs.Whole.{stays, starts, well, reaches}
use Rattle.sm_standby.proofs.call.follow.Goals as goal

pub returns : goal.returns
returns g c = record {
  followed = λ log channel s is.
      let p = c.follow_store-end.ensures log channel s is in
      record {
        called = p;
        kept = kept_count c.follow_store-end.new.archive log (kept_by p.rounds ++ kept_in p.part.turns) (kept_in p.part.tried) (g.D.Disk.seen.may_leave c.follow_store-end.new.disk) c.len-before.result c.len.result _
            (c.len-before.ensures s.bodies s.body log None s.keeps) c.len.ensures p.adds.stands c.saturating_sub.ensures;
        placed = stays_placed log c.follow_store-end.result p;
        stays = λ up first last made served places some. stays log c.follow_store-end.result p up first last made served places some;
        starts = λ first last made served own places some. starts log c.follow_store-end.result p first last made s.keeps.sound is served own places some;
        well = λ first last made served places some patient. well log c.follow_store-end.result p first last made s.keeps.sound is served places some patient;
        reaches = λ first last x made served places patient leads all. reaches log c.follow_store-end.result p first last x made s.keeps.sound is c.requires.rounds served places patient leads all;
      };
}
