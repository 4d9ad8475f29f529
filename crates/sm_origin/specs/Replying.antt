-- What one act is answered on any disk, also on one that does not tell its contents: a machine of files.
use Rattle.std.specs.Prelude.{◌≡◌, ℕ, List, Some, None}
use Rattle.sm_model.specs.declared.track.Track.{Track}
use Rattle.sm_model.specs.declared.fragment.Fragment.{Fragment}
use Rattle.sm_model.specs.declared.address.Address.{Address}
use Rattle.sm_model.specs.declared.entry.Entry.{Entry}
use Rattle.sm_model.specs.declared.cause.Cause.TheVariants as cause
use Rattle.sm_model.specs.declared.act.Act.{Act}
use Rattle.sm_model.specs.declared.act.Act.TheVariants.{Manifest, Fragment as Ask, Unknown, Header, Frag, End, Refuse}
use Rattle.sm_model.specs.Entries.{address_of}
use Rattle.sm_model.specs.Fragments.{IsValid}
use Rattle.sm_log.specs.Adds.{place_of}
use Rattle.sm_log.specs.Logs.{adds_of, channel_of}
use Rattle.sm_head.specs.declared.reply.Content.TheVariants.{Mp4}
use Rattle.sm_site.specs.Image.{Image}
use Rattle.sm_reply.specs.declared.reply.Reply.{Reply}
use Rattle.sm_reply.specs.Replies.{unplaced, ok, no_memory, fragment_of}
use Rattle.sm_origin.specs.declared.origin.Origin.{Origin}
use Rattle.sm_origin.specs.Machine.{Machine, SameLog, Step}
use Rattle.sm_origin.specs.Acting.{StandsFor}
use Rattle.sm_origin.specs.Giving.{missing}
use Rattle.sm_archive.specs.Seen.{limits_of}

-- What is answered to a fragment that is asked for. Whether one is kept there, and at which place, the log says; what was read of a disk that tells
-- no contents is a valid fragment of that address, or told as damaged. `failed` says that the disk failed in this act.
pub data Asked (failed : Type 0) (log : List Entry) (a : Address) (r : Reply) : Type 0 where
  absent : place_of a (adds_of log) ≡ None → r ≡ missing (channel_of log) → Asked failed log a r
  given : (channel : List Track) (place : ℕ) (f : Fragment) → channel_of log ≡ Some channel → place_of a (adds_of log) ≡ Some place → address_of f ≡ a
      → IsValid f → r ≡ ok Mp4 (fragment_of channel log a place f) → Asked failed log a r
  unread : (place : ℕ) → place_of a (adds_of log) ≡ Some place → failed → r ≡ unplaced cause.DiskFault → Asked failed log a r
  damaged : (place : ℕ) → place_of a (adds_of log) ≡ Some place → r ≡ unplaced cause.Damaged → Asked failed log a r
  wants : r ≡ no_memory → Asked failed log a r

-- All other acts read nothing back, and are answered as on a disk that tells its contents.
abbrev pub IsAnswer : (failed : Type 0) → Machine → Act → Machine → Reply → Type 0
IsAnswer failed m Manifest n r = Step failed m Manifest n r
IsAnswer failed m (Ask a) n r = SameLog m n × Asked failed m.log a r
IsAnswer failed m Unknown n r = Step failed m Unknown n r
IsAnswer failed m (Header channel) n r = Step failed m (Header channel) n r
IsAnswer failed m (Frag f) n r = Step failed m (Frag f) n r
IsAnswer failed m (End kept known) n r = Step failed m (End kept known) n r
IsAnswer failed m (Refuse why) n r = Step failed m (Refuse why) n r

-- the act is answered so, and the origin stands for what is behind it, under the same limits
pub record Replies (failed has_told : Type 0) (outcomes : Image → Type 0) (m : Machine) (o : Origin) (act : Act) (r : Reply) : Type 0 where
  pub after : Machine
  pub answer : IsAnswer failed m act after r
  pub stands : StandsFor has_told after o outcomes
  pub limits : limits_of after.archive ≡ limits_of m.archive
