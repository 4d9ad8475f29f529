-- What an answer of the last segment says of the calls, seen from the whole log.
use Rattle.std.proofs.Common.{ℕ}
use Rattle.sm_site.specs.Meanings.{View}
use Rattle.sm_site.specs.Clauses.{Recorded}
use Rattle.sm_site.proofs.Recording.{acted_then}
use Rattle.sm_gatelog.specs.Logs.{Acts, SettleActs}
use Rattle.sm_gatelog.specs.declared.answer.Appended.{Appended}
use Rattle.sm_gatelog.specs.declared.answer.Appended.TheVariants as appended
use Rattle.sm_gatelog.specs.declared.answer.Settled.{Settled}
use Rattle.sm_gatelog.specs.declared.answer.Settled.TheVariants as settled
use Rattle.sm_seglog.specs.Segments.{shifted, shifted_settled}

pub acts_shifted : (before : ℕ) (r : Appended) (old new : View) → Acts r old new → Acts (shifted before r) old new
acts_shifted before (appended.Stored place) old new acts = acts
acts_shifted before appended.Clean old new acts = acts
acts_shifted before appended.Doubt old new acts = acts

pub settle_acts_shifted : (before : ℕ) (r : Settled) (old new : View) → SettleActs r old new → SettleActs (shifted_settled before r) old new
settle_acts_shifted before (settled.Stored place) old new acts = acts
settle_acts_shifted before settled.Gone old new acts = acts
settle_acts_shifted before settled.DiskFault old new acts = acts

-- behind other calls
pub acts_later : (r : Appended) (old mid new : View) → Recorded old mid → Acts r mid new → Acts r old new
acts_later (appended.Stored place) old mid new before acts = acted_then old mid new before acts
acts_later appended.Clean old mid new before acts = acts
acts_later appended.Doubt old mid new before acts = acted_then old mid new before acts
