use Rattle.sm_pull.proofs.Finding.{first_missing}
use Rattle.sm_pull.proofs.tracks.first_missing.Goals as goal

pub returns : goal.returns
returns c = first_missing c.args.listing.now c.args.channel.now c.missing_place.result c.missing_place.ensures
