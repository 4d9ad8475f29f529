use Rattle.sm_shelf.proofs.Answered.{shown_is_kept}
use Rattle.sm_shelf.proofs.law.what_is_shown_is_kept.Goals as goal

pub returns : goal.returns
returns c log more d channel a sound on some declared listed = shown_is_kept log more d channel a sound on some declared listed
    c.listed_times_stay.ensures.adds c.what_is_listed_is_kept.ensures c.what_is_kept_stays.ensures.stays
