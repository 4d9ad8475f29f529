use Rattle.sm_log.proofs.AllAdds.{listed_stay, places_stay}
use Rattle.sm_log.proofs.AllLogs.{listed_in_stays, kept_stays}
use Rattle.sm_log.proofs.law.listed_times_stay.Goals as goal

pub returns : goal.returns
returns c = record { listed = listed_in_stays; kept = λ log more a place f. kept_stays a 0 log more (place, f); adds = listed_stay; places = places_stay }
