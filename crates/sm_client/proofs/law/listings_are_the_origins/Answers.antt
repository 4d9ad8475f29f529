use Rattle.sm_log.specs.Logs.{listed_in}
use Rattle.sm_client.proofs.Serving.{manifest-read, manifest-given, listed-found}
use Rattle.sm_client.proofs.law.listings_are_the_origins.Goals as goal

pub returns-clause-read : goal.returns-clause-read
returns-clause-read c place channel log l answer there tracks is from s = manifest-read place channel log l answer there tracks is from s

pub returns-clause-given : goal.returns-clause-given
returns-clause-given c place channel log g answer there tracks is from free s whole = manifest-given place channel log g answer there tracks is from free s whole

pub returns-clause-found : goal.returns-clause-found
returns-clause-found c channel log name some = listed-found channel (listed_in log) name some
