use Rattle.sm_shelf.proofs.Filling.{listing_of, last_of, whole_of, added_place, kept_entry, adds_long}
use Rattle.std.proofs.Common.{sym}
use Rattle.sm_shelf.proofs.law.catalogs_of_logs_fit.Goals as goal

pub returns-clause-listing : goal.returns-clause-listing
returns-clause-listing c log sound = listing_of log sound

pub returns-clause-last : goal.returns-clause-last
returns-clause-last c log front back sound is = last_of log front back sound is

pub returns-clause-whole : goal.returns-clause-whole
returns-clause-whole c log content front back sound channel adds is enough = whole_of log content front back sound channel adds is enough

pub returns-clause-places : goal.returns-clause-places
returns-clause-places c log index a sound at = added_place log index a sound at

pub returns-clause-kept : goal.returns-clause-kept
returns-clause-kept c log index f sound at = kept_entry log index f sound at

pub returns-clause-many : goal.returns-clause-many
returns-clause-many c log sound = sym (adds_long log sound)
