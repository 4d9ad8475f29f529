-- What stays between two events.
use Rattle.std.specs.Prelude.{◌≡◌, is_some}
use Rattle.sm_site.specs.Meanings.{View}

-- No event of the script is taken, and no fault of the link is counted. The transcript is told where it was, and the site is selected as it was.
pub record TakesNone (old new : View) : Type 0 where
  pub told : is_some new.transcript ≡ is_some old.transcript
  pub link_faults : new.link_faults ≡ old.link_faults
  pub script : new.script ≡ old.script
  pub chosen : new.chosen ≡ old.chosen
