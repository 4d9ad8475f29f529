-- How a standby ends where pulling stops.
use Rattle.sm_pull.specs.declared.stop.Stop.{Stop}
use Rattle.sm_pull.specs.declared.stop.Stop.TheVariants as stop
use Rattle.sm_standby.specs.declared.report.FollowEnd.{FollowEnd}
use Rattle.sm_standby.specs.declared.report.FollowEnd.TheVariants as ends

abbrev pub end_of : Stop → FollowEnd
end_of (stop.NoManifest outcomes) = ends.NoManifest outcomes
end_of (stop.NoTrack index) = ends.NoTrack index
end_of (stop.GaveUp address outcomes) = ends.GaveUp address outcomes
end_of (stop.Refused address cause) = ends.Refused address cause
end_of stop.Full = ends.Full
end_of stop.DiskFault = ends.DiskFault
end_of stop.NoMemory = ends.NoMemory
