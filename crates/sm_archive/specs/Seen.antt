-- What callers see of an archive beside its log.
use Rattle.sm_archive.specs.declared.archive.Archive.{Archive}
use Rattle.sm_archive.specs.declared.limits.Limits.{Limits}

-- the limits that it keeps
abbrev pub limits_of : Archive → Limits
limits_of a = a.limits
