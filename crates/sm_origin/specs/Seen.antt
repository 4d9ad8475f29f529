-- What callers see of an origin.
use Rattle.lru.specs.LruCache.{LruCache}
use Rattle.sm_model.specs.declared.address.Address.{Address}
use Rattle.sm_archive.specs.declared.archive.Archive.{Archive}
use Rattle.sm_cache.specs.declared.cache.Kept.{Kept}
use Rattle.sm_origin.specs.declared.origin.Origin.{Origin}

-- the archive of its store
abbrev pub archive_of : Origin → Archive
archive_of o = o.archive

-- the fragments that were used last
abbrev pub cache_of : Origin → LruCache Address Kept
cache_of o = o.cache
