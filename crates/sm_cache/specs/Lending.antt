-- What a cache is once a fragment that it lent is given back.
use Rattle.std.specs.Prelude.{◌≡◌, List, ⊤}
use Rattle.std.specs.Borrow.{Fml, MutBor, follows_so}
use mathlib.Core.Option.{none}
use Rattle.lru.specs.LruCache.{LruCache, lru_cache}
use Rattle.sm_model.specs.declared.address.Address.{Address}
use Rattle.sm_cache.specs.declared.cache.Kept.{Kept}
use Rattle.sm_cache.specs.contracts.cache.Cache.{the_row}

abbrev pub EndsAs : MutBor (LruCache Address Kept) → List (Address × Kept) → Fml
EndsAs c pairs = follows_so the_row the_row c.ghost_name none (λ _ _. ⊤) (λ n. n ≡ lru_cache pairs c.now.cap)
