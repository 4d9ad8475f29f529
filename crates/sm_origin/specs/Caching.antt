-- What an act leaves in the cache.
use Rattle.std.specs.Prelude.{◌≡◌, ◌≢◌, ◌⊎◌, ℕ, Option, Some, None}
use Rattle.std.specs.Map.{lookup}
use Rattle.lru.specs.LruCache.{LruCache, lru_cache, promoted, put_entries}
use Rattle.sm_model.specs.declared.address.Address.{Address}
use Rattle.sm_model.specs.declared.fragment.Fragment.{Fragment}
use Rattle.sm_model.specs.declared.act.Act.{Act}
use Rattle.sm_model.specs.declared.act.Act.TheVariants.{Fragment as Ask, Frag}
use Rattle.sm_model.specs.Entries.{address_of}
use Rattle.sm_cache.specs.declared.cache.Kept.{Kept}
use Rattle.sm_cache.specs.Pairs.{is_one_address}
use Rattle.sm_reply.specs.declared.reply.Reply.{Reply}
use Rattle.sm_reply.specs.declared.reply.Counted.TheVariants as counted

-- what is held at an address
abbrev pub held_at : Address → LruCache Address Kept → Option Kept
held_at a c = lookup (is_one_address a) c.entries

-- asked for: the address's pair stands in front
abbrev pub with_front : LruCache Address Kept → Address → LruCache Address Kept
with_front c a = lru_cache (promoted (is_one_address a) c.entries) c.cap

-- put: the fragment's pair stands in front
abbrev pub with_kept : LruCache Address Kept → ℕ → Fragment → LruCache Address Kept
with_kept c place f = lru_cache (put_entries is_one_address c (address_of f) (record { place = place; fragment = f })) c.cap

-- A fragment that was given stands in front; one that was just kept does, or nothing changed; nothing else changes but for want of memory.
pub record Remembers (act : Act) (reply : Reply) (old new : LruCache Address Kept) : Type 0 where
  pub hit : (a : Address) (kept : Kept) → act ≡ Ask a → reply.status ≡ 200 → held_at a old ≡ Some kept → new ≡ with_front old a
  pub miss : (a : Address) → act ≡ Ask a → reply.status ≡ 200 → held_at a old ≡ None
      → (place : ℕ) × (f : Fragment) × (address_of f ≡ a) × (new ≡ with_kept old place f)
  pub kept : (f : Fragment) → act ≡ Frag f → reply.counted ≡ counted.Kept → (new ≡ old) ⊎ ((place : ℕ) × (new ≡ with_kept old place f))
  pub same : ((a : Address) → act ≡ Ask a → reply.status ≢ 200) → reply.counted ≢ counted.Kept → reply.status ≢ 500 → new ≡ old
