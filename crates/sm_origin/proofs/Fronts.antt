-- What a cache is once a fragment was asked for.
use Rattle.std.proofs.Common.{◌≡◌, ◌≢◌, List, Option, None, Some, is_some, Result, Ok, Err, IfOk, Contains, refl, ap, sym, subst, ◌∙◌}
use Rattle.lru.specs.LruCache.{LruCache, lru_cache}
use Rattle.lru.proofs.CallerLemmas.{Contains-lookup, Contains-promoted}
use Rattle.lru.proofs.Pairs.{promoted_absent}
use Rattle.sm_model.specs.declared.address.Address.{Address}
use Rattle.sm_model.specs.declared.entry.Entry.{Entry}
use Rattle.sm_model.specs.declared.no_memory.NoMemory.{NoMemory}
use Rattle.sm_model.specs.declared.act.Act.TheVariants.{Fragment as Ask}
use Rattle.sm_cache.specs.declared.cache.Kept.{Kept}
use Rattle.sm_cache.specs.Pairs.{is_one_address}
use Rattle.sm_reply.specs.declared.reply.Reply.{Reply}
use Rattle.sm_origin.specs.Giving.{Made}
use Rattle.sm_site.specs.Image.{Image}
use Rattle.sm_origin.specs.declared.origin.Origin.{Origin}
use Rattle.sm_origin.specs.Machine.{Machine}
use Rattle.sm_origin.specs.Acting.{IsHeld, AreHeld, StandsFor}
use Rattle.sm_origin.specs.Caching.{Remembers, held_at, with_front}
use Rattle.sm_origin.proofs.Acts.{some_address}
use Rattle.sm_origin.proofs.Asked.{ask_is, status_of}

-- what isn't held leaves it as it was
pub absent_stays : (a : Address) (c new : LruCache Address Kept) → new ≡ with_front c a → held_at a c ≡ None → new ≡ c
absent_stays a c new is none =
    is ∙ ap (λ (es : List (Address × Kept)). lru_cache es c.cap) (promoted_absent is_one_address c a (ap (λ (o : Option Kept). is_some o) none)).1

pub front_held : (told : Type 0) (log : List Entry) (a : Address) (c new : LruCache Address Kept) → new ≡ with_front c a → AreHeld told log c.entries → AreHeld told log new.entries
front_held told log a c new is held pair there =
    held pair (Contains-promoted (is_one_address a) c.entries pair (subst (λ (x : LruCache Address Kept). Contains x.entries pair) is there))

-- the origin stands for the same
pub fronted : (told : Type 0) (outcomes : Image → Type 0) (m : Machine) (was : Origin) (new : LruCache Address Kept) (a : Address) → new ≡ with_front was.cache a
    → StandsFor told m was outcomes → StandsFor told m (record { archive = was.archive; cache = new }) outcomes
fronted told outcomes m was new a is s = record { archive = s.archive; stands = s.stands; cached = front_held told m.log a was.cache new is s.cached }

-- what is held at an address
pub hit_held : (told : Type 0) (log : List Entry) (a : Address) (c : LruCache Address Kept) (kept : Kept) → held_at a c ≡ Some kept → AreHeld told log c.entries → IsHeld told log (a, kept)
hit_held told log a c kept is held =
    let found = Contains-lookup (is_one_address a) c.entries kept is in
    subst (λ (k : Address). IsHeld told log (k, kept)) (sym (some_address a found.0 found.2)) (held (found.0, kept) found.1)

pub hit_remembers : (old new : LruCache Address Kept) (a : Address) (kept : Kept) (r : Result Reply NoMemory) (reply : Reply) → held_at a old ≡ Some kept → new ≡ with_front old a
    → IfOk r (λ x. x.status ≡ 200) → Made r reply → Remembers (Ask a) reply old new
hit_remembers old new a kept r reply held front status told = record {
  hit = λ b k is st at. front ∙ ap (λ (x : Address). with_front old x) (ask_is a b is);
  miss = λ b is st at. absurd (differ (sym at ∙ (ap (λ (x : Address). held_at x old) (sym (ask_is a b is)) ∙ held)));
  kept = λ g is counted. absurd (cc);
  same = λ asked counted st. absurd (never r status told (asked a refl) st);
}
  where
    differ : (let found : Kept → Option Kept = λ z. Some z in None ≡ found kept) → ⊥
    differ e = cc

    never : (r : Result Reply NoMemory) → IfOk r (λ x. x.status ≡ 200) → Made r reply → reply.status ≢ 200 → reply.status ≢ 500 → ⊥
    never (Ok x) status told two five = two (ap (λ (z : Reply). z.status) told ∙ status)
    never (Err x) status told two five = five (status_of reply told)
