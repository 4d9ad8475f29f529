-- What is told of a fragment that is asked for.
use Rattle.std.proofs.Common.{arith, ◌≡◌, ◌⊎◌, ⊎_elim, inl, inr, ℕ, List, Option, None, Some, option_map, Result, Ok, Err, IfOk, OnOk, OnErr, refl, ap, sym, ◌∙◌, ◌≢◌}
use Rattle.sm_model.specs.declared.track.Track.{Track}
use Rattle.sm_model.specs.declared.address.Address.{Address}
use Rattle.sm_model.specs.declared.fragment.Fragment.{Fragment}
use Rattle.sm_model.specs.declared.entry.Entry.{Entry}
use Rattle.sm_model.specs.declared.no_memory.NoMemory.{NoMemory}
use Rattle.sm_model.specs.declared.act.Act.{Act}
use Rattle.sm_model.specs.declared.act.Act.TheVariants.{Fragment as Ask, Frag}
use Rattle.sm_model.specs.Entries.{address_of}
use Rattle.sm_log.specs.Adds.{place_of}
use Rattle.sm_log.specs.Logs.{channel_of, adds_of, kept_at}
use Rattle.lru.specs.LruCache.{LruCache}
use Rattle.sm_cache.specs.declared.cache.Kept.{Kept}
use Rattle.sm_head.specs.declared.reply.Content.TheVariants.{Mp4}
use Rattle.sm_reply.specs.declared.reply.Reply.{Reply}
use Rattle.sm_reply.specs.declared.reply.Counted.TheVariants as counted
use Rattle.sm_reply.specs.Replies.{ok, no_memory, reply_of, fragment_of, fragment_reply, kept_reply}
use Rattle.sm_origin.specs.Giving.{Made, missing}
use Rattle.sm_origin.specs.Caching.{Remembers, held_at, with_kept}
use Rattle.sm_origin.proofs.Acts.{Places}

-- what a log answers where it keeps something
pub asked_is : (log : List Entry) (channel : List Track) (a : Address) (place : ℕ) (f : Fragment) → channel_of log ≡ Some channel → kept_at log a ≡ Some (place, f)
    → reply_of log (Ask a) ≡ ok Mp4 (fragment_of channel log a place f)
asked_is log channel a place f is kept =
    ap (λ (o : Option (List Track)). fragment_reply o log a) is ∙ ap (λ (o : Option (ℕ × Fragment)). kept_reply channel log a o) kept

missing_is : (o : Option (List Track)) (log : List Entry) (a : Address) → kept_at log a ≡ None → fragment_reply o log a ≡ missing o
missing_is None log a none = refl
missing_is (Some channel) log a none = ap (λ (k : Option (ℕ × Fragment)). kept_reply channel log a k) none

-- what it answers where it keeps nothing
pub absent_is : (log : List Entry) (a : Address) → kept_at log a ≡ None → reply_of log (Ask a) ≡ missing (channel_of log)
absent_is log a none = missing_is (channel_of log) log a none

pub not_kept : Places → (log : List Entry) (a : Address) → place_of a (adds_of log) ≡ None → kept_at log a ≡ None
not_kept places log a none = from (kept_at log a) refl
  where
    from : (o : Option (ℕ × Fragment)) → kept_at log a ≡ o → kept_at log a ≡ None
    from None is = is
    from (Some k) is = absurd (differ (sym (ap (option_map (λ (x : ℕ × Fragment). x.0)) is) ∙ (sym (places log a) ∙ none)))
      where
        differ : (let found : ℕ → Option ℕ = λ z. Some z in found k.0 ≡ None) → ⊥
        differ e = cc

pub kept_if : (log : List Entry) (a : Address) → Places → (place_of a (adds_of log) ≡ None → ⊥) → (place : ℕ) × (f : Fragment) × (kept_at log a ≡ Some (place, f))
kept_if log a places some = from (kept_at log a) refl
  where
    from : (o : Option (ℕ × Fragment)) → kept_at log a ≡ o → (place : ℕ) × (f : Fragment) × (kept_at log a ≡ Some (place, f))
    from None is = absurd (some (places log a ∙ ap (option_map (λ (x : ℕ × Fragment). x.0)) is))
    from (Some (place, f)) is = (place, f, is)

-- ---- what the cache remembers

pub ask_is : (a b : Address) → Ask a ≡ Ask b → a ≡ b
ask_is a b e = cc

-- a reply that gives nothing leaves the cache as it was
pub same_cache : (a : Address) (reply : Reply) (c : LruCache Address Kept) → reply.status ≢ 200 → Remembers (Ask a) reply c c
same_cache a reply c other = record {
  hit = λ b kept is status held. absurd (other status);
  miss = λ b is status held. absurd (other status);
  kept = λ f is counted. absurd (cc);
  same = λ asked counted status. refl;
}

-- an act that asks for none leaves it so too
pub same_behind : (act : Act) (reply : Reply) (c : LruCache Address Kept) → ((a : Address) → act ≡ Ask a → ⊥) → Remembers act reply c c
same_behind act reply c other = record {
  hit = λ b kept is status held. absurd (other b is);
  miss = λ b is status held. absurd (other b is);
  kept = λ g is counted. inl refl;
  same = λ asked counted status. refl;
}

pub frag_is : (f g : Fragment) → Frag f ≡ Frag g → f ≡ g
frag_is f g e = cc

-- one that was just kept was put, or not for want of memory
pub put_behind : (f : Fragment) (place : ℕ) (reply : Reply) (old new : LruCache Address Kept) → (new ≡ old) ⊎ (new ≡ with_kept old place f) → reply.counted ≡ counted.Kept
    → Remembers (Frag f) reply old new
put_behind f place reply old new put is = record {
  hit = λ b kept asks status held. absurd (cc);
  miss = λ b asks status held. absurd (cc);
  kept = λ g keeps counted. ⊎_elim (λ same. inl same) (λ now. inr (place, now ∙ ap (with_kept old place) (frag_is f g keeps))) put;
  same = λ asked other status. absurd (other is);
}

pub status_of : (reply : Reply) → reply ≡ no_memory → reply.status ≡ 500
status_of reply is = ap (λ (r : Reply). r.status) is

pub read_remembers : (old new : LruCache Address Kept) (a : Address) (place : ℕ) (f : Fragment) (r : Result Reply NoMemory) (reply : Reply) → held_at a old ≡ None → address_of f ≡ a
    → OnOk r (new ≡ with_kept old place f) → OnErr r (new ≡ old) → IfOk r (λ x. x.status ≡ 200) → Made r reply → Remembers (Ask a) reply old new
read_remembers old new a place f (Ok x) reply none at put same status told = record {
  hit = λ b kept is st held. absurd (differ kept (sym none ∙ (ap (λ (z : Address). held_at z old) (ask_is a b is) ∙ held)));
  miss = λ b is st held. (place, f, at ∙ ask_is a b is, put);
  kept = λ g is counted. absurd (cc);
  same = λ asked counted st. absurd (asked a refl (ap (λ (z : Reply). z.status) told ∙ status));
}
  where
    differ : (kept : Kept) → (let found : Kept → Option Kept = λ z. Some z in None ≡ found kept) → ⊥
    differ kept e = cc
read_remembers old new a place f (Err x) reply none at put same status told = record {
  hit = λ b kept is st held. absurd (five (sym st ∙ status_of reply told));
  miss = λ b is st held. absurd (five (sym st ∙ status_of reply told));
  kept = λ g is counted. absurd (cc);
  same = λ asked counted st. absurd (st (status_of reply told));
}
  where
    five : (let n : ℕ = 200 in n ≡ 500) → ⊥
    five e = absurd (omega (arith, e))

pub two_hundred : (r : Result Reply NoMemory) (body : List ℕ) → IfOk r (λ x. x ≡ ok Mp4 body) → IfOk r (λ x. x.status ≡ 200)
two_hundred (Ok x) body is = ap (λ (z : Reply). z.status) is
two_hundred (Err e) body is = tt

missing_status : (o : Option (List Track)) → (missing o).status ≡ 404
missing_status None = refl
missing_status (Some channel) = refl

pub no_hit : (o : Option (List Track)) (r : Result Reply NoMemory) (reply : Reply) → IfOk r (λ x. x ≡ missing o) → Made r reply → reply.status ≢ 200
no_hit o (Ok x) reply is told = λ st. absurd (four (sym st ∙ (ap (λ (z : Reply). z.status) (told ∙ is) ∙ missing_status o)))
  where
    four : (let n : ℕ = 200 in n ≡ 404) → ⊥
    four e = absurd (omega (arith, e))
no_hit o (Err x) reply is told = λ st. absurd (five (sym st ∙ status_of reply told))
  where
    five : (let n : ℕ = 200 in n ≡ 500) → ⊥
    five e = absurd (omega (arith, e))
