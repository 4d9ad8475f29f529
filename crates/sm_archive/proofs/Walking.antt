-- The walk over the bodies of a store.
use Rattle.std.proofs.Common.{◌≡◌, ℕ, zero, suc, ◌+◌, ◌≤◌, ◌<◌, ◌^◌, List, [], ◌∷◌, ◌++◌, length, take, replicate, slice_get, Option, None, Some, is_some, IsSome, IfSome, Result, Err, refl, sym, ap, subst, ◌∙◌, inl, inr, arith}
use Rattle.sm_archive.specs.declared.opened.OpenFault.{OpenFault}
use Rattle.sm_archive.specs.declared.opened.OpenFault.TheVariants as open_fault
use Rattle.std.proofs.lemmas.List.{take_all, length_push}
use Rattle.sm_model.specs.declared.entry.Entry.{Entry}
use Rattle.sm_log.specs.Logs.{IsSound}
use Rattle.sm_site.specs.Image.{Image}
use Rattle.sm_seglog.specs.Stores.{HasStore, slots_in, NotAStore as NoLog}
use Rattle.sm_seglog.specs.Segments.{Segments, SegStands, slots_of}
use Rattle.sm_seglog.specs.Standing.{IsOpened}
use Rattle.sm_gatelog.specs.declared.slot.Slot.{Slot}
use Rattle.sm_seglog.proofs.Images.{stands_none}
use Rattle.sm_seglog.proofs.Standing.{fewer_outcomes, seg_fewer}
use Rattle.sm_archive.proofs.Admitting.{log_length}
use Rattle.sm_seglog.specs.Standing as seg
use Rattle.sm_archive.specs.declared.index.Index.{Index}
use Rattle.sm_archive.specs.declared.archive.Archive.{Archive}
use Rattle.sm_archive.specs.declared.limits.Limits.{Limits}
use Rattle.sm_archive.specs.Store.{Spell, IsStore}
use Rattle.sm_archive.specs.Stands.{Stands}
use Rattle.sm_archive.specs.Opening.{IsMisfit, FailsAt, NotAStore, IsWalked, IsRead}
use Rattle.sm_archive.proofs.Lists.{no_tail}
use Rattle.sm_archive.proofs.Fetching.{told}
use Rattle.sm_seglog.specs.Segments.{count_of}

pub empty_sound : IsSound []
empty_sound = record { few = omega arith; each = λ front back e eq. absurd (no_tail front e back eq) }

pub read_none : (t : Type 0) (v : Segments) (outcomes : Image → Type 0) → IsRead t v outcomes None 0 0
read_none t v outcomes = record {
  seen = [];
  log = [];
  count = refl;
  walked = record { spell = tt; sound = empty_sound; index_is = refl; used_is = refl };
  same = λ some bodies s. refl;
}

some_is : (a b : List ℕ) → (let found : List ℕ → Option (List ℕ) = λ x. Some x in found a ≡ found b) → a ≡ b
some_is a b e = cc

pub take_next : (bodies : List (List ℕ)) (n : ℕ) (body : List ℕ) → slice_get bodies n ≡ Some body → take n bodies ++ body ∷ [] ≡ take (suc n) bodies
take_next [] n body e = absurd cc
take_next (b ∷ bodies) zero body e = ap (λ (x : List ℕ). x ∷ []) (sym (some_is b body e))
take_next (b ∷ bodies) (suc n) body e = ap (λ (l : List (List ℕ)). b ∷ l) (take_next bodies n body e)

module _ (t : Type 0) (v : Segments) (old : Image → Type 0) (index : Option Index) (used place : ℕ) (r : IsRead t v old index used place) where
  pub read_next : (new : Option Index) (now : ℕ) (body : List ℕ) → (t → (bodies : List (List ℕ)) → seg.Stands v bodies None old → slice_get bodies place ≡ Some body)
      → ((seen : List (List ℕ)) (log : List Entry) → IsWalked index used seen log → length seen ≡ place → (e : Entry) × IsWalked new now (seen ++ body ∷ []) (log ++ e ∷ [])) → IsRead t v old new now (place + 1)
  read_next new now body there on =
      let h = on r.seen r.log r.walked r.count in
      let next : suc place ≡ place + 1 = omega arith in
      record {
        seen = r.seen ++ body ∷ [];
        log = r.log ++ h.0 ∷ [];
        count = length_push r.seen body ∙ ap (λ (n : ℕ). n + 1) r.count;
        walked = h.1;
        same = λ some bodies s.
            ap (λ (l : List (List ℕ)). l ++ body ∷ []) (r.same some bodies s) ∙ take_next bodies place body (there some bodies s) ∙ ap (λ (n : ℕ). take n bodies) next;
      }

  pub fails_at : (body : List ℕ) (bodies : List (List ℕ)) → t → seg.Stands v bodies None old → slice_get bodies place ≡ Some body
      → ((seen : List (List ℕ)) (log : List Entry) → IsWalked index used seen log → length seen ≡ place → IsMisfit log body) → FailsAt bodies place
  fails_at body bodies some s there misfit = record {
    log = r.log;
    body = body;
    before = subst (λ (l : List (List ℕ)). Spell l r.log) (r.same some bodies s) r.walked.spell;
    sound = r.walked.sound;
    there = there;
    fails = misfit r.seen r.log r.walked r.count;
  }

  small : place < 2 ^ 32
  small = omega (arith, r.count, log_length index used r.seen r.log r.walked, r.walked.sound.few)

  all_read : place ≡ count_of v → t → (bodies : List (List ℕ)) → seg.Stands v bodies None old → r.seen ≡ bodies
  all_read end some bodies s =
      r.same some bodies s ∙ take_all place bodies (omega (arith, end, s.count, small))

  -- what was read is what the archive stands for
  pub stands_read : (limits : Limits) (now : Image → Type 0) → limits.store_bytes ≤ 2 ^ 62 → limits.entries < 2 ^ 32 → place ≡ count_of v → (bodies : List (List ℕ)) × seg.Stands v bodies None old
      → ((c : Image) → now c → t × old c)
      → Stands (record { log = v; limits = limits; used = used; index = index; doubt = None }) r.log None now
  stands_read limits now low few end h from = record {
    bodies = r.seen;
    body = None;
    stands = record {
      count = omega (arith, r.count, end, small);
      doubts = h.1.doubts;
      each = λ c left.
          let f = from c left in
          seg_fewer r.seen None v old now (λ d also. (from d also).1) (subst (λ (l : List (List ℕ)). SegStands l None v old) (sym (all_read end f.0 h.0 h.1)) (h.1.each c f.1));
    };
    keeps = record { count = omega (arith, r.count, end, small); spell = r.walked.spell; sound = r.walked.sound; index = r.walked.index_is; used = r.walked.used_is; few = few; low = low; doubted = tt };
  }

  pub spelled_read : place ≡ count_of v → t → (bodies : List (List ℕ)) → seg.Stands v bodies None old → Spell bodies r.log
  spelled_read end some bodies s = subst (λ (l : List (List ℕ)). Spell l r.log) (all_read end some bodies s) r.walked.spell

-- what read says, of the disk as it was before the walk
pub body_read : (before contents : Option Image) (v : Segments) (old now : Image → Type 0) (place : ℕ) (body : List ℕ) → contents ≡ before → ((c : Image) → now c → old c)
    → ((bodies : List (List ℕ)) (doubt : Option (List ℕ)) → seg.Stands v bodies doubt now → IfSome contents (λ c. slice_get bodies place ≡ Some body))
    → IsSome before → (bodies : List (List ℕ)) → seg.Stands v bodies None old → slice_get bodies place ≡ Some body
body_read before contents v old now place body same less read some bodies s =
    told contents (slice_get bodies place ≡ Some body) (subst (λ (o : Option Image). IsSome o) (sym same) some) (read bodies None (fewer_outcomes v bodies None old now less s))

-- ---- opening

-- an image's bodies are those of the value that was opened, with its gates
abbrev pub IsOne : Segments → (Image → Type 0) → Image → Type 0
IsOne v old c = (bodies : List (List ℕ)) (h : HasStore bodies c) → seg.Stands v bodies None old × (slots_of v.full ++ v.last.slots ≡ slots_in h.parts)

abbrev pub OneList : Type 0
OneList = (xs ys : List (List ℕ)) (c : Image) → HasStore xs c → HasStore ys c → xs ≡ ys

abbrev pub OneCut : Type 0
OneCut = (xs ys : List (List ℕ)) (c : Image) (a : HasStore xs c) (b : HasStore ys c) → a.parts ≡ b.parts

pub opened_one : OneList → OneCut → (v : Segments) (old : Image → Type 0) (c : Image) → IsOpened v c old → IsOne v old c
opened_one list cut v old c o = λ bodies h.
    (subst (λ (l : List (List ℕ)). seg.Stands v l None old) (list o.bodies bodies c o.has h) o.stands, o.slots ∙ ap slots_in (cut o.bodies bodies c o.has h))

pub opened_stands : (contents : Option Image) (v : Segments) (old : Image → Type 0) → IfSome contents (λ c. IsOpened v c old) → v.last.doubt ≡ None → ((c : Image) → old c → IsSome contents) → (bodies : List (List ℕ))
    × seg.Stands v bodies None old
opened_stands None v old opened sure told =
    (replicate (count_of v) [], stands_none v (replicate (count_of v) []) old (omega (arith, length_replicate (count_of v))) sure (λ c left. let none = told c left in absurd cc))
  where
    length_replicate : (n : ℕ) → length (let one : List ℕ = [] in replicate n one) ≡ n
    length_replicate zero = refl
    length_replicate (suc n) = ap suc (length_replicate n)
opened_stands (Some c) v old opened sure told = (opened.bodies, opened.stands)

pub opened_has : (contents : Option Image) (a : Archive) (now : Image → Type 0) (v : Segments) (old : Image → Type 0) → IfSome contents (λ c. IsOpened v c old) → IfSome contents (IsOne v old)
    → (IsSome contents → (bodies : List (List ℕ)) → seg.Stands v bodies None old → (log : List Entry) × Spell bodies log × Stands a log None now)
    → IfSome contents (λ c. (log : List Entry) × IsStore log c)
opened_has None a now v old opened one walked = tt
opened_has (Some c) a now v old opened one walked =
    let w = walked refl opened.bodies (one opened.bodies opened.has).0 in
    (w.0, record { bodies = opened.bodies; has = opened.has; spell = w.1; sound = w.2.keeps.sound })

pub opened_store : (contents : Option Image) (a : Archive) (now : Image → Type 0) (v : Segments) (old : Image → Type 0) → ((bodies : List (List ℕ)) (x y : List Entry) → Spell bodies x → Spell bodies y → x ≡ y)
    → IfSome contents (IsOne v old)
    → (IsSome contents → (bodies : List (List ℕ)) → seg.Stands v bodies None old → (log : List Entry) × Spell bodies log × Stands a log None now)
    → IfSome contents (λ c. (log : List Entry) → IsStore log c → Stands a log None now)
opened_store None a now v old unique one walked = tt
opened_store (Some c) a now v old unique one walked = λ log st.
    let w = walked refl st.bodies (one st.bodies st.has).0 in
    subst (λ (l : List Entry). Stands a l None now) (unique st.bodies w.0 log w.1 st.spell) w.2

pub opened_no_log : (contents : Option Image) (at : ℕ) → IfSome contents (NoLog at) → IfSome contents (NotAStore at)
opened_no_log None at h = tt
opened_no_log (Some c) at h = inl h

pub opened_no_entry : (contents : Option Image) (at : ℕ) (v : Segments) (old : Image → Type 0) → IfSome contents (λ c. IsOpened v c old) → IfSome contents (IsOne v old)
    → (IsSome contents → (bodies : List (List ℕ)) → seg.Stands v bodies None old → (place : ℕ) × (slot : Slot) × (slice_get (slots_of v.full ++ v.last.slots) place ≡ Some slot) × (at ≡ slot.gate) × FailsAt bodies place)
    → IfSome contents (NotAStore at)
opened_no_entry None at v old opened one failed = tt
opened_no_entry (Some c) at v old opened one failed =
    let o = one opened.bodies opened.has in
    let f = failed refl opened.bodies o.0 in
    inr (record {
      bodies = opened.bodies;
      has = opened.has;
      place = f.0;
      slot = f.1;
      there = subst (λ (l : List Slot). slice_get l f.0 ≡ Some f.1) o.1 f.2;
      at_is = f.3;
      fails = f.4;
    })

pub left_told : (before contents : Option Image) → contents ≡ before → IsSome contents → IsSome before
left_told before contents same some = subst (λ (o : Option Image). IsSome o) same some

pub same_told : (before contents : Option Image) → is_some contents ≡ is_some before → IsSome before → IsSome contents
same_told before contents same some = same ∙ some

-- the same of a result
pub some_one : (contents : Option Image) (v : Segments) (old : Image → Type 0) → OneList → OneCut → IfSome contents (λ c. IsOpened v c old) → IfSome contents (IsOne v old)
some_one None v old list cut opened = tt
some_one (Some c) v old list cut opened = opened_one list cut v old c opened

pub place_is : {A : Type 0} (a b : ℕ) → (let failed : ℕ → Result A OpenFault = λ n. Err (open_fault.NotAStore n) in failed a ≡ failed b) → a ≡ b
place_is a b e = cc

-- without bodies it is the store of an empty log
pub empty_store : (c : Image) → HasStore [] c → IsStore [] c
empty_store c has = record { bodies = []; has = has; spell = tt; sound = empty_sound }

-- what was said of a disk that isn't an empty store, of its bodies and of its entries
pub spared_by : (o : Option Image) (P Q : Type 0) → IfSome o (λ c. (HasStore [] c → ⊥) → P) → (P → Q) → IfSome o (λ c. (IsStore [] c → ⊥) → Q)
spared_by None P Q is so = tt
spared_by (Some c) P Q is so = λ filled. so (is (λ has. filled (empty_store c has)))
