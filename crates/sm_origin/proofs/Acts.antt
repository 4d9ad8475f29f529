-- One act of an origin, put together of what it did to the archive, to the disk and to the cache.
use Rattle.std.proofs.Common.{arith, ◌≡◌, ◌⊎◌, inl, inr, ⊎_elim, ℕ, zero, suc, ◌≤◌, true, List, [], ◌∷◌, ◌++◌, length, length-append, Option, None, Some, IsSome, is_some, option_map, Result, Ok, Err, IfOk, OnOk, OnErr, IfSome, Contains, slice_get, refl, ap, sym, subst, ◌∙◌}
use Rattle.std.proofs.lemmas.List.{append-nil}
use Rattle.std.proofs.lemmas.Bool.{eqb-true, and_parts}
use Rattle.std.proofs.lemmas.Slice.Eq.{bytes_eq-Decides}
use Rattle.sm_model.specs.declared.address.Address.{Address}
use Rattle.sm_model.specs.declared.fragment.Fragment.{Fragment}
use Rattle.sm_model.specs.declared.entry.Entry.{Entry}
use Rattle.sm_model.specs.declared.entry.Entry.TheVariants.{Keep}
use Rattle.sm_model.specs.declared.act.Act.{Act}
use Rattle.sm_model.specs.declared.no_memory.NoMemory.{NoMemory}
use Rattle.sm_site.specs.Image.{Image}
use Rattle.sm_site.specs.Meanings.{View, DiskCall, Seen}
use Rattle.sm_site.specs.Clauses.{Both, Rose, Recorded, Acted, NoMore, Throughout, last_moment}
use Rattle.sm_log.specs.Adds.{place_of}
use Rattle.sm_log.specs.Logs.{adds_of, kept_at}
use Rattle.sm_archive.specs.Steps.{Settles, Grows}
use Rattle.sm_archive.specs.Store.{IsStore}
use Rattle.sm_archive.specs.Stands.{Stands}
use Rattle.sm_cache.specs.declared.cache.Kept.{Kept}
use Rattle.sm_origin.specs.declared.origin.Origin.{Origin}
use Rattle.sm_reply.specs.declared.reply.Reply.{Reply}
use Rattle.sm_reply.specs.Replies.{reply_of}
use Rattle.sm_origin.specs.Giving.{Made}
use Rattle.sm_origin.specs.Machine.{Machine, SameLog, answered, Step, row, wants, entry_of}
use Rattle.sm_origin.specs.Stores.{IsPartOf, Fits, FitsInside}
use Rattle.sm_origin.specs.Acting.{IsHeld, AreHeld, StandsFor, ActGives}
use Rattle.sm_origin.specs.Caching.{with_kept}
use Rattle.sm_origin.specs.Opening.{WritesEmptyAlone}
use Rattle.sm_origin.proofs.Steps.{Stepped, fragment_step, kept_log}
use Rattle.sm_reply.specs.Replies.{silent}
use Rattle.sm_reply.specs.declared.reply.Counted.TheVariants as counted
use Rattle.sm_archive.specs.declared.answers.Keeping.TheVariants as keeping
use Rattle.sm_archive.specs.Keeping.{KeepStep}
use Rattle.sm_log.specs.Logs.{IsSound}
use Rattle.sm_archive.specs.declared.archive.Archive.{Archive}
use Rattle.sm_model.specs.Entries.{address_of}
use Rattle.sm_model.specs.Fragments.{IsValid}
use Rattle.sm_cache.specs.Pairs.{is_one_address}
use Rattle.sm_site.proofs.Moments.{no_call, weakened}
use Rattle.lru.specs.LruCache.{LruCache, lru_cache}
use Rattle.lru.proofs.Splits.{Contains-nil}
use Rattle.lru.proofs.CallerLemmas.{Contains-put_entries, IsPut}

-- ---- what a record of calls says

-- the calls that were made
record Calls (a b : Option (List DiskCall)) (t u : ℕ) : Type 0 where
  pub made : List DiskCall
  pub noted : Both a b (λ before now. now ≡ before ++ made)
  pub moment : u ≡ last_moment t made
  pub idle : made ≡ [] → Both a b (λ before now. (call : DiskCall) × (calls : List DiskCall) × (now ≡ before ++ call ∷ calls)) → ⊥

never : (xs ys made : List DiskCall) (call : DiskCall) (calls : List DiskCall) → made ≡ [] → ys ≡ xs ++ made → ys ≡ xs ++ call ∷ calls → ⊥
never xs ys made call calls none same more =
    absurd (omega (arith, ap length (sym more ∙ same), ap length none, length-append xs made, length-append xs (call ∷ calls)))

calls_of : (a b : Option (List DiskCall)) (t u : ℕ) → IsSome a → Both a b (λ before now. (made : List DiskCall) × (now ≡ before ++ made) × (u ≡ last_moment t made)) → Calls a b t u
calls_of None b t u some both = absurd (cc)
calls_of (Some xs) None t u some both = absurd both
calls_of (Some xs) (Some ys) t u some (made, same, moment) =
    record { made = made; noted = same; moment = moment; idle = λ none acted. never xs ys made acted.0 acted.1 none same acted.2 }

is_one : {A B : Type 0} (a : Option A) (b : Option B) → is_some a ≡ is_some b → IsSome b → IsSome a
is_one None None e some = some
is_one None (Some y) e some = absurd cc
is_one (Some x) b e some = refl

both_some : {A : Type 0} (a b : Option A) (R : A → A → Type 0) → Both a b R → IsSome a → IsSome b
both_some None b R both some = absurd (cc)
both_some (Some x) None R both some = absurd both
both_some (Some x) (Some y) R both some = refl

some_both : {A : Type 0} (a b : Option A) (R : A → A → Type 0) → Both a b R → IsSome b → IsSome a
some_both None None R both some = some
some_both None (Some y) R both some = absurd both
some_both (Some x) b R both some = refl

both_or_none : {A : Type 0} (a b : Option A) (R : A → A → Type 0) → Both a b R → is_some b ≡ is_some a
both_or_none None None R both = refl
both_or_none None (Some y) R both = absurd both
both_or_none (Some x) None R both = absurd both
both_or_none (Some x) (Some y) R both = refl

-- whether a disk tells its contents stays
pub same_told : (v w : View) → is_some v.calls ≡ is_some v.contents → is_some w.calls ≡ is_some w.contents → Recorded v w → is_some w.contents ≡ is_some v.contents
same_told v w was is recorded = sym is ∙ (both_or_none v.calls w.calls _ recorded ∙ was)

pub still_told : (v w : View) → is_some v.calls ≡ is_some v.contents → is_some w.calls ≡ is_some w.contents → Recorded v w → IsSome v.contents → IsSome w.contents
still_told v w was is recorded told =
    is_one w.contents w.calls (sym is) (both_some v.calls w.calls _ recorded (is_one v.calls v.contents was told))

pub told_before : (v w : View) → is_some v.calls ≡ is_some v.contents → is_some w.calls ≡ is_some w.contents → Recorded v w → IsSome w.contents → IsSome v.contents
told_before v w was is recorded told =
    is_one v.contents v.calls (sym was) (some_both v.calls w.calls _ recorded (is_one w.calls w.contents is told))

-- ---- what a crash leaves

pub fits_of : (m : Machine) (c : Image) → (IsStore m.log c ⊎ ((d : Entry) × (m.doubt ≡ Some d) × IsStore (m.log ++ d ∷ []) c)) → Fits m c
fits_of m c (inl store) = record { doubt = []; of_doubt = inl refl; store = subst (λ (l : List Entry). IsStore l c) (sym (append-nil m.log)) store }
fits_of m c (inr (d, is, store)) = record { doubt = d ∷ []; of_doubt = inr (d, is, refl); store = store }

-- with nothing written
pub inside_of : (m : Machine) (e : Option Entry) (c : Image) → Fits m c → FitsInside m e c
inside_of m e c fits = record {
  doubt = fits.doubt;
  of_doubt = fits.of_doubt;
  written = [];
  of_entry = inl refl;
  store = subst (λ (l : List Entry). IsStore l c) (sym (append-nil (m.log ++ fits.doubt))) fits.store;
}

settled_part : (log : List Entry) (doubt : Option Entry) (mid : List Entry) → Settles log doubt mid → (part : List Entry) × IsPartOf doubt part × (mid ≡ log ++ part)
settled_part log doubt mid (inl same) = ([], inl refl, same ∙ sym (append-nil log))
settled_part log doubt mid (inr (d, is, more)) = (d ∷ [], inr (d, is, refl), more)

pub inside_grown : (m : Machine) (e : Entry) (c : Image) → ((after : List Entry) × IsStore after c × Grows m.log m.doubt e after) → FitsInside m (Some e) c
inside_grown m e c (after, store, inl settles) =
    let p = settled_part m.log m.doubt after settles in
    record {
      doubt = p.0;
      of_doubt = p.1;
      written = [];
      of_entry = inl refl;
      store = subst (λ (l : List Entry). IsStore l c) (p.2 ∙ sym (append-nil (m.log ++ p.0))) store;
    }
inside_grown m e c (after, store, inr (mid, settles, more)) =
    let p = settled_part m.log m.doubt mid settles in
    record {
      doubt = p.0;
      of_doubt = p.1;
      written = e ∷ [];
      of_entry = inr (e, refl, refl);
      store = subst (λ (l : List Entry). IsStore l c) (more ∙ ap (λ (l : List Entry). l ++ e ∷ []) p.2) store;
    }

-- ---- an act

-- what holds of a disk and of the archives on it
pub record Laws {D : Type 0} (site : Seen D) : Type 0 where
  pub calls : (d : D) → is_some (site.view d).calls ≡ is_some (site.view d).contents
  pub no_later : (d : D) (t : ℕ) (c : Image) → site.left_at d t c → t ≤ (site.view d).moment
  pub at_now : (d : D) (c : Image) → site.left_at d (site.view d).moment c → site.may_leave d c
  pub image : (a : Archive) (log : List Entry) (doubt : Option Entry) (d : D) (c : Image) → Stands a log doubt (site.may_leave d) → site.may_leave d c
      → IsStore log c ⊎ ((x : Entry) × (doubt ≡ Some x) × IsStore (log ++ x ∷ []) c)

module _ {D : Type 0} (site : Seen D) (laws : Laws site) where
  pub act_gives : (old new : D) (m after : Machine) (o : Origin) (act : Act) (reply : Reply) → IsSome (site.view old).contents
      → ((c : Image) → site.may_leave new c → Fits after c) → Step (Rose (site.view old).disk_faults (site.view new).disk_faults) m act after reply
      → StandsFor (IsSome (site.view new).contents) after o (site.may_leave new) → after.archive.limits ≡ m.archive.limits
      → Throughout site old new (λ t c. FitsInside m (entry_of act) c) → ((Acted (site.view old) (site.view new) → ⊥) → SameLog m after)
      → ActGives site old new m o act reply
  act_gives old new m after o act reply told fits step stands limits through still =
      let some = is_one (site.view old).calls (site.view old).contents (laws.calls old) told in
      let calls = calls_of (site.view old).calls (site.view new).calls (site.view old).moment (site.view new).moment some through.recorded in
      record {
        after = after;
        calls = calls.made;
        step = step;
        has_told = still_told (site.view old) (site.view new) (laws.calls old) (laws.calls new) through.recorded told;
        stands = stands;
        limits = limits;
        noted = calls.noted;
        still = λ none. still (calls.idle none);
        later = through.later;
        ended = calls.moment;
        keeps = through.keeps;
        inside = through.each;
        now = fits;
        since = λ t c le left. fits c (laws.at_now new c (subst (λ (n : ℕ). site.left_at new n c) (omega (arith, le, laws.no_later new t c left)) left));
      }

-- ---- replies

-- what was made, or want of memory, where nothing changed
pub made_step : (failed : Type 0) (m n : Machine) (act : Act) (made : Result Reply NoMemory) (reply : Reply) → entry_of act ≡ None → SameLog m n
    → IfOk made (λ r. r ≡ reply_of m.log act) → Made made reply → Step failed m act n reply
made_step failed m n act (Ok r) reply none same is told = row (answered none same (told ∙ is))
made_step failed m n act (Err e) reply none same is told = wants same told

-- ---- what is held

stays : {A : Type 0} (xs ys : List A) (k : ℕ) (x : A) → slice_get xs k ≡ Some x → slice_get (xs ++ ys) k ≡ Some x
stays [] ys k x e = absurd cc
stays (y ∷ xs) ys zero x e = e
stays (y ∷ xs) ys (suc k) x e = stays xs ys k x e

-- what holds of logs that keep something at an address: where it is, and that it stays
abbrev pub Places : Type 0
Places = (log : List Entry) (a : Address) → place_of a (adds_of log) ≡ option_map (λ (k : ℕ × Fragment). k.0) (kept_at log a)

abbrev pub Stays : Type 0
Stays = (log more : List Entry) (a : Address) (place : ℕ) (f : Fragment) → kept_at log a ≡ Some (place, f) → kept_at (log ++ more) a ≡ Some (place, f)

place_stays : Places → Stays → (log more : List Entry) (a : Address) (place : ℕ) → place_of a (adds_of log) ≡ Some place → place_of a (adds_of (log ++ more)) ≡ Some place
place_stays places stay log more a place is = from (kept_at log a) refl
  where
    from : (o : Option (ℕ × Fragment)) → kept_at log a ≡ o → place_of a (adds_of (log ++ more)) ≡ Some place
    from None none = absurd (differ (sym is ∙ (places log a ∙ ap (option_map (λ (k : ℕ × Fragment). k.0)) none)))
      where
        differ : (let found : ℕ → Option ℕ = λ z. Some z in found place ≡ None) → ⊥
        differ e = cc
    from (Some (p, f)) some =
        let same = places log a ∙ ap (option_map (λ (k : ℕ × Fragment). k.0)) some in
        places (log ++ more) a ∙ (ap (option_map (λ (k : ℕ × Fragment). k.0)) (stay log more a p f some) ∙ (sym same ∙ is))

-- a longer log holds it too
pub held_more : Places → Stays → (was now : Type 0) → (now → was) → (log more : List Entry) (pairs : List (Address × Kept)) → AreHeld was log pairs → AreHeld now (log ++ more) pairs
held_more places stay was now told log more pairs held pair there =
    let h = held pair there in
    record {
      address = h.address;
      valid = h.valid;
      place = place_stays places stay log more pair.0 pair.1.place h.place;
      same = λ t. stays log more pair.1.place (Keep pair.1.fragment) (h.same (told t));
    }

-- where the same or less is told
pub held_told : (was now : Type 0) (log : List Entry) (pairs : List (Address × Kept)) → (now → was) → AreHeld was log pairs → AreHeld now log pairs
held_told was now log pairs told held pair there =
    let h = held pair there in
    record { address = h.address; valid = h.valid; place = h.place; same = λ t. h.same (told t) }

-- behind a step
pub held_after : Places → Stays → (was now failed acted : Type 0) (outcomes : Image → Type 0) (m : Machine) (a : Archive) (act : Act) (reply : Reply) → (now → was)
    → (s : Stepped failed acted outcomes m a act reply) (pairs : List (Address × Kept)) → AreHeld was m.log pairs → AreHeld now s.after.log pairs
held_after places stay was now failed acted outcomes m a act reply told s pairs held =
    subst (λ (l : List Entry). AreHeld now l pairs) (sym s.grows) (held_more places stay was now told m.log s.more pairs held)

-- ---- a fragment that was kept

at_end : (mid : List Entry) (x : Entry) → slice_get (mid ++ x ∷ []) (length mid) ≡ Some x
at_end [] x = refl
at_end (y ∷ mid) x = at_end mid x

abbrev pub One : Type 0
One = (front back : List Entry) (f : Fragment) → IsSound (front ++ Keep f ∷ back) → kept_at (front ++ Keep f ∷ back) (address_of f) ≡ Some (length front, f)

pub record KeptThere (log : List Entry) (f : Fragment) (place : ℕ) : Type 0 where
  pub place_is : place_of (address_of f) (adds_of log) ≡ Some place
  pub there : slice_get log place ≡ Some (Keep f)

kept_in : Places → One → (acted : Type 0) (outcomes : Image → Type 0) (log : List Entry) (doubt : Option Entry) (a : Archive) (f : Fragment) (place : ℕ)
    → (step : KeepStep acted outcomes a log doubt f (keeping.Kept place)) → KeptThere (step.0 ++ Keep f ∷ []) f place
kept_in places one acted outcomes log doubt a f place (mid, clears, new, at, within, did, stands) = record {
  place_is = places (mid ++ Keep f ∷ []) (address_of f) ∙ (ap (option_map (λ (k : ℕ × Fragment). k.0)) (one mid [] f stands.keeps.sound) ∙ ap (λ (n : ℕ). Some n) (sym at));
  there = subst (λ (n : ℕ). slice_get (mid ++ Keep f ∷ []) n ≡ Some (Keep f)) (sym at) (at_end mid (Keep f));
}

pub kept_there_now : Places → One → (failed acted : Type 0) (outcomes : Image → Type 0) (m : Machine) (a : Archive) (f : Fragment) (place : ℕ) (reply : Reply)
    → (fails : keeping.Kept place ≡ keeping.DiskFault → failed) (step : KeepStep acted outcomes a m.log m.doubt f (keeping.Kept place)) (told : reply ≡ silent counted.Kept)
    → KeptThere (fragment_step failed acted outcomes m a f (keeping.Kept place) reply fails step told).after.log f place
kept_there_now places one failed acted outcomes m a f place reply fails step told =
    subst (λ (l : List Entry). KeptThere l f place) (sym (kept_log failed acted outcomes m a f place reply fails step told))
    (kept_in places one acted outcomes m.log m.doubt a f place step)

-- ---- what a cache holds once a fragment was put into it

abbrev at : List ℕ → ℕ → ℕ → Address
at stream bitrate time = record { stream = stream; bitrate = bitrate; time = time }

pub some_address : (a b : Address) → is_one_address a b ≡ true → a ≡ b
some_address a b e =
    let both = and_parts _ _ e in
    let rest = and_parts _ _ both.1 in
    same_fields a b ((bytes_eq-Decides a.stream b.stream).0 both.0) (eqb-true _ _ rest.0) (eqb-true _ _ rest.1)
  where
    same_fields : (a b : Address) → a.stream ≡ b.stream → a.bitrate ≡ b.bitrate → a.time ≡ b.time → a ≡ b
    same_fields a b s r t =
        ap (λ (x : List ℕ). at x a.bitrate a.time) s ∙ (ap (λ (x : ℕ). at b.stream x a.time) r ∙ ap (λ (x : ℕ). at b.stream b.bitrate x) t)

pub held_put : (told : Type 0) (log : List Entry) (c : LruCache Address Kept) (place : ℕ) (f : Fragment) → IsValid f → place_of (address_of f) (adds_of log) ≡ Some place
    → (told → slice_get log place ≡ Some (Keep f)) → AreHeld told log c.entries → AreHeld told log (with_kept c place f).entries
held_put told log c place f valid at same held pair there = ⊎_elim
    (λ was. held pair was)
    (λ put. put_is pair put)
    (Contains-put_entries is_one_address c (address_of f) (record { place = place; fragment = f }) pair there)
  where
    is_it : (a : Address) (k : Kept) → a ≡ address_of f → k ≡ record { place = place; fragment = f } → IsHeld told log (a, k)
    is_it a k a_is k_is = record {
      address = ap (λ (x : Kept). address_of x.fragment) k_is ∙ sym a_is;
      valid = subst (λ (x : Kept). IsValid x.fragment) (sym k_is) valid;
      place = ap (λ (x : Address). place_of x (adds_of log)) a_is ∙ (at ∙ ap (λ (x : Kept). Some x.place) (sym k_is));
      same = λ t. subst (λ (x : Kept). slice_get log x.place ≡ Some (Keep x.fragment)) (sym k_is) (same t);
    }

    put_is : (pair : Address × Kept) → IsPut is_one_address c (address_of f) (record { place = place; fragment = f }) pair → IsHeld told log pair
    put_is (a, k) (k_is, inl a_is) = is_it a k a_is k_is
    put_is (a, k) (k_is, inr (w, was, one)) = is_it a k (sym (some_address (address_of f) a one)) k_is

-- put, or not for want of memory
pub put_or_same : (old new : LruCache Address Kept) (place : ℕ) (f : Fragment) → (new ≡ old) ⊎ (new ≡ with_kept old place f) → (told : Type 0) (log : List Entry)
    → IsValid f → place_of (address_of f) (adds_of log) ≡ Some place → (told → slice_get log place ≡ Some (Keep f)) → AreHeld told log old.entries → AreHeld told log new.entries
put_or_same old new place f (inl same) told log valid is there held = subst (λ (c : LruCache Address Kept). AreHeld told log c.entries) (sym same) held
put_or_same old new place f (inr put) told log valid is there held =
    subst (λ (c : LruCache Address Kept). AreHeld told log c.entries) (sym put) (held_put told log old place f valid is there held)

-- the same of one that was read back, if it could be given
pub held_read : (old new : LruCache Address Kept) (place : ℕ) (f : Fragment) (r : Result Reply NoMemory) → OnOk r (new ≡ with_kept old place f) → OnErr r (new ≡ old)
    → (told : Type 0) (log : List Entry) → IsValid f → (a : Address) → address_of f ≡ a → place_of a (adds_of log) ≡ Some place
    → (told → slice_get log place ≡ Some (Keep f)) → AreHeld told log old.entries → AreHeld told log new.entries
held_read old new place f (Ok x) put same told log valid a of is there held =
    subst (λ (c : LruCache Address Kept). AreHeld told log c.entries) (sym put)
    (held_put told log old place f valid (subst (λ (y : Address). place_of y (adds_of log) ≡ Some place) (sym of) is) there held)
held_read old new place f (Err x) put same told log valid a of is there held = subst (λ (c : LruCache Address Kept). AreHeld told log c.entries) (sym same) held

abbrev pub of_archive : (failed acted : Type 0) (outcomes : Image → Type 0) (m : Machine) (a b : Archive) (act : Act) (reply : Reply) → a ≡ b
    → Stepped failed acted outcomes m a act reply → Stepped failed acted outcomes m b act reply
of_archive failed acted outcomes m a b act reply same s = record {
  after = s.after;
  archive = s.archive ∙ same;
  stands = subst (λ (x : Archive). Stands x s.after.log s.after.doubt outcomes) same s.stands;
  step = s.step;
  still = s.still;
  more = s.more;
  grows = s.grows;
}

-- an empty cache holds nothing
pub none_held : (told : Type 0) (log : List Entry) (c : LruCache Address Kept) → c ≡ lru_cache [] 16 → AreHeld told log c.entries
none_held told log c empty pair there = absurd (Contains-nil pair (subst (λ (x : LruCache Address Kept). Contains x.entries pair) empty there))

-- ---- opening

pub a_store : {A B : Type 0} (o : Option A) (P : B → A → Type 0) (Q : B → Type 0) → IfSome o (λ c. (log : B) × P log c) → IfSome o (λ c. (log : B) → P log c → Q log)
    → IfSome o (λ c. (log : B) × P log c × Q log)
a_store None P Q has all = tt
a_store (Some c) P Q has all = (has.0, has.1, all has.0 has.1)

pub if_some : {A : Type 0} (o : Option A) (P Q : A → Type 0) → ((c : A) → P c → Q c) → IfSome o P → IfSome o Q
if_some None P Q so is = tt
if_some (Some c) P Q so is = so c is

pub some_of : {A : Type 0} (o : Option A) (P : A → Type 0) → ((c : A) → P c) → IfSome o P
some_of None P all = tt
some_of (Some c) P all = all c

module _ {D : Type 0} (site : Seen D) where
  -- a call that does nothing
  pub idle_writes : ((d : D) (t : ℕ) (c : Image) → site.left_at d t c → t ≤ (site.view d).moment) → (d : D) → WritesEmptyAlone site d d
  idle_writes no_later d =
      some_of (site.view d).contents
      (λ c. (IsStore [] c → ⊥) → ((site.view d).contents ≡ (site.view d).contents) × NoMore (site.may_leave d) (site.may_leave d) × Throughout site d d (λ t x. site.may_leave d x))
      (λ c filled. (refl, λ x left. left, no_call site d (λ t x. site.may_leave d x) (no_later d)))

module _ {D : Type 0} (site : Seen D) (laws : Laws site) where
  -- the law of images, for a machine
  images : (m : Machine) (a : Archive) (d : D) → Stands a m.log m.doubt (site.may_leave d) → (c : Image) → site.may_leave d c → Fits m c
  images m a d stands c left = fits_of m c (laws.image a m.log m.doubt d c stands left)

  -- an act that adds an entry
  pub write_gives : (old new : D) (m : Machine) (o : Origin) (act : Act) (e : Entry) (reply : Reply) → IsSome (site.view old).contents
      → entry_of act ≡ Some e
      → (s : Stepped (Rose (site.view old).disk_faults (site.view new).disk_faults) (Acted (site.view old) (site.view new)) (site.may_leave new) m o.archive act reply)
      → o.archive.limits ≡ m.archive.limits
      → Throughout site old new (λ t c. (after : List Entry) × IsStore after c × Grows m.log m.doubt e after)
      → AreHeld (IsSome (site.view new).contents) s.after.log o.cache.entries
      → ActGives site old new m o act reply
  write_gives old new m o act e reply told entry s limits through held =
      act_gives site laws old new m s.after o act reply told (images s.after o.archive new s.stands) s.step
      (record { archive = s.archive; stands = s.stands; cached = held })
      (ap (λ (a : Archive). a.limits) s.archive ∙ limits)
      (weakened site old new _ (λ t c. FitsInside m (entry_of act) c) through
      (λ t c has. subst (λ (x : Option Entry). FitsInside m x c) (sym entry) (inside_grown m e c has)))
      s.still

  -- an act that only reads
  pub read_gives : (old new : D) (m : Machine) (was_o o : Origin) (act : Act) (reply : Reply) → IsSome (site.view old).contents
      → StandsFor (IsSome (site.view old).contents) m was_o (site.may_leave old)
      → Step (Rose (site.view old).disk_faults (site.view new).disk_faults) m act m reply
      → Throughout site old new (λ t c. site.may_leave old c)
      → StandsFor (IsSome (site.view new).contents) m o (site.may_leave new)
      → ActGives site old new m o act reply
  read_gives old new m was_o o act reply told stood step through stands =
      act_gives site laws old new m m o act reply told (images m o.archive new stands.stands) step stands refl
      (weakened site old new _ (λ t c. FitsInside m (entry_of act) c) through
      (λ t c left. inside_of m (entry_of act) c (images m was_o.archive old stood.stands c left)))
      (λ no. record { log = refl; doubt = refl })
