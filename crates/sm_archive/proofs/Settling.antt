-- What settling leaves.
use Rattle.std.proofs.Common.{◌≡◌, ℕ, ◌+◌, ◌-◌, ◌≤◌, ◌^◌, min, true, List, [], ◌∷◌, ◌++◌, length, Option, None, Some, is_some, refl, sym, ap, subst, ◌∙◌, ◌⊎◌, inl, inr, arith}
use Rattle.std.specs.Prelude.{IsSome}
use Rattle.std.proofs.lemmas.List.Sums.{sum_by_push}
use Rattle.sm_model.specs.declared.track.Track.{Track}
use Rattle.sm_model.specs.declared.entry.Entry.{Entry}
use Rattle.sm_log.specs.Logs.{channel_of}
use Rattle.sm_archive.specs.Steps.{Clears, Settles}
use Rattle.sm_record.specs.Bodies.{IsBody}
use Rattle.sm_site.specs.Image.{Image}
use Rattle.sm_seglog.specs.Segments.{Segments}
use Rattle.sm_seglog.specs.Standing as seg
use Rattle.sm_archive.specs.declared.index.Index.{Index}
use Rattle.sm_archive.specs.declared.archive.Pending.{Pending}
use Rattle.sm_archive.specs.declared.archive.Pending.TheVariants as pending
use Rattle.sm_archive.specs.declared.archive.Doubt.{Doubt}
use Rattle.sm_archive.specs.declared.archive.Archive.{Archive}
use Rattle.sm_archive.specs.Index.{HasSpace}
use Rattle.sm_archive.specs.Stands.{Stands, used_by}
use Rattle.sm_archive.specs.Taking.{CanTake, Taken}
use Rattle.sm_archive.specs.Keeping.{HasChannel, SpaceIn}
use Rattle.sm_archive.proofs.Lists.{all_zip_len}
use Rattle.sm_archive.proofs.Logs.{sound_push, spell_push}
use Rattle.sm_archive.proofs.Doubts.{doubted_none, doubted_some, InDoubt}
use Rattle.sm_archive.proofs.Indexes.{can_take, index_taken}
use Rattle.sm_seglog.specs.Segments.{count_of}
use Rattle.sm_seglog.proofs.Standing.{fewer_outcomes}

abbrev pub archive : Archive → Segments → ℕ → Option Index → Option Doubt → Archive
archive a log used index doubt = record { log = log; limits = a.limits; used = used; index = index; doubt = doubt }

pub in_doubt : (a : Archive) (x : Doubt) (log : List Entry) (doubt : Option Entry) (outcomes : Image → Type 0) → a.doubt ≡ Some x → (s : Stands a log doubt outcomes) → InDoubt a.index a.log log x s.body doubt
in_doubt a x log doubt outcomes is s = doubted_some a.index a.log log a.doubt s.body doubt x is s.keeps.doubted

-- what the log's settle needs
pub log_stands : (a : Archive) (x : Doubt) (log : List Entry) (doubt : Option Entry) (outcomes : Image → Type 0) → a.doubt ≡ Some x → Stands a log doubt outcomes → (bodies : List (List ℕ)) × (body : List ℕ)
    × seg.Stands a.log bodies (Some body) outcomes
log_stands a x log doubt outcomes is s =
    let d = in_doubt a x log doubt outcomes is s in
    (s.bodies, d.own, subst (λ (b : Option (List ℕ)). seg.Stands a.log s.bodies b outcomes) d.body_is s.stands)

pub log_in_doubt : (a : Archive) (x : Doubt) (log : List Entry) (doubt : Option Entry) (outcomes : Image → Type 0) → a.doubt ≡ Some x → Stands a log doubt outcomes → (is_some a.log.last.doubt) ≡ true
log_in_doubt a x log doubt outcomes is s =
    let d = in_doubt a x log doubt outcomes is s in
    sym s.stands.doubts ∙ ap (λ (b : Option (List ℕ)). is_some b) d.body_is

pub log_spare : (a : Archive) (x : Doubt) (log : List Entry) (doubt : Option Entry) (outcomes : Image → Type 0) → a.doubt ≡ Some x → Stands a log doubt outcomes → 1 ≤ a.log.last.spare
log_spare a x log doubt outcomes is s = (in_doubt a x log doubt outcomes is s).is.spare

pub entry_can_be_taken : (a : Archive) (x : Doubt) (log : List Entry) (doubt : Option Entry) (outcomes : Image → Type 0) → a.doubt ≡ Some x → Stands a log doubt outcomes → CanTake a.index x.entry
entry_can_be_taken a x log doubt outcomes is s =
    let d = in_doubt a x log doubt outcomes is s in
    can_take a.index x.entry log d.entry s.keeps.index d.is.fits d.is.pends

used_push : (used bytes n : ℕ) (bodies : List (List ℕ)) (body : List ℕ) → used ≡ min (used_by bodies) (2 ^ 64 - 1) → bytes ≡ 5 + length body → n ≡ min (used + bytes) (2 ^ 64 - 1)
    → n ≡ min (used_by (bodies ++ body ∷ [])) (2 ^ 64 - 1)
used_push used bytes n bodies body is b_is n_is = let p = sum_by_push (λ (b : List ℕ). 5 + length b) bodies body in omega (arith, is, b_is, n_is, p)

some_entry : (o : Option Entry) (e : Entry) → o ≡ Some e → IsSome o
some_entry (Some x) e h = refl
some_entry None e h = absurd cc

-- a doubt that is cleared is settled, whatever acted
pub clears_settles : (acted : Type 0) (log : List Entry) (doubt : Option Entry) (mid : List Entry) → Clears acted log doubt mid → Settles log doubt mid
clears_settles acted log doubt mid (inl h) = inl h.1
clears_settles acted log doubt mid (inr h) = h.1

pub clears_as : (acted also : Type 0) (log : List Entry) (doubt : Option Entry) (mid : List Entry) → (acted → also) → Clears acted log doubt mid → Clears also log doubt mid
clears_as acted also log doubt mid so (inl h) = inl h
clears_as acted also log doubt mid so (inr h) = inr (h.0, h.1, so h.2)

pub stored : (acted : Type 0) → acted → (a : Archive) (x : Doubt) (v : Segments) (used : ℕ) (index : Option Index) (place : ℕ) (old new : Image → Type 0) → a.doubt ≡ Some x → place ≡ (count_of a.log)
    → ((bodies : List (List ℕ)) (body : List ℕ) → seg.Stands a.log bodies (Some body) old → seg.Stands v (bodies ++ body ∷ []) None new)
    → used ≡ min (a.used + x.bytes) (2 ^ 64 - 1) → Taken a.index x.entry place index
    → (empty : Option Doubt) → empty ≡ None
    → (log : List Entry) (doubt : Option Entry) → Stands a log doubt old → (after : List Entry) × Clears acted log doubt after × Stands (archive a v used index empty) after None new
stored acted did a x v used index place old new is place_is so used_is taken empty empty_is log doubt s =
    let d = in_doubt a x log doubt old is s in
    let k = s.keeps in
    let len : length log ≡ length s.bodies = all_zip_len (IsBody (channel_of log)) log s.bodies k.spell in
    let at : place ≡ length log = omega (arith, place_is, len, s.stands.count, k.sound.few) in
    let stands : seg.Stands a.log s.bodies (Some d.own) old = subst (λ (b : Option (List ℕ)). seg.Stands a.log s.bodies b old) d.body_is s.stands in
    let made : Stands (archive a v used index None) (log ++ d.entry ∷ []) None new = record {
      bodies = s.bodies ++ d.own ∷ [];
      body = None;
      stands = so s.bodies d.own stands;
      keeps = record {
        count = (so s.bodies d.own stands).count;
        spell = spell_push s.bodies log d.own d.entry k.spell d.is.spelled;
        sound = sound_push log d.entry k.sound d.is.fits d.is.few;
        index = index_taken a.index x.entry log d.entry place index k.index d.is.pends at taken;
        used = used_push a.used x.bytes used s.bodies d.own k.used d.is.bytes used_is;
        few = k.few;
        low = k.low;
        doubted = tt;
      };
    } in
    (log ++ d.entry ∷ [], inr (some_entry doubt d.entry d.doubt_is, inr (d.entry, d.doubt_is, refl), did), subst (λ (n : Option Doubt). Stands (archive a v used index n) (log ++ d.entry ∷ []) None new) (sym empty_is) made)

pub gone : (acted : Type 0) → acted → (a : Archive) (x : Doubt) (v : Segments) (old new : Image → Type 0) → a.doubt ≡ Some x
    → ((bodies : List (List ℕ)) (body : List ℕ) → seg.Stands a.log bodies (Some body) old → seg.Stands v bodies None new)
    → (empty : Option Doubt) → empty ≡ None
    → (log : List Entry) (doubt : Option Entry) → Stands a log doubt old → (after : List Entry) × Clears acted log doubt after × Stands (archive a v a.used a.index empty) after None new
gone acted did a x v old new is so empty empty_is log doubt s =
    let d = in_doubt a x log doubt old is s in
    let k = s.keeps in
    let stands : seg.Stands a.log s.bodies (Some d.own) old = subst (λ (b : Option (List ℕ)). seg.Stands a.log s.bodies b old) d.body_is s.stands in
    let made : Stands (archive a v a.used a.index None) log None new = record {
      bodies = s.bodies;
      body = None;
      stands = so s.bodies d.own stands;
      keeps = record { count = (so s.bodies d.own stands).count; spell = k.spell; sound = k.sound; index = k.index; used = k.used; few = k.few; low = k.low; doubted = tt };
    } in
    (log, inr (some_entry doubt d.entry d.doubt_is, inl refl, did), subst (λ (n : Option Doubt). Stands (archive a v a.used a.index n) log None new) (sym empty_is) made)

pub no_doubt : (acted : Type 0) (a : Archive) (empty : Option Doubt) (outcomes : Image → Type 0) → a.doubt ≡ None → empty ≡ None
    → (log : List Entry) (doubt : Option Entry) → Stands a log doubt outcomes → (after : List Entry) × Clears acted log doubt after × Stands (archive a a.log a.used a.index empty) after None outcomes
no_doubt acted a empty outcomes is empty_is log doubt s =
    let k = s.keeps in
    let e = doubted_none a.index a.log log a.doubt s.body doubt is k.doubted in
    let made : Stands (archive a a.log a.used a.index None) log None outcomes = record {
      bodies = s.bodies;
      body = None;
      stands = subst (λ (b : Option (List ℕ)). seg.Stands a.log s.bodies b outcomes) e.0 s.stands;
      keeps = record { count = k.count; spell = k.spell; sound = k.sound; index = k.index; used = k.used; few = k.few; low = k.low; doubted = tt };
    } in
    (log, inl (e.1, refl), subst (λ (n : Option Doubt). Stands (archive a a.log a.used a.index n) log None outcomes) (sym empty_is) made)

-- fewer outcomes
pub stands_fewer : (a : Archive) (old new : Image → Type 0) → ((c : Image) → new c → old c) → (log : List Entry) (doubt : Option Entry) → Stands a log doubt old → Stands a log doubt new
stands_fewer a old new less log doubt s = record { bodies = s.bodies; body = s.body; stands = fewer_outcomes a.log s.bodies s.body old new less s.stands; keeps = s.keeps }

pub failed : (a : Archive) (x : Doubt) (v : Segments) (old new : Image → Type 0) → a.doubt ≡ Some x → v ≡ a.log → ((c : Image) → new c → old c)
    → (log : List Entry) (doubt : Option Entry) → Stands a log doubt old → IsSome doubt × Stands (archive a v a.used a.index (Some x)) log doubt new
failed a x v old new is same less log doubt s =
    let d = in_doubt a x log doubt old is s in (
      some_entry doubt d.entry d.doubt_is,
      subst (λ (w : Segments). Stands (archive a w a.used a.index (Some x)) log doubt new) (sym same)
          (subst (λ (o : Option Doubt). Stands (archive a a.log a.used a.index o) log doubt new) is (stands_fewer a old new less log doubt s)),
    )

-- ---- the channel and the space

some_index : (i j : Index) → (let found : Index → Option Index = λ x. Some x in found i ≡ found j) → i ≡ j
some_index i j e = cc

pub channel_stays : (a : Archive) (v : Segments) (used : ℕ) (empty : Option Doubt) → empty ≡ None → (channel : List Track) → HasChannel (archive a v used a.index empty) channel → HasChannel a channel
channel_stays a v used empty empty_is channel h = record {
  index = h.index;
  is = elim h.is [ inl i ↦ inl i | inr d ↦ absurd (let e = sym empty_is ∙ d.1 in cc) ];
  channel_is = h.channel_is;
}

pub channel_same : (a : Archive) (v : Segments) (used : ℕ) (x : Doubt) → a.doubt ≡ Some x → (channel : List Track) → HasChannel (archive a v used a.index (Some x)) channel → HasChannel a channel
channel_same a v used x is channel h = record { index = h.index; is = elim h.is [ inl i ↦ inl i | inr d ↦ inr (d.0, is ∙ d.1) ]; channel_is = h.channel_is }

channel_of_taken : (old : Option Index) (entry : Pending) (bytes : ℕ) (place : ℕ) (new : Option Index) (i : Index) → Taken old entry place new → new ≡ Some i
    → ((j : Index) × (old ≡ Some j) × (i.catalog.channel ≡ j.catalog.channel)) ⊎ (entry ≡ pending.Declare i)
channel_of_taken old (pending.Declare own) bytes place new i taken is = inr (ap (λ (x : Index). pending.Declare x) (some_index own i (sym taken ∙ is)))
channel_of_taken None (pending.Keep a m check) bytes place new i taken is = absurd taken
channel_of_taken (Some j) (pending.Keep a m check) bytes place None i taken is = absurd taken
channel_of_taken (Some j) (pending.Keep a m check) bytes place (Some k) i taken is = inl (j, refl, ap (λ (x : Index). x.catalog.channel) (sym (some_index k i is)) ∙ taken.channel)

pub channel_taken : (a : Archive) (x : Doubt) (v : Segments) (used place : ℕ) (index : Option Index) (empty : Option Doubt) → a.doubt ≡ Some x → Taken a.index x.entry place index → empty ≡ None
    → (channel : List Track) → HasChannel (archive a v used index empty) channel → HasChannel a channel
channel_taken a x v used place index empty is taken empty_is channel h =
    elim h.is [
      | inl i ↦ elim (channel_of_taken a.index x.entry x.bytes place index h.index taken i) [
        | inl old ↦ record { index = old.0; is = inl old.1; channel_is = sym old.2 ∙ h.channel_is }
        | inr own ↦ record { index = h.index; is = inr (x.bytes, is ∙ ap (λ (p : Pending). Some (record { entry = p; bytes = x.bytes })) own); channel_is = h.channel_is }
      ]
      | inr d ↦ absurd (let e = sym empty_is ∙ d.1 in cc)
    ]

less_space : (i : Index) (n : ℕ) (stream : List ℕ) → HasSpace i (n + 1) stream → HasSpace i n stream
less_space i n stream h = record { times = omega (arith, h.times); metas = omega (arith, h.metas) }

pub space_stays : (a : Archive) (v : Segments) (used : ℕ) (empty : Option Doubt) → empty ≡ None → (n : ℕ) (stream : List ℕ) → SpaceIn a (n + 1) stream → SpaceIn (archive a v used a.index empty) n stream
space_stays a v used empty empty_is n stream h = record {
  index = λ i is. less_space i n stream (h.index i is);
  pends = λ i bytes is. absurd (let e = sym empty_is ∙ is in cc);
}

pub space_same : (a : Archive) (v : Segments) (used : ℕ) (x : Doubt) → a.doubt ≡ Some x → (n : ℕ) (stream : List ℕ) → SpaceIn a (n + 1) stream → SpaceIn (archive a v used a.index (Some x)) n stream
space_same a v used x is n stream h = record {
  index = λ i is. less_space i n stream (h.index i is);
  pends = λ i bytes d. less_space i n stream (h.pends i bytes (is ∙ d));
}

space_of_taken : (old : Option Index) (entry : Pending) (bytes place : ℕ) (new : Option Index) (i : Index) (n : ℕ) (stream : List ℕ) → Taken old entry place new → new ≡ Some i
    → ((j : Index) → old ≡ Some j → HasSpace j (n + 1) stream) → ((j : Index) → entry ≡ pending.Declare j → HasSpace j (n + 1) stream) → HasSpace i n stream
space_of_taken old (pending.Declare own) bytes place new i n stream taken is has own_has = less_space i n stream (own_has i (ap (λ (x : Index). pending.Declare x) (some_index own i (sym taken ∙ is))))
space_of_taken None (pending.Keep a m check) bytes place new i n stream taken is has own_has = absurd taken
space_of_taken (Some j) (pending.Keep a m check) bytes place None i n stream taken is has own_has = absurd taken
space_of_taken (Some j) (pending.Keep a m check) bytes place (Some k) i n stream taken is has own_has = subst (λ (x : Index). HasSpace x n stream) (some_index k i is) (taken.less n stream (has j refl))

pub space_taken : (a : Archive) (x : Doubt) (v : Segments) (used place : ℕ) (index : Option Index) (empty : Option Doubt) → a.doubt ≡ Some x → Taken a.index x.entry place index → empty ≡ None
    → (n : ℕ) (stream : List ℕ) → SpaceIn a (n + 1) stream → SpaceIn (archive a v used index empty) n stream
space_taken a x v used place index empty is taken empty_is n stream h = record {
  index = λ i i_is. space_of_taken a.index x.entry x.bytes place index i n stream taken i_is h.index (λ j own. h.pends j x.bytes (is ∙ ap (λ (p : Pending). Some (record { entry = p; bytes = x.bytes })) own));
  pends = λ i bytes d. absurd (let e = sym empty_is ∙ d in cc);
}
