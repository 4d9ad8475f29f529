-- What appending a fragment leaves.
use Rattle.std.proofs.Common.{◌≡◌, ℕ, ◌+◌, ◌≤◌, ◌<◌, true, List, [], ◌∷◌, ◌++◌, length, Option, None, Some, refl, sym, ap, subst, ◌∙◌, ◌⊎◌, inl, inr, arith}
use Rattle.std.proofs.lemmas.List.Sums.{sum_by_push}
use Rattle.sm_model.specs.declared.track.Track.{Track}
use Rattle.sm_model.specs.declared.fragment.Fragment.{Fragment}
use Rattle.sm_model.specs.declared.address.Address.{Address}
use Rattle.sm_model.specs.declared.entry.Entry.{Entry}
use Rattle.sm_model.specs.declared.entry.Entry.TheVariants.{Keep}
use Rattle.sm_model.specs.Fragments.{IsValid}
use Rattle.sm_model.specs.Entries.{address_of}
use Rattle.sm_log.specs.declared.verdict.Judged.TheVariants.{New, NotDeclared}
use Rattle.sm_log.specs.Adds.{times_of}
use Rattle.sm_log.specs.Logs.{channel_of, adds_of, verdict_on}
use Rattle.sm_record.specs.declared.meta.Meta.{Meta}
use Rattle.sm_record.specs.Bodies.{IsBody, body_len}
use Rattle.sm_record.specs.Metas.{IsMetaOf}
use Rattle.sm_site.specs.Image.{Image}
use Rattle.sm_seglog.specs.Stores.{HasStore}
use Rattle.sm_seglog.specs.Segments.{Segments}
use Rattle.sm_seglog.specs.Standing.{EndsWithin, Fits}
use Rattle.sm_seglog.specs.Standing as seg
use Rattle.sm_archive.specs.declared.index.Index.{Index}
use Rattle.sm_archive.specs.declared.archive.Pending.{Pending}
use Rattle.sm_archive.specs.declared.archive.Pending.TheVariants as pending
use Rattle.sm_archive.specs.declared.archive.Doubt.{Doubt}
use Rattle.sm_archive.specs.declared.archive.Archive.{Archive}
use Rattle.sm_archive.specs.declared.ready.Ready.{Ready}
use Rattle.sm_archive.specs.Index.{HasSpace}
use Rattle.sm_archive.specs.Store.{IsStore}
use Rattle.sm_archive.specs.Stands.{Doubted, IsIndex, IndexIs, IsPending, Stands}
use Rattle.sm_archive.specs.Taking.{CanTake, Taken}
use Rattle.sm_archive.specs.declared.limits.Limits.{Limits}
use Rattle.sm_archive.specs.Appending.{CanAppend, IsUnused}
use Rattle.sm_archive.specs.Keeping.{HasChannel, IsWithin, IsWithinNow, has_time}
use Rattle.sm_archive.specs.Keeper.{IsPrepared}
use Rattle.sm_archive.proofs.Lists.{all_zip_len}
use Rattle.sm_archive.proofs.Logs.{sound_push, spell_push}
use Rattle.sm_archive.proofs.Doubts.{store_here}
use Rattle.sm_archive.proofs.Indexes.{can_take, index_taken}
use Rattle.sm_archive.proofs.Settling.{archive}
use Rattle.sm_seglog.proofs.Standing.{sure_of}
use Rattle.sm_seglog.specs.Segments.{count_of}

pub no_channel : (f : Fragment) → verdict_on [] f ≡ NotDeclared
no_channel f = refl

pub never_new : (f : Fragment) → verdict_on [] f ≡ New → ⊥
never_new f e = let n = no_channel f in cc

-- an archive that stands for a log without a doubt has none
undoubted : (d : Option Doubt) (index : Option Index) (v : Segments) (log : List Entry) (body : Option (List ℕ)) → Doubted d index v log body None → (d ≡ None) × (body ≡ None)
undoubted None index v log None h = (refl, refl)
undoubted None index v log (Some b) h = absurd h
undoubted (Some x) index v log None h = absurd h
undoubted (Some x) index v log (Some b) h = absurd h

pub index_some : (index : Option Index) (log : List Entry) (f : Fragment) → IndexIs index log → verdict_on log f ≡ New → (i : Index) × (index ≡ Some i) × IsIndex i log
index_some None log f is new = absurd (never_new f (subst (λ (l : List Entry). verdict_on l f ≡ New) is new))
index_some (Some i) log f is new = (i, refl, is)

pub index_has : (a : Archive) (i : Index) → a.index ≡ Some i → HasChannel a i.catalog.channel
index_has a i is = record { index = i; is = inl is; channel_is = refl }

pending_keep : (index : Option Index) (a : Address) (m : Meta) (check : ℕ) (log : List Entry) (f : Fragment) → IndexIs index log → verdict_on log f ≡ New → a ≡ address_of f
    → ((i : Index) → index ≡ Some i → IsMetaOf i.catalog.channel f m) → ((i : Index) → index ≡ Some i → HasSpace i 1 a.stream) → IsPending (pending.Keep a m check) index log (Keep f)
pending_keep None a m check log f is new a_is m_is space = absurd (never_new f (subst (λ (l : List Entry). verdict_on l f ≡ New) is new))
pending_keep (Some i) a m check log f is new a_is m_is space = (a_is, m_is i refl, space i refl)

module _ (a : Archive) (p : Pending) (body : List ℕ) (log : List Entry) (e : Entry) (old : Image → Type 0) (s : Stands a log None old) (can : CanAppend a p body log e) where
  pub can_be_taken : CanTake a.index p
  can_be_taken = can_take a.index p log e s.keeps.index can.fits can.pends

  pub seg_stands : seg.Stands a.log s.bodies None old
  seg_stands = let u = undoubted a.doubt a.index a.log log s.body s.keeps.doubted in subst (λ (b : Option (List ℕ)). seg.Stands a.log s.bodies b old) u.1 s.stands

  pub log_sure : a.log.last.doubt ≡ None
  log_sure = sure_of a.log s.bodies old seg_stands

  -- at each moment the log, or the log and the entry
  pub image_within : (c : Image) → HasStore s.bodies c ⊎ HasStore (s.bodies ++ body ∷ []) c → (after : List Entry) × IsStore after c × ((after ≡ log) ⊎ (after ≡ log ++ e ∷ []))
  image_within c (inl has) = (log, store_here log s.bodies c s.keeps.sound s.keeps.spell has, inl refl)
  image_within c (inr has) =
      (log ++ e ∷ [], store_here (log ++ e ∷ []) (s.bodies ++ body ∷ []) c (sound_push log e s.keeps.sound can.fits can.few) (spell_push s.bodies log body e s.keeps.spell can.spelled) has, inr refl)

  pub appended : (v : Segments) (used : ℕ) (index : Option Index) (place : ℕ) (now : Image → Type 0) → place ≡ (count_of a.log)
      → ((bodies : List (List ℕ)) → seg.Stands a.log bodies None old → seg.Stands v (bodies ++ body ∷ []) None now)
      → used ≡ a.used + (5 + length body) → Taken a.index p place index → (place ≡ length log) × Stands (archive a v used index a.doubt) (log ++ e ∷ []) None now
  appended v used index place now place_is so used_is taken =
      let k = s.keeps in
      let len : length log ≡ length s.bodies = all_zip_len (IsBody (channel_of log)) log s.bodies k.spell in
      let at : place ≡ length log = omega (arith, place_is, len, s.stands.count, k.sound.few) in
      let u = undoubted a.doubt a.index a.log log s.body k.doubted in
      let push = sum_by_push (λ (b : List ℕ). 5 + length b) s.bodies body in
      let made : Stands (archive a v used index None) (log ++ e ∷ []) None now = record {
        bodies = s.bodies ++ body ∷ [];
        body = None;
        stands = so s.bodies seg_stands;
        keeps = record {
          count = (so s.bodies seg_stands).count;
          spell = spell_push s.bodies log body e k.spell can.spelled;
          sound = sound_push log e k.sound can.fits can.few;
          index = index_taken a.index p log e place index k.index can.pends at taken;
          used = omega (arith, push, k.used, used_is, can.bytes, k.low);
          few = k.few;
          low = k.low;
          doubted = tt;
        };
      } in
      (at, subst (λ (d : Option Doubt). Stands (archive a v used index d) (log ++ e ∷ []) None now) (sym u.0) made)

  unused : (v : Segments) (d : Option Doubt) → seg.Stays a.log v → IsUnused a (archive a v a.used a.index d)
  unused v d stay = record { limits = refl; used = refl; index = refl; files = stay.fits }

  pub not_appended : (acted : Type 0) (v : Segments) (now : Image → Type 0) → seg.Stays a.log v → ((bodies : List (List ℕ)) → seg.Stands a.log bodies None old → seg.Stands v bodies None now)
      → IsUnused a (archive a v a.used a.index a.doubt) × (Stands (archive a v a.used a.index a.doubt) log None now ⊎ (acted × Stands (archive a v a.used a.index a.doubt) log (Some e) now))
  not_appended acted v now stay so =
      let k = s.keeps in
      let u = undoubted a.doubt a.index a.log log s.body k.doubted in
      let made : Stands (archive a v a.used a.index None) log None now = record {
        bodies = s.bodies;
        body = None;
        stands = so s.bodies seg_stands;
        keeps = record { count = (so s.bodies seg_stands).count; spell = k.spell; sound = k.sound; index = k.index; used = k.used; few = k.few; low = k.low; doubted = tt };
      } in
      (unused v a.doubt stay, inl (subst (λ (d : Option Doubt). Stands (archive a v a.used a.index d) log None now) (sym u.0) made))

  pub doubted : (acted : Type 0) → acted → (v : Segments) (bytes : ℕ) (now : Image → Type 0) → bytes ≡ 5 + length body → seg.Stays a.log v
      → ((bodies : List (List ℕ)) → seg.Stands a.log bodies None old → seg.Stands v bodies (Some body) now)
      → IsUnused a (archive a v a.used a.index (Some (record { entry = p; bytes = bytes }))) × (Stands (archive a v a.used a.index (Some (record { entry = p; bytes = bytes }))) log None now
      ⊎ (acted × Stands (archive a v a.used a.index (Some (record { entry = p; bytes = bytes }))) log (Some e) now))
  doubted acted did v bytes now bytes_is stay so =
      let k = s.keeps in
      let d : Doubt = record { entry = p; bytes = bytes } in (
        unused v (Some d) stay,
        inr (
          did,
          record {
            bodies = s.bodies;
            body = Some body;
            stands = so s.bodies seg_stands;
            keeps = record {
              count = (so s.bodies seg_stands).count;
              spell = k.spell;
              sound = k.sound;
              index = k.index;
              used = k.used;
              few = k.few;
              low = k.low;
              doubted = record { fits = can.fits; few = can.few; spelled = can.spelled; bytes = bytes_is; spare = stay.spare; pends = can.pends };
            };
          },
        ),
      )

-- ---- a fragment

module _ (a : Archive) (r : Ready) (f : Fragment) (log : List Entry) (old : Image → Type 0) (s : Stands a log None old) (p : IsPrepared 1 a r f) (valid : IsValid f) (new : verdict_on log f ≡ New) (within : IsWithin a log f) where
  spelled : IsBody (channel_of (log ++ Keep f ∷ [])) (Keep f) r.body
  spelled =
      let i = index_some a.index log f s.keeps.index new in
      let channel : channel_of (log ++ Keep f ∷ []) ≡ Some i.0.catalog.channel = ap (λ (l : List Entry). channel_of (l ++ Keep f ∷ [])) i.2.log_is in
      subst (λ (c : Option (List Track)). IsBody c (Keep f) r.body) (sym channel) (p.ready.body i.0.catalog.channel (index_has a i.0 i.1))

  pub can_append : CanAppend a (pending.Keep r.address r.meta r.check) r.body log (Keep f)
  can_append = record {
    fits = (valid, new);
    few = omega (arith, within.entries, s.keeps.few);
    spelled = spelled;
    pends = pending_keep a.index r.address r.meta r.check log f s.keeps.index new p.ready.address (λ i is. p.ready.meta i.catalog.channel (index_has a i is)) p.space.index;
    some = omega (arith, p.ready.len);
    short = omega (arith, p.ready.short);
    room = p.ready.room;
    spare = p.spare;
    bytes = omega (arith, p.ready.len, within.bytes);
    files = subst (λ (n : ℕ). Fits a.log n) (sym p.ready.len) within.files;
  }

  pub still_within : (b : Archive) → IsUnused a b → IsWithin b log f
  still_within b u = record {
    bytes = subst (λ (l : Limits). b.used + (5 + body_len (Keep f)) ≤ l.store_bytes) (sym u.limits) (subst (λ (n : ℕ). n + (5 + body_len (Keep f)) ≤ a.limits.store_bytes) (sym u.used) within.bytes);
    entries = subst (λ (l : Limits). length log + 1 ≤ l.entries) (sym u.limits) within.entries;
    times = subst (λ (l : Limits). (has_time log f ≡ true) ⊎ (length (times_of f.stream (adds_of log)) < l.times)) (sym u.limits) within.times;
    files = u.files (body_len (Keep f)) within.files;
  }

  -- and it was so where it was appended
  pub within_now : (b : Archive) → b.limits ≡ a.limits → b.used ≡ a.used + (5 + length r.body) → EndsWithin b.log → IsWithinNow b log f
  within_now b limits used ends = record {
    bytes = subst (λ (l : Limits). b.used ≤ l.store_bytes) (sym limits) (omega (arith, used, p.ready.len, within.bytes));
    entries = subst (λ (l : Limits). length log + 1 ≤ l.entries) (sym limits) within.entries;
    times = subst (λ (l : Limits). (has_time log f ≡ true) ⊎ (length (times_of f.stream (adds_of log)) < l.times)) (sym limits) within.times;
    files = ends;
  }

pub judged_without : (index : Option Index) (log : List Entry) (f : Fragment) → index ≡ None → IndexIs index log → NotDeclared ≡ verdict_on log f
judged_without None log f e is = sym (ap (λ (l : List Entry). verdict_on l f) is ∙ no_channel f)
judged_without (Some i) log f e is = absurd cc

pub log_len : (a : Archive) (log : List Entry) (doubt : Option Entry) (outcomes : Image → Type 0) → Stands a log doubt outcomes → (count_of a.log) ≡ length log
log_len a log doubt outcomes s = omega (arith, s.stands.count, all_zip_len (IsBody (channel_of log)) log s.bodies s.keeps.spell, s.keeps.sound.few)

pub same_place : (a b : ℕ) → (let found : ℕ → Option ℕ = λ n. Some n in found a ≡ found b) → {n : ℕ} → a ≡ n → b ≡ n
same_place a b e h = let same : a ≡ b = cc in sym same ∙ h
