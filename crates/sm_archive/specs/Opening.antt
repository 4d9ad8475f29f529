-- What a walk over the bodies has taken in, and where a store fails.
use Rattle.std.specs.Prelude.{◌≡◌, ◌⊎◌, ℕ, ◌+◌, ◌-◌, ◌<◌, ◌^◌, min, List, length, take, Option, None, Some, slice_get}
use Rattle.sm_model.specs.declared.entry.Entry.{Entry}
use Rattle.sm_log.specs.Logs.{channel_of, FitsBehind, IsSound}
use Rattle.sm_record.specs.Bodies.{IsBody}
use Rattle.sm_site.specs.Image.{Image}
use Rattle.sm_seglog.specs.Stores.{HasStore, slots_in, NotAStore as NoLog}
use Rattle.sm_seglog.specs.Segments.{Segments}
use Rattle.sm_seglog.specs.Standing as seg
use Rattle.sm_archive.specs.declared.index.Index.{Index}
use Rattle.sm_archive.specs.Store.{Spell}
use Rattle.sm_archive.specs.Stands.{IndexIs, used_by}
use Rattle.sm_gatelog.specs.declared.slot.Slot.{Slot}

-- no entry of this body may stand behind this log
abbrev pub IsMisfit : List Entry → List ℕ → Type 0
IsMisfit log body = (e : Entry) → IsBody (channel_of log) e body → FitsBehind log e → length log + 1 < 2 ^ 32 → ⊥

-- the bodies before this place are those of a sound log, and this one is of no entry that may stand behind it
pub record FailsAt (bodies : List (List ℕ)) (place : ℕ) : Type 0 where
  pub log : List Entry
  pub body : List ℕ
  pub before : Spell (take place bodies) log
  pub sound : IsSound log
  pub there : slice_get bodies place ≡ Some body
  pub fails : IsMisfit log body

-- the gate of the first body of the image that is of no entry which may stand there
pub record IsNoEntry (at : ℕ) (c : Image) : Type 0 where
  pub bodies : List (List ℕ)
  pub has : HasStore bodies c
  pub place : ℕ
  pub slot : Slot
  pub there : slice_get (slots_in has.parts) place ≡ Some slot
  pub at_is : at ≡ slot.gate
  pub fails : FailsAt bodies place

-- the image is no store, and this is the place: the log's own, or the gate of an entry
abbrev pub NotAStore : ℕ → Image → Type 0
NotAStore at c = NoLog at c ⊎ IsNoEntry at c

-- what was taken in of these bodies, which are a sound log's
pub record IsWalked (index : Option Index) (used : ℕ) (seen : List (List ℕ)) (log : List Entry) : Type 0 where
  pub spell : Spell seen log
  pub sound : IsSound log
  pub index_is : IndexIs index log
  pub used_is : used ≡ min (used_by seen) (2 ^ 64 - 1)

-- What was read up to a place. On a disk that tells its contents these are the log's bodies.
pub record IsRead (told : Type 0) (v : Segments) (outcomes : Image → Type 0) (index : Option Index) (used place : ℕ) : Type 0 where
  pub seen : List (List ℕ)
  pub log : List Entry
  pub count : length seen ≡ place
  pub walked : IsWalked index used seen log
  pub same : told → (bodies : List (List ℕ)) → seg.Stands v bodies None outcomes → seen ≡ take place bodies
