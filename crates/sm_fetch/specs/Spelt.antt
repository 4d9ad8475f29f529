-- What an answer spells to who asked. [MS-SSTR] 2.2.2, 2.2.4; ISO/IEC 14496-12, 8.8.
use Rattle.std.specs.Prelude.{◌≡◌, ◌≢◌, ◌⊎◌, ℕ, List, [], ◌++◌, true, codes, Ok, Err}
use Rattle.sm_model.specs.declared.fragment.Fragment.{Fragment}
use Rattle.sm_model.specs.declared.run.RawFragment.{RawFragment}
use Rattle.sm_model.specs.Boxes.{box_of, IsOneBox}
use Rattle.sm_model.specs.Found.{is_kind}
use Rattle.sm_model.specs.Frag.{frag}
use Rattle.sm_model.specs.Fragments.{IsValid}
use Rattle.sm_moof.specs.Shown.{no_defaults}
use Rattle.sm_manin.specs.ManifestRead.{IsManifest}
use Rattle.sm_fetch.specs.declared.dial.Answer.{Answer}
use Rattle.sm_fetch.specs.declared.dial.Answer.TheVariants as answers
use Rattle.sm_fetch.specs.declared.got.Got.{Got}
use Rattle.sm_fetch.specs.declared.got.Got.TheVariants as got
use Rattle.sm_fetch.specs.declared.push.Pushed.{Pushed}
use Rattle.sm_fetch.specs.declared.push.Pushed.TheVariants as pushed
use Rattle.sm_fetch.specs.Answered.{IsWholeReply, IsCutReply, IsNoReply}

-- ---- bodies

-- what is read, as a fragment of this stream and bitrate
abbrev pub given : List ℕ → ℕ → RawFragment → Fragment
given stream bitrate raw = record {
  stream = stream;
  bitrate = bitrate;
  time = raw.time;
  duration = raw.duration;
  signed = raw.signed;
  samples = raw.samples;
}

-- one `moof` and one `mdat`, which are a valid fragment of the time asked where no default holds
pub record IsFragmentAt (time : ℕ) (body : List ℕ) (raw : RawFragment) : Type 0 where
  pub moof : List ℕ
  pub mdat : List ℕ
  pub body_is : body ≡ moof ++ mdat
  pub moof_whole : IsOneBox moof
  pub moof_kind : is_kind (codes "moof") (box_of moof) ≡ true
  pub mdat_whole : IsOneBox mdat
  pub read : frag no_defaults moof mdat ≡ Ok raw
  pub valid : IsValid (given [] 0 raw)
  pub time_is : raw.time ≡ time

-- ---- answers that came

-- a reply with another status than 200
abbrev pub IsOther : List ℕ → ℕ → Type 0
IsOther bytes status = (at : ℕ) × (body : List ℕ) × IsWholeReply bytes status at body × (status ≢ 200)

abbrev pub SpellsListing : List ℕ → Got → Type 0
SpellsListing bytes (got.Manifest listing) = (at : ℕ) × (body : List ℕ) × IsWholeReply bytes 200 at body × IsManifest body (Ok listing)
SpellsListing bytes (got.Fragment raw) = ⊥
SpellsListing bytes (got.Status status) = IsOther bytes status
SpellsListing bytes got.Cut = IsCutReply bytes
SpellsListing bytes (got.Unreadable at) =
    IsNoReply bytes at ⊎ ((body : List ℕ) × IsWholeReply bytes 200 at body × ((wrong : ℕ) × IsManifest body (Err wrong)))
SpellsListing bytes got.Lost = ⊥
SpellsListing bytes got.NoMemory = Unit {0}

abbrev pub SpellsSamples : ℕ → List ℕ → Got → Type 0
SpellsSamples time bytes (got.Manifest listing) = ⊥
SpellsSamples time bytes (got.Fragment raw) = (at : ℕ) × (body : List ℕ) × IsWholeReply bytes 200 at body × IsFragmentAt time body raw
SpellsSamples time bytes (got.Status status) = IsOther bytes status
SpellsSamples time bytes got.Cut = IsCutReply bytes
SpellsSamples time bytes (got.Unreadable at) =
    IsNoReply bytes at ⊎ ((body : List ℕ) × IsWholeReply bytes 200 at body × ((raw : RawFragment) → IsFragmentAt time body raw → ⊥))
SpellsSamples time bytes got.Lost = ⊥
SpellsSamples time bytes got.NoMemory = Unit {0}

abbrev pub SpellsLine : List ℕ → Pushed → Type 0
SpellsLine bytes (pushed.Status status line) = (at : ℕ) × IsWholeReply bytes status at line
SpellsLine bytes pushed.Cut = IsCutReply bytes
SpellsLine bytes (pushed.Unreadable at) = IsNoReply bytes at
SpellsLine bytes pushed.Lost = ⊥
SpellsLine bytes pushed.NoMemory = Unit {0}

-- ---- answers

-- what the answer to a request for a manifest spells
abbrev pub SpellsManifest : Answer → Got → Type 0
SpellsManifest (answers.Bytes bytes) g = SpellsListing bytes g
SpellsManifest answers.Lost g = g ≡ got.Lost
SpellsManifest answers.NoMemory g = g ≡ got.NoMemory

-- what the answer to a request for a fragment of this time spells
abbrev pub SpellsFragment : ℕ → Answer → Got → Type 0
SpellsFragment time (answers.Bytes bytes) g = SpellsSamples time bytes g
SpellsFragment time answers.Lost g = g ≡ got.Lost
SpellsFragment time answers.NoMemory g = g ≡ got.NoMemory

-- what the answer to a push spells
abbrev pub SpellsPush : Answer → Pushed → Type 0
SpellsPush (answers.Bytes bytes) p = SpellsLine bytes p
SpellsPush answers.Lost p = p ≡ pushed.Lost
SpellsPush answers.NoMemory p = p ≡ pushed.NoMemory
