-- Logs of real entries.
use Rattle.std.proofs.Common.{◌≡◌, inl, inr, ℕ, suc, Bool, true, false, if◌then◌else◌, List, [], ◌∷◌, ◌++◌, Option, Some, None, subst}
use Rattle.std.specs.Prelude.{All}
use Rattle.std.specs.List.{AllByRecursion, AllZip}
use Rattle.std.proofs.lemmas.List.Elements.{All-from_recursion}
use Rattle.sm_model.specs.declared.address.Address.{Address}
use Rattle.sm_model.specs.declared.entry.Entry.{Entry}
use Rattle.sm_model.specs.declared.entry.Entry.TheVariants.{Declare, Keep}
use Rattle.sm_model.specs.declared.fragment.Fragment.{Fragment}
use Rattle.sm_model.specs.declared.track.Track.{Track}
use Rattle.sm_model.specs.Fragments.{IsNarrow}
use Rattle.sm_log.specs.Logs.{channel_of, is_kept_at, kept_from, kept_at, IsSound}
use Rattle.sm_record.specs.Bodies.{FitsTrack, HasFields, IsBody}
use Rattle.sm_manout.specs.Shown.{IsWritable}
use Rattle.sm_origin.specs.Shown.{FitsFields, IsReal}

each_front : (log more : List Entry) → AllByRecursion FitsFields (log ++ more) → AllByRecursion FitsFields log
each_front [] more each = tt
each_front (e ∷ log) more each = (each.0, each_front log more each.1)

pub real_front : ((log more : List Entry) → IsSound (log ++ more) → IsSound log) → (log more : List Entry) → IsReal (log ++ more) → IsReal log
real_front front log more real = record { sound = front log more real.sound; each = each_front log more real.each }

-- the channel and the fragments of such a log
pub channel_writable : (log : List Entry) (channel : List Track) → AllByRecursion FitsFields log → channel_of log ≡ Some channel → All IsWritable channel
channel_writable [] channel each is = absurd (cc)
channel_writable (Declare tracks ∷ log) channel each is = let same : tracks ≡ channel = cc in subst (λ (ts : List Track). All IsWritable ts) same each.0
channel_writable (Keep f ∷ log) channel each is = absurd (cc)

kept_narrow : (place : ℕ) (log : List Entry) (a : Address) (k : ℕ × Fragment) → AllByRecursion FitsFields log → kept_from a place log ≡ Some k → All IsNarrow k.1.samples
kept_narrow place [] a k each is = absurd (cc)
kept_narrow place (Declare tracks ∷ log) a k each is = kept_narrow (suc place) log a k each.1 is
kept_narrow place (Keep f ∷ log) a k each is = go (is_kept_at a f) (kept_narrow (suc place) log a k each.1) is
  where
    go : (b : Bool) → (kept_from a (suc place) log ≡ Some k → All IsNarrow k.1.samples) → (if b then Some (place, f) else kept_from a (suc place) log) ≡ Some k → All IsNarrow k.1.samples
    go true rest e = let same : (let p : ℕ × Fragment = (place, f) in p) ≡ k = cc in subst (λ (p : ℕ × Fragment). All IsNarrow p.1.samples) same each.0
    go false rest e = rest e

pub kept_samples : (log : List Entry) (a : Address) (place : ℕ) (f : Fragment) → AllByRecursion FitsFields log → kept_at log a ≡ Some (place, f) → All IsNarrow f.samples
kept_samples log a place f each is = kept_narrow 0 log a (place, f) each is

-- ---- the log of a store

track_writable : (t : Track) → FitsTrack t → IsWritable t
track_writable t fits = record { name = fits.name; bitrate = fits.bitrate; timescale = fits.timescale; numbers = fits.numbers }

tracks_writable : (ts : List Track) → AllByRecursion FitsTrack ts → AllByRecursion IsWritable ts
tracks_writable [] fits = tt
tracks_writable (t ∷ ts) fits = (track_writable t fits.0, tracks_writable ts fits.1)

fields_fit : (channel : Option (List Track)) (e : Entry) (fields : List ℕ) → HasFields channel e fields → FitsFields e
fields_fit channel (Declare tracks) fields has = All-from_recursion IsWritable tracks (tracks_writable tracks has.each)
fields_fit (Some channel) (Keep f) fields has = All-from_recursion IsNarrow f.samples has.each
fields_fit None (Keep f) fields has = absurd has

body_fits : (channel : Option (List Track)) (e : Entry) (body : List ℕ) → IsBody channel e body → FitsFields e
body_fits channel e body (inl plain) = fields_fit channel e plain.fields plain.has
body_fits channel e body (inr sealed) = fields_fit channel e sealed.fields sealed.has

pub spelled_fit : (channel : Option (List Track)) (log : List Entry) (bodies : List (List ℕ)) → AllZip (IsBody channel) log bodies → AllByRecursion FitsFields log
spelled_fit channel [] [] spelled = tt
spelled_fit channel [] (body ∷ bodies) spelled = tt
spelled_fit channel (e ∷ log) [] spelled = absurd spelled
spelled_fit channel (e ∷ log) (body ∷ bodies) spelled = (body_fits channel e body spelled.0, spelled_fit channel log bodies spelled.1)
