-- A relay of an origin that keeps a log.
use Rattle.std.specs.Prelude.{◌≡◌, ◌<◌, ℕ, List, All, Contains}
use Rattle.std.specs.List.{AllByRecursion}
use Rattle.sm_model.specs.declared.entry.Entry.{Entry}
use Rattle.sm_model.specs.declared.track.Track.{Track}
use Rattle.sm_model.specs.Channels.{IsNarrowTrack}
use Rattle.sm_site.specs.Image.{Image}
use Rattle.sm_archive.specs.Store.{IsStore}
use Rattle.sm_fetch.specs.declared.dial.Exchange.{Exchange}
use Rattle.sm_fetch.specs.declared.place.Place.{Place}
use Rattle.sm_client.specs.Served.{IsPlace, AnsweredBy}
use Rattle.sm_pull.specs.Below.{Below}
use Rattle.sm_relay.specs.declared.report.RelayEnd.{RelayEnd}
use Rattle.sm_relay.specs.declared.report.RelayEnd.TheVariants as ends

-- an origin with this channel, whose names are bytes, answers these exchanges, with this log before them, and this one behind
pub record Serves (place : Place) (channel : List Track) (first last : List Entry) (xs : List Exchange) : Type 0 where
  pub place_is : IsPlace place
  pub tracks : All IsNarrowTrack channel
  pub names : AllByRecursion (λ t. All (λ b. b < 256) t.name) channel
  pub answered : AnsweredBy channel first xs last

-- the origin's channel has the track, with its timescale
pub record IsOffered (channel : List Track) (t : Track) : Type 0 where
  pub track : Track
  pub there : Contains channel track
  pub name : track.name ≡ t.name
  pub bitrate : track.bitrate ≡ t.bitrate
  pub timescale : track.timescale ≡ t.timescale

-- at a moment a crash leaves a store whose Keeps the other log keeps
abbrev pub LeavesBelow : List Entry → ℕ → Image → Type 0
LeavesBelow up t c = (after : List Entry) × IsStore after c × Below after up

-- not for what the origin answers
abbrev pub EndsWell : RelayEnd → Type 0
EndsWell ends.Done = Unit {0}
EndsWell (ends.NoManifest outcomes) = ⊥
EndsWell (ends.NoTrack index) = ⊥
EndsWell (ends.GaveUp address outcomes) = ⊥
EndsWell (ends.Refused address cause) = ⊥
EndsWell ends.Full = Unit {0}
EndsWell ends.DiskFault = Unit {0}
EndsWell ends.NoMemory = Unit {0}
