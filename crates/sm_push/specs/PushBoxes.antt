-- What one whole box at the top of a push body gives, and leaves for later ones.
use Rattle.std.specs.Prelude.{ℕ, ◌+◌, ◌-◌, ◌^◌, min, List, length, drop, Option, Some, None, Result, Ok, Err, decimal}
use Rattle.sm_model.specs.declared.cause.Cause.{Cause}
use Rattle.sm_model.specs.declared.cause.Cause.TheVariants.{UnknownTrack}
use Rattle.sm_model.specs.declared.cause.Refusal.{Refusal}
use Rattle.sm_model.specs.declared.run.Run.{Run}
use Rattle.sm_model.specs.declared.run.RawFragment.{RawFragment}
use Rattle.sm_model.specs.declared.fragment.Fragment.{Fragment}
use Rattle.sm_model.specs.declared.header.Header.{Header}
use Rattle.sm_model.specs.declared.header.HeaderTrack.{HeaderTrack}
use Rattle.sm_push.specs.declared.state.HeaderStage.{HeaderStage}
use Rattle.sm_push.specs.declared.state.HeaderStage.TheVariants.{Gathering, Complete}
use Rattle.sm_push.specs.declared.state.PendingMoof.{PendingMoof}
use Rattle.sm_push.specs.declared.state.PushState.{PushState}
use Rattle.sm_push.specs.declared.state.TopBox.{TopBox}
use Rattle.sm_push.specs.declared.state.TopBox.TheVariants.{Moof, Mdat, Moov, Manifest, Other}
use Rattle.sm_model.specs.Boxes.{box_of}
use Rattle.sm_model.specs.Frag.{finish, moof_run}
use Rattle.sm_model.specs.Moov.{no_defaults}
use Rattle.sm_push.specs.Header.{header_of, track_with}
use Rattle.sm_model.specs.Items.{Given}
use Rattle.sm_model.specs.Items as items

-- a place so many bytes on; 2^64 - 1 stands for all above
abbrev pub past : ℕ → ℕ → ℕ
past at size = min (at + size) (2 ^ 64 - 1)

-- behind a box of this size
abbrev pub passed : PushState → ℕ → PushState
passed s size = record s { at = past s.at size }

abbrev pub staged : PushState → HeaderStage → ℕ → PushState
staged s stage size = record s { stage = stage; at = past s.at size }

abbrev pub awaiting : PushState → Option PendingMoof → ℕ → PushState
awaiting s moof size = record s { moof = moof; at = past s.at size }

-- a step: what the box gives and what it leaves, or a refusal
abbrev pub Step : Type 0
Step = Result (Option Given × PushState) Refusal

abbrev pub refuse : ℕ → Cause → Step
refuse at cause = Err (record { at = at; cause = cause })

-- ---- a moof and its mdat

-- The track of a track_ID. Where no header has come, as in a headerless push, track n has the stream name n in decimal and
-- the bitrate n.
abbrev pub track_in : HeaderStage → ℕ → Option HeaderTrack
track_in (Complete tracks) id = track_with id tracks
track_in (Gathering manifest moov) id = Some (record { id = id; stream = decimal id; bitrate = id; defaults = no_defaults })

-- what the moof of a track says, with the track's defaults, waits for the mdat
abbrev pub awaited : Result Run Cause → HeaderTrack → PushState → List ℕ → Step
awaited (Err cause) track s box = refuse s.at cause
awaited (Ok run) track s box = Ok (None, awaiting s (Some (record { run = run; size = length box; at = s.at; track = track })) (length box))

abbrev pub pending : Option HeaderTrack → PushState → List ℕ → Step
pending None s box = refuse s.at UnknownTrack
pending (Some track) s box = awaited (moof_run track.defaults box) track s box

-- what a moof shows by itself is refused at once, and then a track that the header doesn't name; no cause depends on defaults
abbrev pub moof_taken : Result Run Cause → PushState → List ℕ → Step
moof_taken (Err cause) s box = refuse s.at cause
moof_taken (Ok run) s box = pending (track_in s.stage run.id) s box

-- the fragment of a track
abbrev pub named : HeaderTrack → RawFragment → Fragment
named track raw = record {
  stream = track.stream;
  bitrate = track.bitrate;
  time = raw.time;
  duration = raw.duration;
  signed = raw.signed;
  samples = raw.samples;
}

-- the place of a refusal is that of the moof
abbrev pub fragment_taken : Result RawFragment Cause → PendingMoof → PushState → ℕ → Step
fragment_taken (Err cause) moof s size = refuse moof.at cause
fragment_taken (Ok raw) moof s size = Ok (Some (items.Frag raw.id (named moof.track raw)), awaiting s None size)

abbrev pub mdat_taken : Option PendingMoof → PushState → List ℕ → Step
mdat_taken None s box = Ok (None, passed s (length box))
mdat_taken (Some moof) s box = fragment_taken (finish moof.size box moof.run) moof s (length box)

-- ---- the header, at the later of its two boxes

abbrev pub header_taken : Result Header Cause → PushState → ℕ → Step
header_taken (Err cause) s size = refuse s.at cause
header_taken (Ok h) s size = Ok (Some (items.Header h.channel), staged s (Complete h.tracks) size)

-- the text of a live server manifest box: it stands behind the user type, and version and flags
abbrev pub manifest_text : List ℕ → List ℕ
manifest_text box = drop 20 (box_of box).body

abbrev pub moov_taken : HeaderStage → PushState → List ℕ → Step
moov_taken (Gathering (Some manifest) moov) s box = header_taken (header_of (manifest_text manifest) (box_of box).body) s (length box)
moov_taken (Gathering None moov) s box = Ok (None, staged s (Gathering None (Some box)) (length box))
moov_taken (Complete tracks) s box = Ok (None, passed s (length box))

abbrev pub manifest_taken : HeaderStage → PushState → List ℕ → Step
manifest_taken (Gathering manifest (Some moov)) s box = header_taken (header_of (manifest_text box) (box_of moov).body) s (length box)
manifest_taken (Gathering manifest None) s box = Ok (None, staged s (Gathering (Some box) None) (length box))
manifest_taken (Complete tracks) s box = Ok (None, passed s (length box))

-- ---- any box that is read

unfoldable pub taken : PushState → TopBox → List ℕ → Step
taken s Moof box = moof_taken (moof_run no_defaults box) s box
taken s Mdat box = mdat_taken s.moof s box
taken s Moov box = moov_taken s.stage s box
taken s Manifest box = manifest_taken s.stage s box
taken s Other box = Ok (None, passed s (length box))
