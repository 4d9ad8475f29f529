-- What the encoders of a rehearsal push: one channel, and fragments of its three tracks.
use Rattle.std.specs.Prelude.{◌≡◌, ℕ, ◌+◌, ◌*◌, ◌%◌, ◌==◌, suc, zero, List, [], ◌∷◌, ◌++◌, replicate, slice_get, codes, Some, None, false, if◌then◌else◌}
use Rattle.sm_model.specs.declared.entry.Entry.{Entry}
use Rattle.sm_model.specs.declared.entry.Entry.TheVariants.{Declare, Keep}
use Rattle.sm_model.specs.declared.fragment.Fragment.{Fragment}
use Rattle.sm_model.specs.declared.track.Kind.TheVariants.{Video, Audio}
use Rattle.sm_model.specs.declared.track.Track.{Track}

-- ---- the channel

-- pictures of a quality; ticks are of ten million a second
abbrev pub video : ℕ → ℕ → ℕ → Track
video bitrate width height = record {
  kind = Video;
  name = codes "video";
  bitrate = bitrate;
  timescale = 10000000;
  fourcc = codes "H264";
  private = 0 ∷ 0 ∷ 0 ∷ 1 ∷ 103 ∷ 66 ∷ [];
  numbers = record { width = Some width; height = Some height; tag = None; channels = None; rate = None; bits = None; packet = None };
}

abbrev pub audio : Track
audio = record {
  kind = Audio;
  name = codes "audio";
  bitrate = 64000;
  timescale = 10000000;
  fourcc = codes "AACL";
  private = 18 ∷ 16 ∷ [];
  numbers = record { width = None; height = None; tag = Some 255; channels = Some 2; rate = Some 44100; bits = Some 16; packet = Some 4 };
}

abbrev pub channel : List Track
channel = video 350000 640 360 ∷ video 700000 1280 720 ∷ audio ∷ []

-- ---- fragments

-- the stream and the bitrate of the track with this track_ID
abbrev pub name_of : ℕ → List ℕ
name_of id = if id == 3 then codes "audio" else codes "video"

abbrev pub bitrate_of : ℕ → ℕ
bitrate_of id = if id == 1 then 350000 else if id == 2 then 700000 else 64000

-- one sample of these bytes, which lasts 20,000,000 ticks whatever the fragment does
abbrev pub fragment_of : ℕ → ℕ → ℕ → List ℕ → Fragment
fragment_of id time duration bytes = record {
  stream = name_of id;
  bitrate = bitrate_of id;
  time = time;
  duration = duration;
  signed = false;
  samples = (record { duration = 20000000; flags = 0; offset = 0; bytes = bytes }) ∷ [];
}

-- of encoder A, in round i, for the track with this track_ID
abbrev pub of_encoder_a : ℕ → ℕ → Fragment
of_encoder_a i id = fragment_of id (20000000 * i) 20000000 (replicate (1 + i % 64) ((i + id) % 256))

-- ---- the log

-- the fragments of encoder A in the first rounds, in order
abbrev pub keeps : ℕ → List Entry
keeps zero = []
keeps (suc i) = keeps i ++ Keep (of_encoder_a i 1) ∷ Keep (of_encoder_a i 2) ∷ Keep (of_encoder_a i 3) ∷ []

-- what a store keeps in the end: nothing, or the channel and all that encoder A pushed in so many rounds
abbrev pub log_of : ℕ → List Entry
log_of zero = []
log_of (suc i) = Declare channel ∷ keeps (suc i)

-- how many entries that is
abbrev pub entries_after : ℕ → ℕ
entries_after zero = 0
entries_after (suc i) = 1 + 3 * suc i

-- the entries of a round stand where they do in such a log
pub record KeepsRound (log : List Entry) (i : ℕ) : Type 0 where
  pub first : slice_get log (3 * i + 1) ≡ Some (Keep (of_encoder_a i 1))
  pub second : slice_get log (3 * i + 2) ≡ Some (Keep (of_encoder_a i 2))
  pub third : slice_get log (3 * i + 3) ≡ Some (Keep (of_encoder_a i 3))
