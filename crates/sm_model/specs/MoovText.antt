-- The bare moov of a channel: the boxes that a reader of headers wants, and nothing to play by (ISO/IEC 14496-12, 8.2.1
-- to 8.8.3). The tracks have the track_IDs 1, 2 and so on. What is not said is zero.
use Rattle.std.specs.Prelude.{◌+◌, ◌*◌, ℕ, List, [], ◌∷◌, ◌++◌, false, length, codes, replicate}
use Rattle.sm_model.specs.declared.track.Kind.{Kind}
use Rattle.sm_model.specs.declared.track.Kind.TheVariants.{Video, Audio, Text}
use Rattle.sm_model.specs.declared.track.Track.{Track}
use Rattle.sm_model.specs.declared.heads.TrackHead.{TrackHead}
use Rattle.sm_model.specs.Numbers.{number32}
use Rattle.sm_model.specs.FragText.{box}
use Rattle.sm_model.specs.Moov.{no_defaults}

unfoldable pub zeros : ℕ → List ℕ
zeros n = replicate n 0

-- the movie's header, which says nothing
unfoldable pub mvhd : List ℕ
mvhd = box 108 (codes "mvhd") (zeros 100)

-- flags 7: the track is enabled, in the movie and in the preview; two times; the track_ID
unfoldable pub tkhd : ℕ → List ℕ
tkhd id = box 92 (codes "tkhd") (number32 7 ++ (zeros 8 ++ (number32 id ++ zeros 68)))

-- two times; the timescale; a duration, language and quality
unfoldable pub mdhd : ℕ → List ℕ
mdhd ticks = box 32 (codes "mdhd") (number32 0 ++ (zeros 8 ++ (number32 ticks ++ zeros 8)))

abbrev pub sample_type : Kind → List ℕ
sample_type Video = codes "avc1"
sample_type Audio = codes "mp4a"
sample_type Text = codes "text"

-- six reserved bytes, and the first data reference
unfoldable pub entry : Kind → List ℕ
entry kind = box 16 (sample_type kind) (zeros 6 ++ (0 ∷ 1 ∷ []))

-- one entry
unfoldable pub stsd : Kind → List ℕ
stsd kind = box 32 (codes "stsd") (number32 0 ++ (number32 1 ++ entry kind))

unfoldable pub stbl : Kind → List ℕ
stbl kind = box 40 (codes "stbl") (stsd kind)

unfoldable pub minf : Kind → List ℕ
minf kind = box 48 (codes "minf") (stbl kind)

unfoldable pub mdia : Track → List ℕ
mdia t = box 88 (codes "mdia") (mdhd t.timescale ++ minf t.kind)

unfoldable pub bare_trak : ℕ → Track → List ℕ
bare_trak id t = box 188 (codes "trak") (tkhd id ++ mdia t)

-- what each track gives, one behind the other, with their track_IDs from this one on
unfoldable pub numbered : {A : Type 0} → (ℕ → Track → List A) → ℕ → List Track → List A
numbered f id [] = []
numbered f id (t ∷ ts) = f id t ++ numbered f (id + 1) ts

abbrev pub bare_traks : List Track → List ℕ
bare_traks ts = numbered bare_trak 1 ts

-- the first sample description, and zero defaults
unfoldable pub bare_trex : ℕ → List ℕ
bare_trex id = box 32 (codes "trex") (number32 0 ++ (number32 id ++ (number32 1 ++ zeros 12)))

abbrev pub bare_trexes : List Track → List ℕ
bare_trexes ts = numbered (λ id t. bare_trex id) 1 ts

unfoldable pub bare_mvex : List Track → List ℕ
bare_mvex ts = box (8 + 32 * length ts) (codes "mvex") (bare_trexes ts)

unfoldable pub moov_body : List Track → List ℕ
moov_body ts = mvhd ++ (bare_traks ts ++ bare_mvex ts)

unfoldable pub bare_moov : List Track → List ℕ
bare_moov ts = box (124 + 220 * length ts) (codes "moov") (moov_body ts)

-- what it says of its tracks
abbrev pub head : ℕ → Track → TrackHead
head id t = record { id = id; timescale = t.timescale; protected = false; defaults = no_defaults }

abbrev pub heads : List Track → List TrackHead
heads ts = numbered (λ id t. head id t ∷ []) 1 ts
