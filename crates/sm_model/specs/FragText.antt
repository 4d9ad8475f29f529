-- The canonical text of a fragment, box by box (ISO/IEC 14496-12, 8.8; [MS-SSTR] 2.2.4.4 and 2.2.4.5).
use Rattle.std.specs.Prelude.{◌+◌, ◌*◌, ℕ, Bool, List, [], ◌∷◌, ◌++◌, length, codes, if◌then◌else◌}
use Rattle.std.specs.List.{flat_map}
use Rattle.sm_model.specs.declared.sample.Sample.{Sample}
use Rattle.sm_model.specs.declared.fragment.Fragment.{Fragment}
use Rattle.sm_model.specs.Numbers.{number32, number64}
use Rattle.sm_model.specs.Fragments.{sample_bytes}

-- a size, a kind, a body
abbrev pub box : ℕ → List ℕ → List ℕ → List ℕ
box size kind body = number32 size ++ (kind ++ body)

abbrev pub mfhd : ℕ → List ℕ
mfhd seq = box 16 (codes "mfhd") (number32 0 ++ number32 seq)

abbrev pub tfhd : ℕ → List ℕ
tfhd id = box 16 (codes "tfhd") (number32 0 ++ number32 id)

-- duration, size, flags, offset
abbrev pub row_text : Sample → List ℕ
row_text s = number32 s.duration ++ (number32 (length s.bytes) ++ (number32 s.flags ++ number32 s.offset))

-- version 1 where the offsets are signed, and flags 0x000f01
abbrev pub run_word : Bool → ℕ
run_word signed = if signed then 0x01000f01 else 0x00000f01

-- what the box of the pairs ahead takes
abbrev pub ahead_len : List (ℕ × ℕ) → ℕ
ahead_len [] = 0
ahead_len (p ∷ ps) = 29 + 16 * length (p ∷ ps)

abbrev pub moof_len : List Sample → List (ℕ × ℕ) → ℕ
moof_len samples ahead = 112 + 16 * length samples + ahead_len ahead

-- the samples begin `start` bytes behind the first byte of the moof
abbrev pub trun : ℕ → Bool → List Sample → List ℕ
trun start signed samples =
    box (20 + 16 * length samples) (codes "trun")
    (number32 (run_word signed) ++ (number32 (length samples) ++ (number32 start ++ flat_map row_text samples)))

-- 6d1d9b05-42d5-44e6-80e2-141daff757b2
abbrev pub tfxd_type : List ℕ
tfxd_type = 0x6d ∷ 0x1d ∷ 0x9b ∷ 0x05 ∷ 0x42 ∷ 0xd5 ∷ 0x44 ∷ 0xe6 ∷ 0x80 ∷ 0xe2 ∷ 0x14 ∷ 0x1d ∷ 0xaf ∷ 0xf7 ∷ 0x57 ∷ 0xb2 ∷ []

-- d4807ef2-ca39-4695-8e54-26cb9e46a79f
abbrev pub tfrf_type : List ℕ
tfrf_type = 0xd4 ∷ 0x80 ∷ 0x7e ∷ 0xf2 ∷ 0xca ∷ 0x39 ∷ 0x46 ∷ 0x95 ∷ 0x8e ∷ 0x54 ∷ 0x26 ∷ 0xcb ∷ 0x9e ∷ 0x46 ∷ 0xa7 ∷ 0x9f ∷ []

-- a time and a duration
abbrev pub pair : ℕ × ℕ → List ℕ
pair p = number64 p.0 ++ number64 p.1

abbrev pub tfxd_box : ℕ → ℕ → List ℕ
tfxd_box time duration = box 44 (codes "uuid") (tfxd_type ++ (number32 0x01000000 ++ pair (time, duration)))

abbrev pub tfrf_box : List (ℕ × ℕ) → List ℕ
tfrf_box ps =
    box (29 + 16 * length ps) (codes "uuid")
    (tfrf_type ++ (number32 0x01000000 ++ (length ps ∷ flat_map pair ps)))

-- left out where there are no pairs
abbrev pub tfrf : List (ℕ × ℕ) → List ℕ
tfrf [] = []
tfrf (p ∷ ps) = tfrf_box (p ∷ ps)

abbrev pub traf_box : ℕ → ℕ → Fragment → List (ℕ × ℕ) → List ℕ
traf_box id start f ahead =
    box (88 + 16 * length f.samples + ahead_len ahead) (codes "traf")
    (tfhd id ++ (trun start f.signed f.samples ++ (tfxd_box f.time f.duration ++ tfrf ahead)))

abbrev pub moof : ℕ → ℕ → Fragment → List (ℕ × ℕ) → List ℕ
moof seq id f ahead =
    box (moof_len f.samples ahead) (codes "moof") (mfhd seq ++ traf_box id (moof_len f.samples ahead + 8) f ahead)

abbrev pub mdat : List Sample → List ℕ
mdat samples = box (8 + sample_bytes samples) (codes "mdat") (flat_map (λ s. s.bytes) samples)

abbrev pub frag_text : ℕ → ℕ → Fragment → List (ℕ × ℕ) → List ℕ
frag_text seq id f ahead = moof seq id f ahead ++ mdat f.samples
