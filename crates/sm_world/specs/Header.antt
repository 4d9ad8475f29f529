-- The header that the encoders of a rehearsal push: a file type, the live server manifest of three tracks, and a `moov` for them.
use Rattle.std.specs.Prelude.{ℕ, ◌+◌, List, [], ◌∷◌, ◌++◌, length, codes}
use Rattle.sm_model.specs.FragText.{box}
use Rattle.sm_model.specs.Numbers.{number32}
use Rattle.sm_model.specs.MoovText.{bare_moov}
use Rattle.sm_world.specs.Encoders.{channel}

-- ---- the live server manifest, as an encoder writes it

abbrev pub param : List ℕ → List ℕ → List ℕ
param name value = codes "        <param name=\"" ++ (name ++ (codes "\" value=\"" ++ (value ++ codes "\" valuetype=\"data\" />\n")))

abbrev pub opening : List ℕ → List ℕ → List ℕ
opening kind bitrate = codes "      <" ++ (kind ++ (codes " src=\"Streams\" systemBitrate=\"" ++ (bitrate ++ codes "\">\n")))

abbrev pub of_video : List ℕ → List ℕ → List ℕ → List ℕ → List ℕ
of_video id bitrate width height =
    opening (codes "video") bitrate
    ++ (param (codes "trackID") id
    ++ (param (codes "FourCC") (codes "H264")
    ++ (param (codes "CodecPrivateData") (codes "000000016742")
    ++ (param (codes "MaxWidth") width
    ++ (param (codes "MaxHeight") height
    ++ codes "      </video>\n")))))

abbrev pub of_audio : List ℕ → List ℕ → List ℕ
of_audio id bitrate =
    opening (codes "audio") bitrate
    ++ (param (codes "trackID") id
    ++ (param (codes "FourCC") (codes "AACL")
    ++ (param (codes "CodecPrivateData") (codes "1210")
    ++ (param (codes "AudioTag") (codes "255")
    ++ (param (codes "Channels") (codes "2")
    ++ (param (codes "SamplingRate") (codes "44100")
    ++ (param (codes "BitsPerSample") (codes "16")
    ++ (param (codes "PacketSize") (codes "4")
    ++ codes "      </audio>\n"))))))))

unfoldable pub manifest_text : List ℕ
manifest_text =
    codes "<?xml version=\"1.0\" encoding=\"utf-8\"?>\n"
    ++ (codes "<smil xmlns=\"http://www.w3.org/2001/SMIL20/Language\">\n"
    ++ (codes "  <head>\n    <meta name=\"creator\" content=\"encoder\" />\n  </head>\n"
    ++ (codes "  <body>\n    <switch>\n"
    ++ (of_video (codes "1") (codes "350000") (codes "640") (codes "360")
    ++ (of_video (codes "2") (codes "700000") (codes "1280") (codes "720")
    ++ (of_audio (codes "3") (codes "64000")
    ++ codes "    </switch>\n  </body>\n</smil>\n"))))))

-- ---- the boxes

abbrev pub file_type : List ℕ
file_type = box 20 (codes "ftyp") (codes "isml" ++ (number32 1 ++ codes "isml"))

-- the user type of the live server manifest box ([MS-SSTR] 2.2.7), its version and its flags
abbrev pub manifest_head : List ℕ
manifest_head =
    0xa5 ∷ 0xd4 ∷ 0x0b ∷ 0x30 ∷ 0xe8 ∷ 0x14 ∷ 0x11 ∷ 0xdd ∷ 0xba ∷ 0x2f ∷ 0x08 ∷ 0x00 ∷ 0x20 ∷ 0x0c ∷ 0x9a ∷ 0x66
    ∷ 0 ∷ 0 ∷ 0 ∷ 0 ∷ []

abbrev pub manifest_body : List ℕ
manifest_body = manifest_head ++ manifest_text

unfoldable pub header_text : List ℕ
header_text = file_type ++ (box (8 + length manifest_body) (codes "uuid") manifest_body ++ bare_moov channel)
