-- How a target is written.
use Rattle.std.specs.Prelude.{ℕ, ◌<◌, ◌^◌, ◌≡◌, Bool, true, ◌||◌, ◌==◌, List, [], ◌∷◌, ◌++◌, codes, decimal, All, if◌then◌else◌}
use Rattle.std.specs.List.{flat_map}
use Rattle.std.specs.Char.{is_ascii_alphanumeric}
use Rattle.percent_encoding.specs.Percent.{percent_encode_byte}
use Rattle.sm_model.specs.declared.target.Target.{Target}
use Rattle.sm_model.specs.declared.target.Target.TheVariants.{Manifest, Fragment, Streams, Unknown}
use Rattle.sm_model.specs.Names.{is_name}
use Rattle.sm_addr.specs.Paths.{isml}

-- an ASCII letter or digit, `_`, `-` or `.`, which stands for itself in a name
abbrev pub is_plain : ℕ → Bool
is_plain b = is_ascii_alphanumeric b || b == 95 || b == 45 || b == 46

-- in a path also `/`
abbrev pub is_plain_in_path : ℕ → Bool
is_plain_in_path b = is_plain b || b == 47

-- every byte that isn't plain is escaped, with upper-case digits
abbrev pub escaped : (ℕ → Bool) → List ℕ → List ℕ
escaped plain bytes = flat_map (λ b. if plain b then b ∷ [] else percent_encode_byte b) bytes

-- `QualityLevels(B)/`
abbrev pub level_text : ℕ → List ℕ
level_text bitrate = codes "QualityLevels(" ++ decimal bitrate ++ codes ")/"

-- `Fragments(NAME=T)`
abbrev pub place_text : List ℕ → ℕ → List ℕ
place_text stream time = codes "Fragments(" ++ escaped is_plain stream ++ codes "=" ++ decimal time ++ codes ")"

-- what stands behind `.isml/`
abbrev pub form_text : Target → List ℕ
form_text Manifest = codes "Manifest"
form_text (Fragment a) = level_text a.bitrate ++ place_text a.stream a.time
form_text (Streams id) = codes "Streams(" ++ escaped is_plain id ++ codes ")"
form_text Unknown = []

-- the target of this path that names this
abbrev pub target_written : List ℕ → Target → List ℕ
target_written path target = codes "/" ++ escaped is_plain_in_path path ++ isml ++ form_text target

-- the numbers have 32 and 64 bits, the names are names, and something is named
abbrev pub IsNamed : Target → Type 0
IsNamed Manifest = Unit {0}
IsNamed (Fragment a) = (a.bitrate < 2 ^ 32) × (a.time < 2 ^ 64) × (is_name a.stream ≡ true) × All (λ b. b < 256) a.stream
IsNamed (Streams id) = (is_name id ≡ true) × All (λ b. b < 256) id
IsNamed Unknown = ⊥
