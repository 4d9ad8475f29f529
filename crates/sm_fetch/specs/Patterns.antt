-- The address of a fragment out of the Url of a manifest. [MS-SSTR] 2.2.2.3, 2.2.3.
use Rattle.std.specs.Prelude.{◌≡◌, ◌⊎◌, ◌==◌, false, codes, ℕ, ◌-◌, List, [], ◌∷◌, ◌++◌, decimal, nat_lt, if◌then◌else◌}
use Rattle.std.specs.List.{list_any}
use Rattle.sm_addr.specs.Written.{escaped, is_plain}
use Rattle.sm_manin.specs.Patterns.{is_bitrate_field, is_start_field}

-- The Url with its two fields replaced, `{bitrate}` and `{start time}`, in either of their spellings. So many bytes in front, the
-- rest of a field, are passed over.
abbrev pub filled_behind : ℕ → ℕ → ℕ → List ℕ → List ℕ
filled_behind skip bitrate time [] = []
filled_behind skip bitrate time (c ∷ cs) =
    if nat_lt 0 skip then filled_behind (skip - 1) bitrate time cs
    else if is_bitrate_field (c ∷ cs) then decimal bitrate ++ filled_behind 8 bitrate time cs
    else if is_start_field (c ∷ cs) then decimal time ++ filled_behind 11 bitrate time cs
    else c ∷ filled_behind 0 bitrate time cs

abbrev pub filled : ℕ → ℕ → List ℕ → List ℕ
filled bitrate time url = filled_behind 0 bitrate time url

-- ---- what a Url is made of

-- no byte is `{`
abbrev pub HasNoBrace : List ℕ → Type 0
HasNoBrace bytes = list_any (λ c. c == 123) bytes ≡ false

abbrev pub IsBitrateField : List ℕ → Type 0
IsBitrateField field = (field ≡ codes "{bitrate}") ⊎ (field ≡ codes "{Bitrate}")

abbrev pub IsStartField : List ℕ → Type 0
IsStartField field = (field ≡ codes "{start time}") ⊎ (field ≡ codes "{start_time}")

-- the Url of a stream whose fragments are named as a client names them
abbrev pub written_url : List ℕ → List ℕ
written_url stream = codes "QualityLevels({bitrate})/Fragments(" ++ (escaped is_plain stream ++ codes "={start time})")
