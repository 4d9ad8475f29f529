-- What the values of attributes say: numbers and types.
use Rattle.std.specs.Prelude.{ℕ, List, Option, Some, None, if◌then◌else◌, codes}
use Rattle.sm_model.specs.declared.track.Kind.{Kind}
use Rattle.sm_model.specs.Digits.{number_of, wide_number_of}
use Rattle.sm_model.specs.Same.{is_same}
use Rattle.sm_model.specs.declared.track.Kind.TheVariants as kind

abbrev pub wide_in : Option (List ℕ) → Option ℕ
wide_in None = None
wide_in (Some text) = wide_number_of text

abbrev pub narrow_in : Option (List ℕ) → Option ℕ
narrow_in None = None
narrow_in (Some text) = number_of text

-- the number, or this one where it is absent
abbrev pub narrow_or : ℕ → Option (List ℕ) → Option ℕ
narrow_or n None = Some n
narrow_or n (Some text) = number_of text

unfoldable pub kind_of : List ℕ → Option Kind
kind_of b =
    if is_same b (codes "video") then Some kind.Video
    else if is_same b (codes "audio") then Some kind.Audio
    else if is_same b (codes "text") then Some kind.Text
    else None

abbrev pub kind_in_type : Option (List ℕ) → Option Kind
kind_in_type None = None
kind_in_type (Some text) = kind_of text
