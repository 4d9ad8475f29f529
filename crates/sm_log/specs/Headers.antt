-- The tracks of a header against those of a channel.
use Rattle.std.specs.Prelude.{◌==◌, ◌&&◌, not, ℕ, Bool, true, false, List, Option, Some, None, is_none}
use Rattle.std.specs.List.{position}
use Rattle.sm_model.specs.declared.track.Track.{Track}
use Rattle.sm_model.specs.declared.track.Params.{Params}
use Rattle.sm_model.specs.Same.{is_same}
use Rattle.sm_model.specs.Kinds.{are_one_kind}
use Rattle.sm_log.specs.declared.verdict.Checked.{Checked}
use Rattle.sm_log.specs.declared.verdict.Checked.TheVariants as checked
use Rattle.sm_log.specs.Adds.{track_at}

abbrev pub are_same_numbers : Option ℕ → Option ℕ → Bool
are_same_numbers None None = true
are_same_numbers None (Some b) = false
are_same_numbers (Some a) None = false
are_same_numbers (Some a) (Some b) = a == b

abbrev pub are_same_params : Params → Params → Bool
are_same_params a b =
    are_same_numbers a.width b.width && (are_same_numbers a.height b.height &&
    (are_same_numbers a.tag b.tag && (are_same_numbers a.channels b.channels &&
    (are_same_numbers a.rate b.rate && (are_same_numbers a.bits b.bits && are_same_numbers a.packet b.packet)))))

-- whether all but name and bitrate are equal
abbrev pub is_same_track : Track → Track → Bool
is_same_track a b =
    are_one_kind a.kind b.kind && (a.timescale == b.timescale && (is_same a.fourcc b.fourcc && (is_same a.private b.private && are_same_params a.numbers b.numbers)))

abbrev pub differs : Track → Option Track → Bool
differs t None = true
differs t (Some declared) = not (is_same_track declared t)

abbrev pub checked_by : Option ℕ → Option ℕ → Checked
checked_by (Some index) clash = checked.NotDeclared index
checked_by None (Some index) = checked.Clash index
checked_by None None = checked.Agreed

-- the first track that the channel lacks, else the first that differs from the channel's
abbrev pub check : List Track → List Track → Checked
check channel header =
    checked_by (position (λ t. is_none (track_at t.name t.bitrate channel)) header) (position (λ t. differs t (track_at t.name t.bitrate channel)) header)
