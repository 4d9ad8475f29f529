-- A tfxd and a tfrf that stand alone are read again as what was written.
use Rattle.std.proofs.Common.{◌≡◌, ◌≤◌, ◌+◌, ◌*◌, ℕ, List, ◌++◌, length, drop, Some, refl, ap, ◌∙◌, arith}
use Rattle.std.specs.Prelude.{codes}
use Rattle.std.specs.List.{flat_map, All}
use Rattle.std.proofs.lemmas.List.{take_all}
use Rattle.std.proofs.lemmas.Option.{get_or_from_slice_get, slice_get_within}
use Rattle.sm_model.specs.Boxes.{Box}
use Rattle.sm_model.specs.Fragments.{IsWide}
use Rattle.sm_model.specs.FragText.{pair, tfxd_type, tfrf_type}
use Rattle.sm_model.specs.FragText as text
use Rattle.sm_model.specs.Found.{is_user}
use Rattle.sm_model.specs.Fields.{tfxd}
use Rattle.sm_model.specs.Written.{IsUserBox, IsPairsBox}
use Rattle.sm_model.proofs.WrittenBoxes.{box_is, one_whole}
use Rattle.sm_model.proofs.WrittenFields.{time_body, time_fits, time_pair, ahead_body, ahead_head, ahead_is, ahead_fits, pair_again, pairs_again}
use Rattle.sm_model.proofs.WrittenTraf.{time_text, ahead_text}

pub tfxd_is : (time duration : ℕ) → IsUserBox (text.tfxd_box time duration) tfxd_type (time_body time duration)
tfxd_is time duration =
    let t = time_text time duration in
    let b = box_is 44 (codes "uuid") (tfxd_type ++ time_body time duration) t in
    record {
      one = one_whole 44 (codes "uuid") (tfxd_type ++ time_body time duration) t;
      user = ap (is_user tfxd_type) b;
      body_is = ap (λ (x : Box). drop 16 x.body) b;
    }

pub tfxd_read : (time duration : ℕ) → IsWide (time, duration) → tfxd (time_body time duration) ≡ Some (time, duration)
unfolding tfxd
tfxd_read time duration w = rw (time_fits time duration, time_pair time duration w) refl

pub tfrf_is : (ps : List (ℕ × ℕ)) → length ps ≤ 255 → IsUserBox (text.tfrf_box ps) tfrf_type (ahead_body ps)
tfrf_is ps le =
    let t = ahead_text ps le in
    let b = box_is (29 + 16 * length ps) (codes "uuid") (tfrf_type ++ ahead_body ps) t in
    record {
      one = one_whole (29 + 16 * length ps) (codes "uuid") (tfrf_type ++ ahead_body ps) t;
      user = ap (is_user tfrf_type) b;
      body_is = ap (λ (x : Box). drop 16 x.body) b;
    }

flat_read : (ps : List (ℕ × ℕ)) → All IsWide ps → IsPairsBox (ahead_head (length ps) ++ flat_map pair ps) ps
flat_read ps w = record {
  fits = ahead_fits ps;
  count = refl;
  pair = λ i p e. pair_again (length ps) ps i (0, 0) w (slice_get_within ps i p e) ∙ get_or_from_slice_get ps i p (0, 0) e;
  all = pairs_again (length ps) ps w (length ps) (omega arith) ∙ take_all (length ps) ps (omega arith);
}

pub tfrf_read : (ps : List (ℕ × ℕ)) → All IsWide ps → IsPairsBox (ahead_body ps) ps
tfrf_read ps w = rw (ahead_is ps) (flat_read ps w)
