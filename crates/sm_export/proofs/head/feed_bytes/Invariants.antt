use Rattle.std.proofs.Common.{◌≡◌, false, take, None}
use Rattle.sm_push.specs.Body.{body}
use Rattle.sm_push.specs.Standing.{Stands}
use Rattle.sm_export.specs.Heads.{header_given}
use Rattle.sm_export.proofs.head.feed_bytes.Given as goal

abbrev pub invariant-loop-at : goal.invariant-loop-at
invariant-loop-at l = record {
  stands : Stands false l.push (take l.at l.input);
  none : header_given (body false (take l.at l.input)).items ≡ None;
}
