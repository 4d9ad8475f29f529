use Rattle.std.proofs.Common.{◌≡◌, map, take}
use Rattle.httparse.specs.Spans.{header_bytes}
use Rattle.sm_head.specs.Fields as spec
use Rattle.sm_head.proofs.fields.has_value.Given as goal

abbrev pub invariant-loop-field : goal.invariant-loop-field
invariant-loop-field l = l.found ≡ spec.has_value l.name l.text (map (header_bytes l.bytes) (take l.field-index l.fields))
