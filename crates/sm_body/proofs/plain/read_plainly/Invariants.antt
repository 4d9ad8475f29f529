use Rattle.std.proofs.Common.{◌≡◌, take}
use Rattle.sm_body.specs.Places.{start, place_after, body_from}
use Rattle.sm_body.proofs.plain.read_plainly.Given as goal

abbrev pub invariant-loop-byte : goal.invariant-loop-byte
invariant-loop-byte l = record {
  place : l.place ≡ place_after (start l.fn.framing) (take l.byte-index l.text);
  body : l.body.items ≡ body_from (start l.fn.framing) (take l.byte-index l.text);
}
