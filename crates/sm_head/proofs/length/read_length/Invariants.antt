use Rattle.std.proofs.Common.{◌≡◌, ◌<◌, ◌^◌, take, true}
use Rattle.std.specs.List.{list_all}
use Rattle.std.specs.Char.{is_ascii_digit}
use Rattle.std.specs.Str.Parse.{digits_value}
use Rattle.sm_head.proofs.length.read_length.Given as goal

abbrev pub invariant-loop-byte : goal.invariant-loop-byte
invariant-loop-byte l = record {
  is : l.number ≡ digits_value 10 (take l.byte-index l.value);
  low : l.number < 10 ^ l.byte-index;
  digits : list_all is_ascii_digit (take l.byte-index l.value) ≡ true;
}
