use Rattle.std.proofs.Common.{◌≡◌, ◌<◌, ◌^◌, take, true}
use Rattle.std.specs.Str.Parse.{digits_value}
use Rattle.eris_words.specs.Decimal.{are_digits}
use Rattle.eris_words.proofs.number.number_of.Given as goal

abbrev pub invariant-loop-byte : goal.invariant-loop-byte
invariant-loop-byte l = record {
  value : l.number ≡ digits_value 10 (take l.byte-index l.digits);
  digits : are_digits (take l.byte-index l.digits) ≡ true;
  small : l.number < 2 ^ 64;
}
