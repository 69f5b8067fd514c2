use Rattle.std.proofs.Common.{◌^◌, ◌<◌, take}
use Rattle.std.specs.Option.{SomeIff}
use Rattle.std.specs.Str.Parse.{AllDigits, digits_value}
use Rattle.st_num.proofs.numeral.read_digits.Given as goal

-- the bytes so far are digits, and their value is kept where it is in range
abbrev pub invariant-loop-byte : goal.invariant-loop-byte
invariant-loop-byte l = record {
  digits : AllDigits l.radix (take l.byte-index l.digits);
  value : SomeIff l.value (digits_value l.radix (take l.byte-index l.digits) < 2 ^ 128) (digits_value l.radix (take l.byte-index l.digits));
}
