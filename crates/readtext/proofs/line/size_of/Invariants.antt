-- All bytes are digits if those from the index on are, and the number of all is that of those after `size`, which is below 10 to the index.
use Rattle.std.proofs.Common.{◌≡◌, ◌<◌, ◌^◌, drop}
use Rattle.readtext.specs.Numbers.{all_digits, value_after}
use Rattle.readtext.proofs.line.size_of.Given as goal

abbrev pub invariant-loop-digit : goal.invariant-loop-digit
invariant-loop-digit l = record {
  small : l.size < 10 ^ l.digit-index;
  digits : all_digits l.digits ≡ all_digits (drop l.digit-index l.digits);
  value : value_after l.size (drop l.digit-index l.digits) ≡ value_after 0 l.digits;
}
