use Rattle.std.proofs.Common.{◌≡◌, ◌<◌, ◌^◌, ℕ, take, get_or, true}
use Rattle.std.specs.Char.{is_ascii_digit}
use Rattle.std.specs.Str.Parse.{digits_value}
use Rattle.commit_objects.proofs.time.checked_number.Given as goal

abbrev pub invariant-loop-byte : goal.invariant-loop-byte
invariant-loop-byte l = record {
  number : l.number ≡ digits_value 10 (take l.byte-index l.bytes);
  fits : l.number < 2 ^ 64;
  digits : (k : ℕ) → k < l.byte-index → is_ascii_digit (get_or l.bytes k 0) ≡ true;
}
