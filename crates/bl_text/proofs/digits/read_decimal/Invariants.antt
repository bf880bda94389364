use Rattle.std.proofs.Common.{◌≡◌, ◌≤◌, drop}
use Rattle.std.specs.List.{list_all}
use Rattle.std.specs.Char.{is_digit}
use Rattle.std.specs.Str.Parse.{digits_value, digits_value_after}
use Rattle.bl_text.proofs.digits.read_decimal.Given as goal

-- the number so far and the rest write the number
abbrev pub invariant-loop-byte : goal.invariant-loop-byte
invariant-loop-byte l = record {
  within : l.value ≤ l.max;
  digits : list_all (λ byte. is_digit byte 10) l.word ≡ list_all (λ byte. is_digit byte 10) (drop l.byte-index l.word);
  number : digits_value 10 l.word ≡ digits_value_after 10 l.value (drop l.byte-index l.word);
}
