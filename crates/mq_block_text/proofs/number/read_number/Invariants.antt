use Rattle.std.proofs.Common.{◌≡◌, ◌<◌, ◌^◌, take}
use Rattle.std.specs.Str.Parse.{digits_value}
use Rattle.mq_block_text.proofs.number.read_number.Given as goal

-- the number is that of the digits so far
abbrev pub invariant-loop-digit : goal.invariant-loop-digit
invariant-loop-digit l = record {
  small : l.number < 2 ^ 64;
  value : l.number ≡ digits_value 10 (take l.digit-index l.text);
}
