use Rattle.std.proofs.Common.{◌≡◌, ◌+◌, ◌≤◌, take}
use Rattle.dk_num.specs.Reading.{IsSignificand, after_digits, value_of}
use Rattle.dk_num.proofs.mantissa.digits_behind.Given as goal

abbrev pub invariant-loop-digit : goal.invariant-loop-digit
invariant-loop-digit l = record {
  value : value_of l.all ≡ after_digits (value_of l.fn.number) (take l.digit-index l.digits);
  is : IsSignificand (value_of l.all) l.all;
  zeros : l.all.zeros ≤ l.fn.number.zeros + l.digit-index;
}
