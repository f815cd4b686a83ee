use Rattle.std.proofs.Common.{◌≡◌, ◌^◌, take, min}
use Rattle.dk_num.specs.Numbers.{numeral_value}
use Rattle.dk_num.proofs.mantissa.bounded.Given as goal

abbrev pub invariant-loop-digit : goal.invariant-loop-digit
invariant-loop-digit l = l.number ≡ min (10 ^ 20) (numeral_value (take l.digit-index l.digits))
