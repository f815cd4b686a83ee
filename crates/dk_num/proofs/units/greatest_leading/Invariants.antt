use Rattle.std.proofs.Common.{◌≡◌, drop}
use Rattle.dk_num.specs.Units.{greatest_leading, greater_of}
use Rattle.dk_num.proofs.units.greatest_leading.Given as goal

abbrev pub invariant-loop-number : goal.invariant-loop-number
invariant-loop-number l = greater_of l.greatest (greatest_leading (drop l.number-index l.numbers)) ≡ greatest_leading l.numbers
