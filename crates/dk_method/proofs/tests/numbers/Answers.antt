use Rattle.std.proofs.Common.{negsuc}
use Rattle.dk_method.proofs.Quantities.{number_made, two_numbers}
use Rattle.dk_method.proofs.tests.numbers.Goals as goal

pub returns-then-is_number-2 : goal.returns-then-is_number-2
returns-then-is_number-2 c = two_numbers (negsuc 0) _ _
    (number_made (negsuc 0) _ _ c.from.ensures (c.is_number.ensures c.if-is_number.true))
    (number_made (negsuc 0) _ _ c.from-then-is_number-2.ensures (c.is_number-then-is_number.ensures c.if-is_number-2.true))
