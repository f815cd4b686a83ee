use Rattle.std.proofs.Common.{negsuc}
use Rattle.dk_method.proofs.Quantities.{number_made, two_numbers, four_numbers}
use Rattle.dk_method.proofs.tests.listed.Goals as goal

pub put_listed-requires-clause-numbers : goal.put_listed-requires-clause-numbers
put_listed-requires-clause-numbers c = four_numbers (negsuc 0) _ _ _ _
    (number_made (negsuc 0) _ _ c.from.ensures (c.is_number.ensures c.if-is_number.true))
    (number_made (negsuc 0) _ _ c.from-then-is_number-4.ensures (c.is_number-then-is_number.ensures c.if-is_number-2.true))
    (two_numbers (negsuc 0) _ _
    (number_made (negsuc 0) _ _ c.from-then-is_number-4-2.ensures (c.is_number-then-is_number-2.ensures c.if-is_number-3.true))
    (number_made (negsuc 0) _ _ c.from-then-is_number-4-3.ensures (c.is_number-then-is_number-3.ensures c.if-is_number-4.true)))
