use Rattle.dk_num.proofs.UnitLaws.{meets_greatest, zeros_have_low_unit}
use Rattle.dk_num.proofs.laws.units.units_lie_28_below_the_greatest.Goals as goal

pub returns-clause-meets_the_greatest : goal.returns-clause-meets_the_greatest
returns-clause-meets_the_greatest c = meets_greatest

pub returns-clause-is_minus_28_for_zeros : goal.returns-clause-is_minus_28_for_zeros
returns-clause-is_minus_28_for_zeros c = zeros_have_low_unit
