use Rattle.dk_num.proofs.UnitLaws.{units_decimal, units_canonical, units_value}
use Rattle.dk_num.proofs.laws.units.so_many_units_have_a_decimal.Goals as goal

pub returns-clause-is_the_decimal : goal.returns-clause-is_the_decimal
returns-clause-is_the_decimal c = units_decimal

pub returns-clause-is_canonical : goal.returns-clause-is_canonical
returns-clause-is_canonical c = units_canonical

pub returns-clause-keeps_value : goal.returns-clause-keeps_value
returns-clause-keeps_value c = units_value
