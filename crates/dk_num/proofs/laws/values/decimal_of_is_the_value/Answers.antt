use Rattle.dk_num.proofs.Values.{decimal_is_canonical, decimal_value, own_decimal}
use Rattle.dk_num.proofs.laws.values.decimal_of_is_the_value.Goals as goal

pub returns-clause-is_canonical : goal.returns-clause-is_canonical
returns-clause-is_canonical c = decimal_is_canonical

pub returns-clause-keeps_value : goal.returns-clause-keeps_value
returns-clause-keeps_value c = decimal_value

pub returns-clause-keeps_canonical : goal.returns-clause-keeps_canonical
returns-clause-keeps_canonical c = own_decimal
