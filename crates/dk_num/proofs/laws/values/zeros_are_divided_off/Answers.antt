use Rattle.dk_num.proofs.Endings.{split_whole, split_left}
use Rattle.dk_num.proofs.laws.values.zeros_are_divided_off.Goals as goal

pub returns-clause-keeps_value : goal.returns-clause-keeps_value
returns-clause-keeps_value c = split_whole

pub returns-clause-leaves_no_zero : goal.returns-clause-leaves_no_zero
returns-clause-leaves_no_zero c = split_left
