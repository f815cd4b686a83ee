use Rattle.dk_num.proofs.Endings.{count_is}
use Rattle.dk_num.proofs.laws.values.digits_measure_a_number.Goals as goal

pub returns : goal.returns
returns c = record { counts_digits = count_is }
