use Rattle.dk_num.proofs.Refusals.{no_decimal_where}
use Rattle.dk_num.proofs.laws.values.no_decimal_out_of_range.Goals as goal

pub returns : goal.returns
returns c = record { says_where = no_decimal_where }
