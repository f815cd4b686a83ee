use Rattle.dk_num.specs.Arithmetic.{negated}
use Rattle.dk_num.proofs.Refusals.{no_sum_where}
use Rattle.dk_num.proofs.laws.arithmetic.no_difference_only_where_no_sum.Goals as goal

pub returns : goal.returns
returns c = record { says_where = λ x y. no_sum_where x (negated y) }
