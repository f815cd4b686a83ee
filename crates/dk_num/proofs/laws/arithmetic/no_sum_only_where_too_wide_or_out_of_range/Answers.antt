use Rattle.dk_num.proofs.Refusals.{no_sum_where, sum_with_zero_first, sum_with_zero_second}
use Rattle.dk_num.proofs.laws.arithmetic.no_sum_only_where_too_wide_or_out_of_range.Goals as goal

pub returns-clause-says_where : goal.returns-clause-says_where
returns-clause-says_where c = no_sum_where

pub returns-clause-gives_the_second : goal.returns-clause-gives_the_second
returns-clause-gives_the_second c = sum_with_zero_first

pub returns-clause-gives_the_first : goal.returns-clause-gives_the_first
returns-clause-gives_the_first c = sum_with_zero_second
