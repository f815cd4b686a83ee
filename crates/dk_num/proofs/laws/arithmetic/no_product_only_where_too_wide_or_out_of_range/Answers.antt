use Rattle.dk_num.proofs.Refusals.{no_product_where, product_with_zero_first, product_with_zero_second}
use Rattle.dk_num.proofs.laws.arithmetic.no_product_only_where_too_wide_or_out_of_range.Goals as goal

pub returns-clause-says_where : goal.returns-clause-says_where
returns-clause-says_where c = no_product_where

pub returns-clause-gives_zero_first : goal.returns-clause-gives_zero_first
returns-clause-gives_zero_first c = product_with_zero_first

pub returns-clause-gives_zero_second : goal.returns-clause-gives_zero_second
returns-clause-gives_zero_second c = product_with_zero_second
