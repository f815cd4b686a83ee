use Rattle.dk_num.proofs.Multiples.{units_count, count_units, least_exponent}
use Rattle.dk_num.proofs.laws.units.units_are_multiples.Goals as goal

pub returns-clause-counts : goal.returns-clause-counts
returns-clause-counts c = λ e d k low is h. units_count 10032 e d.mantissa d.exponent k low h

pub returns-clause-counts_all : goal.returns-clause-counts_all
returns-clause-counts_all c = λ e d k low is h. count_units 10032 e d.mantissa d.exponent k low (least_exponent d is) is.stripped h
