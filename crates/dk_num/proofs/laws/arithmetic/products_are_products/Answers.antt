use Rattle.dk_num.proofs.ValueLaws.{product_is_canonical, product_value}
use Rattle.dk_num.proofs.laws.arithmetic.products_are_products.Goals as goal

pub returns-clause-is_canonical : goal.returns-clause-is_canonical
returns-clause-is_canonical c = product_is_canonical

pub returns-clause-multiplies_values : goal.returns-clause-multiplies_values
returns-clause-multiplies_values c = product_value
