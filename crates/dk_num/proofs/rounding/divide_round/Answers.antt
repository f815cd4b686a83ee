use Rattle.std.proofs.Common.{arith}
use Rattle.std.proofs.lemmas.Grind.{common_steps}
use Rattle.dk_num.proofs.Quotients.{rounded_is_nearest}
use Rattle.dk_num.proofs.rounding.divide_round.Goals as goal

pub returns-then-n-lt0-clause-is_nearest : goal.returns-then-n-lt0-clause-is_nearest
returns-then-n-lt0-clause-is_nearest c = rounded_is_nearest _ _ _ (grind (arith, common_steps)) (grind (arith, common_steps))

pub returns-else-n-lt0-clause-is_nearest : goal.returns-else-n-lt0-clause-is_nearest
returns-else-n-lt0-clause-is_nearest c = rounded_is_nearest _ _ _ (grind (arith, common_steps)) (grind (arith, common_steps))
