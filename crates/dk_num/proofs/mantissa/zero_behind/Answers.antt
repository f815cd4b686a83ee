use Rattle.std.proofs.Common.{arith, refl}
use Rattle.std.proofs.lemmas.Grind.{common_steps}
use Rattle.dk_num.proofs.Significands.{zeros_more}
use Rattle.dk_num.proofs.mantissa.zero_behind.Goals as goal

pub returns-clause-is : goal.returns-clause-is
returns-clause-is c = zeros_more c.args.number _ (grind (arith, common_steps)) c.requires.is refl refl refl
