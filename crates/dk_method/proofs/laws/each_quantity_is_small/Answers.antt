use Rattle.dk_method.proofs.PointLaws.{quantities_are_small}
use Rattle.dk_method.proofs.laws.each_quantity_is_small.Goals as goal

pub returns : goal.returns
returns c = record { holds = quantities_are_small }
