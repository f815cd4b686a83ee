use Rattle.dk_method.proofs.Spanned.{each_point_has_its_values}
use Rattle.dk_method.proofs.laws.each_point_has_its_values.Goals as goal

pub returns : goal.returns
returns c = record { holds = each_point_has_its_values }
