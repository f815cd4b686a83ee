use Rattle.dk_method.proofs.Spanned.{list_is_its_numbers}
use Rattle.dk_method.proofs.laws.each_list_is_its_numbers.Goals as goal

pub returns : goal.returns
returns c = record { holds = list_is_its_numbers }
