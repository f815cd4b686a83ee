use Rattle.dk_types.proofs.Growth.{others_keep}
use Rattle.dk_types.proofs.laws.others_keep_their_answer.Goals as goal

pub returns : goal.returns
returns c = others_keep
