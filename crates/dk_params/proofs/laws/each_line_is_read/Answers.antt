use Rattle.dk_params.proofs.ReadBack.{each_line_is_read}
use Rattle.dk_params.proofs.laws.each_line_is_read.Goals as goal

pub returns : goal.returns
returns c = each_line_is_read
