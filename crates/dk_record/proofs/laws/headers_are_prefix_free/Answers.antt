use Rattle.dk_record.proofs.Shapes.{header_same}
use Rattle.dk_record.proofs.laws.headers_are_prefix_free.Goals as goal

pub returns : goal.returns
returns c = header_same
