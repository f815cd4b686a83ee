use Rattle.dk_record.proofs.Again.{header_again}
use Rattle.dk_record.proofs.laws.headers_are_read_again.Goals as goal

pub returns : goal.returns
returns c = header_again
