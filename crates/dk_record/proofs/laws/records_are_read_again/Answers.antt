use Rattle.dk_record.proofs.Again.{record_again}
use Rattle.dk_record.proofs.laws.records_are_read_again.Goals as goal

pub returns : goal.returns
returns c = record_again
