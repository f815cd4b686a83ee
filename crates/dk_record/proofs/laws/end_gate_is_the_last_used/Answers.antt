use Rattle.dk_record.proofs.Again.{front_used}
use Rattle.dk_record.proofs.laws.end_gate_is_the_last_used.Goals as goal

pub returns : goal.returns
returns c = front_used
