use Rattle.dk_results.proofs.Readings.{one_reading}
use Rattle.dk_results.proofs.laws.each_text_has_one_reading.Goals as goal

pub returns : goal.returns
returns c = one_reading
