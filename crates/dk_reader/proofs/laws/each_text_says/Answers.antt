use Rattle.dk_reader.proofs.Says.{each_says}
use Rattle.dk_reader.proofs.laws.each_text_says.Goals as goal

pub returns : goal.returns
returns c = each_says c.each_text_lexes.ensures
