use Rattle.dk_words.proofs.WordsTold.{each_commanded}
use Rattle.dk_words.proofs.laws.each_call_is_commanded.Goals as goal

pub returns : goal.returns
returns c = each_commanded
