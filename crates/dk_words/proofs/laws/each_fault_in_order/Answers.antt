use Rattle.dk_words.proofs.WordsOrder.{each_in_order}
use Rattle.dk_words.proofs.laws.each_fault_in_order.Goals as goal

pub returns : goal.returns
returns c = each_in_order
