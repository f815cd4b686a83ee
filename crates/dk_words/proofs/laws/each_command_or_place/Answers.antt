use Rattle.dk_words.proofs.WordsTold.{each}
use Rattle.dk_words.proofs.laws.each_command_or_place.Goals as goal

pub returns : goal.returns
returns c = each
