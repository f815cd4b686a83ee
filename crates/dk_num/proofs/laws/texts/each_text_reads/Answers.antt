use Rattle.dk_num.proofs.Fronts.{reads_as, reads_only}
use Rattle.dk_num.proofs.laws.texts.each_text_reads.Goals as goal

pub returns-clause-means : goal.returns-clause-means
returns-clause-means c = reads_as

pub returns-clause-means_nothing_else : goal.returns-clause-means_nothing_else
returns-clause-means_nothing_else c = reads_only
