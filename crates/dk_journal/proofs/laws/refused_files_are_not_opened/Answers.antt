use Rattle.dk_journal.proofs.Refusals.{refused_files_are_not_opened}
use Rattle.dk_journal.proofs.laws.refused_files_are_not_opened.Goals as goal

pub returns : goal.returns
returns c = refused_files_are_not_opened
