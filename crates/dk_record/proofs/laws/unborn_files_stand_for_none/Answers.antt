use Rattle.dk_record.proofs.Again.{unborn_files}
use Rattle.dk_record.proofs.laws.unborn_files_stand_for_none.Goals as goal

pub returns : goal.returns
returns c = unborn_files
