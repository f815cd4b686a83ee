use Rattle.dk_record.proofs.Shapes.{shape_same}
use Rattle.dk_record.proofs.laws.files_have_one_shape.Goals as goal

pub returns : goal.returns
returns c = shape_same
