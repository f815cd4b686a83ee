use Rattle.dk_method.proofs.Spanned.{grid_spans_its_bounds}
use Rattle.dk_method.proofs.laws.each_grid_spans_its_bounds.Goals as goal

pub returns : goal.returns
returns c = record { holds = grid_spans_its_bounds }
