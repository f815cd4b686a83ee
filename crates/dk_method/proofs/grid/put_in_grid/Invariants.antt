use Rattle.dk_types.specs.Points.{in_grid}
use Rattle.dk_method.proofs.Formulas.{IsLeftOver}
use Rattle.dk_method.proofs.Slots.{Filled}
use Rattle.dk_method.proofs.grid.put_in_grid.Given as goal

abbrev pub invariant-loop-place : goal.invariant-loop-place
invariant-loop-place l = record {
  filled : Filled l.unit.exponent (in_grid l.i l.partitions l.lower l.upper) l.out l.place;
  left : IsLeftOver l.partitions l.i l.place l.left;
}
