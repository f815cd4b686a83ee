use Rattle.std.proofs.Common.{◌≡◌, length, take, drop}
use Rattle.dk_types.specs.Planned.{values_in}
use Rattle.dk_compass.specs.States.{single}
use Rattle.dk_method.proofs.search.read_values.Given as goal

abbrev pub invariant-loop-place : goal.invariant-loop-place
invariant-loop-place g l = record {
  long : length l.out ≡ length l.initial.out;
  read : single (take l.place l.out) ≡ take l.place (drop l.before (values_in (g.R.Rows.rows l.rows)));
}
