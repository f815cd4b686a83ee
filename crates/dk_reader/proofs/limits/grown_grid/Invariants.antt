use Rattle.std.proofs.Common.{◌≡◌, ◌≤◌, ◌-◌, replicate, min}
use Rattle.dk_reader.specs.Study.{grid_from}
use Rattle.dk_reader.proofs.limits.grown_grid.Given as goal

abbrev pub invariant-loop : goal.invariant-loop
invariant-loop l = record {
  value : min (grid_from l.grown (replicate (l.variables - l.counter) l.parts)) 100001 ≡ min (grid_from l.points (replicate l.variables l.parts)) 100001;
  small : l.grown ≤ 100001;
}
