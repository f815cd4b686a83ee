use Rattle.std.proofs.Common.{◌≡◌, ◌≤◌, map, drop, min}
use Rattle.dk_types.specs.Limits.{grid_size}
use Rattle.dk_reader.specs.Values.{whole, spread}
use Rattle.dk_reader.specs.Study.{grid_from}
use Rattle.dk_reader.proofs.limits.grid_size.Given as goal

abbrev pub invariant-loop-value : goal.invariant-loop-value
invariant-loop-value l = record {
  value : min (grid_from l.points (map whole (spread (drop l.value-index l.partitions)))) 100001 ≡ min (grid_size (map whole (spread l.partitions))) 100001;
  small : l.points ≤ 100001;
}
