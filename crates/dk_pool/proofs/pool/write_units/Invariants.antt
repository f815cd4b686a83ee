use Rattle.std.proofs.Common.{◌≡◌, ◌+◌, ◌≤◌, ◌++◌, length, map, take}
use Rattle.dk_num.specs.Units.{in_units}
use Rattle.dk_pool.proofs.pool.write_units.Given as goal

abbrev pub invariant-loop-place : goal.invariant-loop-place
invariant-loop-place l = record {
  block : (l.region.room ≡ l.fn.region.room) × (l.region.alloc ≡ l.fn.region.alloc);
  written : take (l.start + l.place) l.region.values ≡ take l.start l.fn.region.values ++ take l.place (map (in_units l.unit.exponent) l.units);
  reaches : l.start + l.place ≤ length l.region.values;
}
