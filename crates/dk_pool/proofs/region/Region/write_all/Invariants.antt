use Rattle.std.proofs.Common.{◌≡◌, ◌+◌, ◌≤◌, ◌++◌, length, take}
use Rattle.dk_pool.proofs.region.Region.write_all.Given as goal

abbrev pub invariant-loop-i : goal.invariant-loop-i
invariant-loop-i g l = record {
  block : (l.self.room ≡ l.fn.self.room) × (l.self.alloc ≡ l.fn.self.alloc);
  written : take (l.place + l.i) l.self.values ≡ take l.place l.fn.self.values ++ take l.i l.values;
  reaches : l.place + l.i ≤ length l.self.values;
}
