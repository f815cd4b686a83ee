use Rattle.std.proofs.Common.{◌≡◌, ◌≤◌, ◌*◌, ◌+◌, map, drop}
use Rattle.std.specs.Prelude.{sum}
use Rattle.dk_reader.specs.Values.{whole, spread}
use Rattle.dk_reader.proofs.limits.sum_of.Given as goal

abbrev pub invariant-loop-value : goal.invariant-loop-value
invariant-loop-value l = record {
  value : l.sum + sum (map whole (spread (drop l.value-index l.values))) ≡ sum (map whole (spread l.values));
  small : l.sum ≤ l.value-index * 18446744073709551615;
}
