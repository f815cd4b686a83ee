use Rattle.std.proofs.Common.{◌≡◌, ◌≤◌, ◌*◌, ◌+◌, ◌^◌, drop}
use Rattle.std.specs.List.{fold}
use Rattle.dk_reader.specs.Values.{count, count_of}
use Rattle.dk_reader.proofs.fields.count_of.Given as goal

abbrev pub invariant-loop-value : goal.invariant-loop-value
invariant-loop-value l = (fold (λ a v. a + count v) l.sum (drop l.value-index l.values) ≡ count_of l.values) × (l.sum ≤ l.value-index * 2 ^ 32)
