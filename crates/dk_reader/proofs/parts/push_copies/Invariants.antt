use Rattle.std.proofs.Common.{◌≡◌, ◌++◌, replicate}
use Rattle.dk_reader.proofs.parts.push_copies.Given as goal

abbrev pub invariant-loop-copy : goal.invariant-loop-copy
invariant-loop-copy g l = l.items.items ≡ l.fn.items.items ++ replicate l._copy l.item
