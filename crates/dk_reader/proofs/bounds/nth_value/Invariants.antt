use Rattle.std.proofs.Common.{◌≡◌, drop}
use Rattle.std.specs.Prelude.{slice_get}
use Rattle.dk_reader.specs.Values.{spread}
use Rattle.dk_reader.proofs.bounds.nth_value.Given as goal

abbrev pub invariant-loop-value : goal.invariant-loop-value
invariant-loop-value l = slice_get (spread (drop l.value-index l.values)) l.left ≡ slice_get (spread l.values) l.place
