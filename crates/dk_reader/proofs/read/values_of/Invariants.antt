use Rattle.std.proofs.Common.{◌≡◌, take}
use Rattle.dk_reader.specs.Values.{values_of}
use Rattle.dk_reader.proofs.read.values_of.Given as goal

abbrev pub invariant-loop-token : goal.invariant-loop-token
invariant-loop-token l = l.values.items ≡ values_of l.text (take l.token-index l.tokens)
