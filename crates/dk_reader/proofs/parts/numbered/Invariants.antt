use Rattle.std.proofs.Common.{◌≡◌}
use Rattle.dk_reader.specs.Study.{numbered}
use Rattle.dk_reader.proofs.parts.numbered.Given as goal

abbrev pub invariant-loop-place : goal.invariant-loop-place
invariant-loop-place l = l.labels.items ≡ numbered l.prefix l.place
