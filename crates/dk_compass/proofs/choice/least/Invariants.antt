use Rattle.dk_compass.proofs.Least.{IsFirstLeast}
use Rattle.dk_compass.proofs.choice.least.Given as goal

abbrev pub invariant-loop-place : goal.invariant-loop-place
invariant-loop-place l = IsFirstLeast l.values l.place l.least
