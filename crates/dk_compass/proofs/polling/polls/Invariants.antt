use Rattle.dk_compass.proofs.Polled.{ArePut}
use Rattle.dk_compass.proofs.polling.polls.Given as goal

abbrev pub invariant-loop-direction : goal.invariant-loop-direction
invariant-loop-direction l = ArePut l.variables l.state.x l.state.delta l.unit.exponent l.fn.out l.out l.direction
