use Rattle.dk_method.proofs.Begun.{begins_by}
use Rattle.dk_method.proofs.planning.search_of.Goals as goal

pub returns-in_ok-begin-in-Compass : goal.returns-in_ok-begin-in-Compass
returns-in_ok-begin-in-Compass c =
    begins_by c.args.study.now c.in-Compass.delta c.in-Compass.threshold c.in-Compass.iterations c.in-Compass.evaluations c.in_ok-begin-in-Compass.field-0 c.requires.sound c.in-Compass.is c.in_ok-begin-in-Compass.ensures
