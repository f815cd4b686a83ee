use Rattle.std.proofs.Common.{sym, subst}
use Rattle.dk_compass.specs.States.{IsSmall}
use Rattle.dk_compass.proofs.Sized.{moved_small, on_fits, back_fits, on_made, back_made}
use Rattle.dk_compass.proofs.directions.moved.Goals as goal

pub overflow_add-result : goal.overflow_add-result
overflow_add-result c = on_fits c.args.variables.now c.args.state.now c.args.direction _ c.items.ensures c.requires.state c.requires.direction

pub overflow_sub-result : goal.overflow_sub-result
overflow_sub-result c = back_fits c.args.variables.now c.args.state.now c.args.direction _ c.items.ensures c.requires.state c.requires.direction

pub returns-then-direction-eq0-clause-value : goal.returns-then-direction-eq0-clause-value
returns-then-direction-eq0-clause-value c = on_made c.args.variables.now c.args.state.now c.args.direction _ c.items.ensures c.requires.state c.requires.direction c.if-direction-eq0.true

pub returns-then-direction-eq0-clause-small : goal.returns-then-direction-eq0-clause-small
returns-then-direction-eq0-clause-small c =
    subst IsSmall (sym (on_made c.args.variables.now c.args.state.now c.args.direction _ c.items.ensures c.requires.state c.requires.direction c.if-direction-eq0.true))
    (moved_small c.args.variables.now c.args.state.now c.args.direction c.requires.state c.requires.direction)

pub returns-else-direction-eq0-clause-value : goal.returns-else-direction-eq0-clause-value
returns-else-direction-eq0-clause-value c = back_made c.args.variables.now c.args.state.now c.args.direction _ c.items.ensures c.requires.state c.requires.direction c.if-direction-eq0.false

pub returns-else-direction-eq0-clause-small : goal.returns-else-direction-eq0-clause-small
returns-else-direction-eq0-clause-small c =
    subst IsSmall (sym (back_made c.args.variables.now c.args.state.now c.args.direction _ c.items.ensures c.requires.state c.requires.direction c.if-direction-eq0.false))
    (moved_small c.args.variables.now c.args.state.now c.args.direction c.requires.state c.requires.direction)
