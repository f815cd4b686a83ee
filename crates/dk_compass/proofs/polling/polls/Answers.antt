use Rattle.std.proofs.Common.{◌≤◌, ap, sym, arith, length}
use Rattle.dk_types.specs.Search.{poll_at, keeps_bounds}
use Rattle.dk_compass.proofs.Opened.{kept_few}
use Rattle.dk_compass.proofs.Polled.{directions_below, put_more, put_past}
use Rattle.dk_compass.proofs.polling.polls.Goals as goal
use Rattle.dk_compass.proofs.polling.polls.Goals.{then-stays_inside, else-stays_inside}

pub put_poll-requires-clause-room : goal.put_poll-requires-clause-room
put_poll-requires-clause-room c =
    let few : length (directions_below c.args.variables.now c.args.state.now.x c.args.state.now.delta c.loop-direction.direction) ≤ c.loop-direction.direction
    = kept_few (λ d. keeps_bounds c.args.variables.now (poll_at c.args.state.now.x c.args.state.now.delta d)) 0 c.loop-direction.direction in
    let room = c.loop-direction.invariant.room in
    let long = ap length c.items.ensures in
    omega arith

pub loop-direction-preserved : goal.loop-direction-preserved
loop-direction-preserved c =
    elim c.if-stays_inside.branch [
      | then-stays_inside w ↦
          rw w.out-is (put_more c.args.variables.now c.args.state.now.x c.args.state.now.delta c.args.unit.exponent c.args.out.now c.loop-direction.out w.put_poll.new.out c.loop-direction.direction
          (sym w.if-stays_inside.ensures) w.put_poll.ensures.row w.put_poll.ensures.width w.put_poll.ensures.room c.loop-direction.invariant)
      | else-stays_inside w ↦
          rw w.out-is (put_past c.args.variables.now c.args.state.now.x c.args.state.now.delta c.args.unit.exponent c.args.out.now c.loop-direction.out c.loop-direction.direction
          (sym w.if-stays_inside.ensures) c.loop-direction.invariant)
    ]
