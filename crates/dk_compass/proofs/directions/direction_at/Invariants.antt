use Rattle.std.specs.Prelude.{◌≡◌, ◌+◌, length}
use Rattle.std.specs.List.{filter, range_with_len}
use Rattle.dk_types.specs.Search.{poll_at, keeps_bounds}
use Rattle.dk_compass.proofs.directions.direction_at.Given as goal

abbrev pub invariant-loop-direction : goal.invariant-loop-direction
invariant-loop-direction l =
    length (filter (λ d. keeps_bounds l.variables (poll_at l.state.x l.state.delta d)) (range_with_len 0 l.direction)) + l.left ≡ l.fn.place
