use Rattle.std.proofs.Common.{◌≡◌, ◌+◌, ◌∙◌, ◌<◌, ◌*◌, ap, sym, arith, length, get_or, ℕ, Bool, true, false}
use Rattle.std.specs.List.{filter, range_with_len}
use Rattle.dk_types.specs.Search.{poll_at, keeps_bounds, directions}
use Rattle.dk_compass.proofs.Opened.{kept_at, counted_here, counted_past}
use Rattle.dk_compass.proofs.directions.direction_at.Goals as goal
use Rattle.dk_compass.proofs.directions.direction_at.Goals.{then-stays_inside+else-left-eq0, else-stays_inside}

pub returns-then-left-eq0-clause-value : goal.returns-then-left-eq0-clause-value
returns-then-left-eq0-clause-value c =
    let p : ℕ → Bool = λ d. keeps_bounds c.args.variables.now (poll_at c.args.state.now.x c.args.state.now.delta d) in
    let d : ℕ = c.loop-direction.direction in
    let count : length (filter p (range_with_len 0 d)) + c.loop-direction.left ≡ c.args.place = c.loop-direction.invariant in
    let place : length (filter p (range_with_len 0 d)) ≡ c.args.place = omega arith in
    let same = c.items.ensures in
    let within : d < 2 * length c.args.state.now.x = (let l = ap length same in omega arith) in
    let start : 0 + d ≡ d = omega arith in
    let passes : p d ≡ true = cc in
    sym start ∙ sym (kept_at p 0 (2 * length c.args.state.now.x) d within (ap p start ∙ passes)) ∙ ap (λ k. get_or (directions c.args.variables.now c.args.state.now.x c.args.state.now.delta) k 0) place

pub loop-direction-preserved : goal.loop-direction-preserved
loop-direction-preserved c =
    let p : ℕ → Bool = λ d. keeps_bounds c.args.variables.now (poll_at c.args.state.now.x c.args.state.now.delta d) in
    let d : ℕ = c.loop-direction.direction in
    let count : length (filter p (range_with_len 0 d)) + c.loop-direction.left ≡ c.args.place = c.loop-direction.invariant in
    elim c.if-stays_inside.branch [
      | then-stays_inside+else-left-eq0 w ↦ (let passes : p d ≡ true = cc in let more = counted_here p d passes in rw w.left-is (let l = w.if-left-eq0 in omega arith))
      | else-stays_inside w ↦ (let passes : p d ≡ false = cc in let more = counted_past p d passes in rw w.left-is (omega arith))
    ]
