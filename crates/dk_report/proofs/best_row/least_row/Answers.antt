use Rattle.std.proofs.Common.{◌≡◌, ◌≤◌, true, false, length, arith}
use Rattle.dk_types.specs.Best.{is_below}
use Rattle.dk_report.proofs.LookedUp.{values_at}
use Rattle.dk_report.proofs.BestRows.{least_keeps, least_takes, best_from_least}
use Rattle.dk_report.proofs.best_row.least_row.Goals as goal
use Rattle.dk_report.proofs.best_row.least_row.Goals.{then-is_below, else-is_below}

pub loop-place-preserved : goal.loop-place-preserved
loop-place-preserved g c =
    let rows = g.R.Rows.rows c.args.rows.now in
    let x = values_at rows c.loop-place.place c.values.result.now c.values.ensures in
    let y = values_at rows c.loop-place.least c.values-in-loop-place.result.now c.values-in-loop-place.ensures in
    elim c.if-is_below.branch [
      | then-is_below w ↦
          let e : is_below c.values.result.now c.values-in-loop-place.result.now ≡ true = cc in
          rw w.least-is (least_takes rows c.loop-place.place c.loop-place.least _ _ x y c.requires.values e c.loop-place.invariant)
      | else-is_below w ↦
          let e : is_below c.values.result.now c.values-in-loop-place.result.now ≡ false = cc in
          rw w.least-is (least_keeps rows c.loop-place.place c.loop-place.least _ _ x y e c.loop-place.invariant)
    ]

pub returns-clause-value : goal.returns-clause-value
returns-clause-value g c =
    let all : length (g.R.Rows.rows c.args.rows.now) ≤ c.loop-place.place = omega arith in
    best_from_least (g.R.Rows.rows c.args.rows.now) c.loop-place.place c.loop-place.least all c.loop-place.invariant
