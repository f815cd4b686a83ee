use Rattle.std.proofs.Common.{◌<◌, ◌≤◌, length, arith}
use Rattle.dk_report.proofs.Repeated.{counted_none, counted_again, counted_new, counted_all}
use Rattle.dk_report.proofs.repeats.repeat_count.Goals as goal
use Rattle.dk_report.proofs.repeats.repeat_count.Goals.{then-first-row, else-first-row}

pub loop-place-init : goal.loop-place-init
loop-place-init g c = counted_none (g.R.Rows.rows c.args.rows.now)

pub loop-place-preserved : goal.loop-place-preserved
loop-place-preserved g c =
    let rows = g.R.Rows.rows c.args.rows.now in
    let inside : c.loop-place.place < length rows = omega arith in
    elim c.if-first-row.branch [
      | then-first-row w ↦
          rw w.count-is (counted_again rows c.loop-place.place c.first.result c.loop-place.count inside c.first.ensures.from c.first.ensures.first w.if-first-row.true c.loop-place.invariant)
      | else-first-row w ↦
          rw w.count-is (counted_new rows c.loop-place.place c.first.result c.loop-place.count inside c.first.ensures.from c.first.ensures.first (omega arith) c.loop-place.invariant)
    ]

pub returns-clause-value : goal.returns-clause-value
returns-clause-value g c =
    let all : length (g.R.Rows.rows c.args.rows.now) ≤ c.loop-place.place = omega arith in
    counted_all (g.R.Rows.rows c.args.rows.now) c.loop-place.place c.loop-place.count all c.loop-place.invariant
