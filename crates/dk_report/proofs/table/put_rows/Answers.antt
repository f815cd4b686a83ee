use Rattle.std.proofs.Common.{◌+◌, ◌≤◌, length, drop, arith}
use Rattle.std.proofs.lemmas.List.{at_drop_all}
use Rattle.dk_types.specs.Texts.{row_line, row_lines}
use Rattle.dk_report.proofs.LookedUp.{lines_step}
use Rattle.dk_report.proofs.Parts.{part_none, part_next, part_all}
use Rattle.dk_report.proofs.table.put_rows.Goals as goal

pub loop-place-init : goal.loop-place-init
loop-place-init g c = part_none _ _

pub loop-place-preserved : goal.loop-place-preserved
loop-place-preserved g c =
    part_next (row_line (c.loop-place.place + 1) (record { point = c.point.result.now; values = c.values.result.now }))
    (row_lines (c.loop-place.place + 1 + 1) (drop (c.loop-place.place + 1) (g.R.Rows.rows c.args.rows.now))) c.loop-place.invariant
    (lines_step (g.R.Rows.rows c.args.rows.now) c.loop-place.place c.point.result.now c.values.result.now c.point.ensures c.values.ensures) c.put_row.ensures

pub returns : goal.returns
returns g c =
    let all : length (g.R.Rows.rows c.args.rows.now) ≤ c.loop-place.place = omega arith in
    part_all c.loop-place.invariant (at_drop_all (row_lines (c.loop-place.place + 1)) (g.R.Rows.rows c.args.rows.now) c.loop-place.place all)
