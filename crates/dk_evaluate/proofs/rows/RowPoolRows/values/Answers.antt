use Rattle.std.proofs.Common.{◌-◌, ◌∙◌, ap, sym, arith}
use Rattle.std.specs.Prelude.{option_map, slice_get}
use Rattle.dk_types.specs.declared.rows.Row.{Row}
use Rattle.dk_evaluate.specs.Pools.{RowsState}
use Rattle.dk_evaluate.proofs.Pooled.{rows_long, row_values}
use Rattle.dk_evaluate.proofs.rows.RowPoolRows.values.Goals as goal

pub row-requires : goal.row-requires
row-requires c =
    let to = rw (← c.self.view_is) at c.requires.to in
    let from = c.requires.from in
    let long = rows_long c.self.inside.points.rows c.self.inside.values.rows c.self.invariant.paired in
    let paired = c.self.invariant.paired in
    omega arith

pub returns : goal.returns
returns c =
    sym (ap (λ (s : RowsState). option_map (λ (r : Row). r.values) (slice_get s.rows (c.args.row - 1))) c.self.view_is)
    ∙ row_values c.self.inside.points.rows c.self.inside.values.rows (c.args.row - 1) c.row.result.now c.self.invariant.paired c.row.ensures.lends_row
