use Rattle.std.proofs.Common.{◌∙◌, ap, ◌++◌, ◌∷◌, []}
use Rattle.dk_evaluate.specs.Pools.{RowsState, rows_by}
use Rattle.dk_evaluate.proofs.Pooled.{pooled_more, rows_more}
use Rattle.dk_evaluate.proofs.rows.RowPool.push.Goals as goal

pub invariant_of-self : goal.invariant_of-self
invariant_of-self c =
    let first = rw (← c.self.view_is) at c.requires.first in
    pooled_more _ _ _ _ _ _ _ _ _ c.put_row-row.ensures.adds_row c.put_row-row.ensures.takes_room c.put_row.ensures.adds_row c.put_row.ensures.takes_room c.put_row-row.ensures.names_row c.requires.from first c.self.invariant

pub returns-clause-rows : goal.returns-clause-rows
returns-clause-rows c =
    ap (λ l. rows_by l c.put_row.new.self.rows) c.put_row-row.ensures.adds_row
    ∙ ap (rows_by (c.self.inside.points.rows ++ c.args.point.now ∷ [])) c.put_row.ensures.adds_row
    ∙ rows_more c.self.inside.points.rows c.self.inside.values.rows c.args.point.now c.args.values.now c.self.invariant.paired
    ∙ ap (λ (s : RowsState). s.rows ++ record { point = c.args.point.now; values = c.args.values.now } ∷ []) c.self.view_is
