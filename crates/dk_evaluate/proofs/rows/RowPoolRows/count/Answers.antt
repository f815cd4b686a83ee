use Rattle.std.proofs.Common.{◌∙◌, ap, sym, length}
use Rattle.dk_evaluate.specs.Pools.{RowsState}
use Rattle.dk_evaluate.proofs.Pooled.{rows_long}
use Rattle.dk_evaluate.proofs.rows.RowPoolRows.count.Goals as goal

pub returns : goal.returns
returns c = c.count.ensures.gives_count ∙ sym (rows_long c.self.inside.points.rows c.self.inside.values.rows c.self.invariant.paired) ∙ ap (λ (s : RowsState). length s.rows) c.self.view_is
