use Rattle.std.proofs.Common.{refl, ◌≡◌, ◌-◌, ◌+◌, ◌∙◌, ap, sym, arith, length}
use Rattle.std.proofs.lemmas.Option.{slice_get_read}
use Rattle.dk_types.specs.Best.{first_with_point}
use Rattle.dk_evaluate.specs.Pools.{RowsState, rows_by}
use Rattle.dk_evaluate.proofs.Pooled.{rows_long}
use Rattle.dk_evaluate.proofs.rows.RowPoolRows.first.Goals as goal

pub index-requires : goal.index-requires
index-requires c =
    let to = rw (← c.self.view_is) at c.requires.to in
    let from = c.requires.from in
    let long = rows_long c.self.inside.points.rows c.self.inside.values.rows c.self.invariant.paired in
    let enough = c.self.invariant.enough in
    omega arith

pub returns-clause-from : goal.returns-clause-from
returns-clause-from c =
    let to = rw (← c.self.view_is) at c.requires.to in
    let from = c.requires.from in
    let long = rows_long c.self.inside.points.rows c.self.inside.values.rows c.self.invariant.paired in
    let enough = c.self.invariant.enough in
    (c.self.invariant.first (c.args.row - 1) c.index.result.now (omega arith)
    (slice_get_read c.self.inside.firsts.items (length c.self.inside.firsts.items) (c.args.row - 1) c.index.result.now refl (omega arith) c.index.ensures)).from

pub returns-clause-first : goal.returns-clause-first
returns-clause-first c =
    let to = rw (← c.self.view_is) at c.requires.to in
    let from = c.requires.from in
    let long = rows_long c.self.inside.points.rows c.self.inside.values.rows c.self.invariant.paired in
    let enough = c.self.invariant.enough in
    let is = (c.self.invariant.first (c.args.row - 1) c.index.result.now (omega arith)
    (slice_get_read c.self.inside.firsts.items (length c.self.inside.firsts.items) (c.args.row - 1) c.index.result.now refl (omega arith) c.index.ensures)).is in
    let number : c.args.row ≡ c.args.row - 1 + 1 = omega arith in
    sym (ap (λ (s : RowsState). first_with_point s.rows c.args.row) c.self.view_is)
    ∙ ap (first_with_point (rows_by c.self.inside.points.rows c.self.inside.values.rows)) number ∙ is
