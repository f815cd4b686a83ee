use Rattle.std.proofs.Common.{◌∙◌, ◌*◌, List, Some, ap, sym, length, take, drop, arith}
use Rattle.dk_num.specs.Decimal.{Decimal}
use Rattle.dk_pool.specs.Rows.{written}
use Rattle.dk_pool.proofs.Cut.{empty_row, row_lies, row_is, row_wide}
use Rattle.dk_pool.proofs.pool.Pool.row.Goals as goal

pub view-requires : goal.view-requires
view-requires c =
    let held = ap (λ r. length (written r)) c.in-Some.is in
    omega (arith, row_lies _ _ _ _ _ _ c.self.view_is c.self.invariant _ c.requires.is_there)

pub returns-in-Some-clause-lends_row : goal.returns-in-Some-clause-lends_row
returns-in-Some-clause-lends_row c =
    row_is _ _ _ _ _ _ c.self.view_is c.self.invariant _ c.requires.is_there
    ∙ ap (λ (xs : List Decimal). Some (take c.self.inside.width (drop (c.args.id.index * c.self.inside.width) xs))) (ap written c.in-Some.is)
    ∙ ap Some (sym c.view.ensures)

pub returns-in-Some-clause-has_width : goal.returns-in-Some-clause-has_width
returns-in-Some-clause-has_width c =
    ap length c.view.ensures
    ∙ ap (λ (xs : List Decimal). length (take c.self.inside.width (drop (c.args.id.index * c.self.inside.width) xs))) (sym (ap written c.in-Some.is))
    ∙ row_wide _ _ _ _ _ _ c.self.view_is c.self.invariant _ c.requires.is_there

pub returns-in-None-clause-lends_row : goal.returns-in-None-clause-lends_row
returns-in-None-clause-lends_row c =
    row_is _ _ _ _ _ _ c.self.view_is c.self.invariant _ c.requires.is_there
    ∙ ap (λ (xs : List Decimal). Some (take c.self.inside.width (drop (c.args.id.index * c.self.inside.width) xs))) (ap written c.in-None.is)
    ∙ ap Some (empty_row c.self.inside.width (c.args.id.index * c.self.inside.width))

pub returns-in-None-clause-has_width : goal.returns-in-None-clause-has_width
returns-in-None-clause-has_width c =
    ap length (sym (empty_row c.self.inside.width (c.args.id.index * c.self.inside.width)))
    ∙ ap (λ (xs : List Decimal). length (take c.self.inside.width (drop (c.args.id.index * c.self.inside.width) xs))) (sym (ap written c.in-None.is))
    ∙ row_wide _ _ _ _ _ _ c.self.view_is c.self.invariant _ c.requires.is_there
