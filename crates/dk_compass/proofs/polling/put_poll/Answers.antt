use Rattle.std.proofs.Common.{◌∙◌, ◌++◌, ◌∷◌, [], ap, sym, subst, map, arith}
use Rattle.std.specs.List.{All}
use Rattle.dk_num.specs.Units.{in_units}
use Rattle.dk_compass.specs.States.{IsSmall}
use Rattle.dk_compass.proofs.Sized.{iterate_small, small_read}
use Rattle.dk_compass.proofs.Polled.{row_set}
use Rattle.dk_compass.proofs.polling.put_poll.Goals as goal

pub put_units-row-requires-clause-are_small : goal.put_units-row-requires-clause-are_small
put_units-row-requires-clause-are_small c = subst (All IsSmall) (sym c.items.ensures) (iterate_small c.args.variables.now c.args.state.now c.requires.state)

pub returns-clause-row : goal.returns-clause-row
returns-clause-row c =
    let small = c.moved-number.ensures.small in
    row_set c.args.unit.exponent c.args.out.now.rows c.put_units-row.new.self.rows c.set.new.self.rows c.args.state.now.x c.args.state.now.delta c.args.direction c.put_units-row.result.index
    c.moved-number.result c.from_units.result
    (c.put_units-row.ensures.adds_row ∙ ap (λ l. c.args.out.now.rows ++ map (in_units c.args.unit.exponent) l ∷ []) c.items.ensures) c.put_units-row.ensures.names_row
    c.set.ensures.sets_number (c.from_units.ensures.gives_units ∙ ap (in_units c.args.unit.exponent) (small_read c.moved-number.result (omega arith))) c.moved-number.ensures.value
