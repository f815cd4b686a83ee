use Rattle.std.proofs.Common.{◌∙◌, ◌<◌, sym, ap, length, get_or, arith, pos}
use Rattle.std.proofs.lemmas.Grind.{common_steps}
use Rattle.std.proofs.lemmas.List.Elements.{All-get_or}
use Rattle.dk_types.specs.Points.{on_the_way}
use Rattle.dk_types.specs.Sound.{IsBetween}
use Rattle.dk_method.proofs.Formulas.{left_at_first, left_next, choice_at, grid_long, grid_at, way_made}
use Rattle.dk_method.proofs.Slots.{filled_none, filled_more, filled_all}
use Rattle.dk_method.proofs.grid.put_in_grid.Goals as goal

pub loop-place-init : goal.loop-place-init
loop-place-init c = record {
  filled = filled_none _ _ _ (c.requires.room ∙ sym (grid_long c.args.i c.args.partitions.now c.args.lower.now c.args.upper.now c.requires.lower_long c.requires.upper_long));
  left = left_at_first c.args.partitions.now c.args.i;
}

pub overflow_add-left : goal.overflow_add-left
overflow_add-left c =
    let most = All-get_or (IsBetween 1 10000) c.args.partitions.now c.loop-place.place 0 c.loop-place-test.true c.requires.partitions in
    let few = most.1 in
    grind (arith, common_steps)

pub loop-place-preserved : goal.loop-place-preserved
loop-place-preserved c =
    let along : c.loop-place.place < length c.args.lower.now = (let l = c.requires.lower_long in let t = c.loop-place-test.true in omega arith) in
    let above : c.loop-place.place < length c.args.upper.now = (let l = c.requires.upper_long in let t = c.loop-place-test.true in omega arith) in
    let long = grid_long c.args.i c.args.partitions.now c.args.lower.now c.args.upper.now c.requires.lower_long c.requires.upper_long in
    let choice = choice_at c.args.partitions.now c.args.i c.loop-place.place c.loop-place.left c.loop-place-test.true c.loop-place.invariant.left in
    record {
      filled = filled_more _ _ _ _ _ _ (omega arith) c.from_units.ensures.gives_units
          (way_made c.args.unit.exponent _ _ c.args.lower.now c.args.upper.now c.loop-place.place c.part_way.result c.requires.lower c.requires.upper along above
          c.part_way.ensures.small c.part_way.ensures.value
          ∙ ap (λ n. on_the_way n (get_or c.args.partitions.now c.loop-place.place 0) (get_or c.args.lower.now c.loop-place.place (pos 0)) (get_or c.args.upper.now c.loop-place.place (pos 0))) choice
          ∙ grid_at c.args.i c.args.partitions.now c.args.lower.now c.args.upper.now c.loop-place.place c.loop-place-test.true c.requires.lower_long c.requires.upper_long)
          c.loop-place.invariant.filled;
      left = left_next c.args.partitions.now c.args.i c.loop-place.place c.loop-place.left c.loop-place-test.true c.loop-place.invariant.left;
    }

pub returns : goal.returns
returns c =
    let long = grid_long c.args.i c.args.partitions.now c.args.lower.now c.args.upper.now c.requires.lower_long c.requires.upper_long in
    filled_all _ _ _ _ (omega arith) c.loop-place.invariant.filled
