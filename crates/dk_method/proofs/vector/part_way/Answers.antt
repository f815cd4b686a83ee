use Rattle.std.proofs.Common.{arith}
use Rattle.std.proofs.lemmas.Int.{fits_signed_from_abs}
use Rattle.dk_types.specs.Points.{on_the_way}
use Rattle.dk_method.proofs.Quantities.{small_read, part_way_is}
use Rattle.dk_method.proofs.vector.part_way.Goals as goal
use mir.Syntax.{w128}

pub overflow_add-result : goal.overflow_add-result
overflow_add-result c =
    let is = part_way_is c.args.i c.args.parts c.args.from c.args.to _ _ c.divide_round.result c.requires.part c.requires.parts c.requires.from c.requires.to c.from.ensures c.from-2.ensures c.divide_round.ensures.gives_quotient in
    let small = is.small in
    rw (is.from, is.along, is.sum) (fits_signed_from_abs w128 _ (omega arith))

pub returns-clause-value : goal.returns-clause-value
returns-clause-value c =
    let is = part_way_is c.args.i c.args.parts c.args.from c.args.to _ _ c.divide_round.result c.requires.part c.requires.parts c.requires.from c.requires.to c.from.ensures c.from-2.ensures c.divide_round.ensures.gives_quotient in
    let small = is.small in
    rw (is.from, is.along, is.sum) (small_read _ (omega arith))

pub returns-clause-small : goal.returns-clause-small
returns-clause-small c =
    let is = part_way_is c.args.i c.args.parts c.args.from c.args.to _ _ c.divide_round.result c.requires.part c.requires.parts c.requires.from c.requires.to c.from.ensures c.from-2.ensures c.divide_round.ensures.gives_quotient in
    let small = is.small in
    rw (is.from, is.along, is.sum, small_read (on_the_way c.args.i c.args.parts c.args.from c.args.to) (omega arith)) small
