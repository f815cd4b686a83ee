use Rattle.std.proofs.Common.{◌≡◌, ◌<◌, unsigned_abs, ap, sym, ◌∙◌, arith, rules, to_z, of_z, Some, refl}
use Rattle.std.specs.Prelude.{◌≤ℤ◌}
use Rattle.std.proofs.lemmas.Grind.{common_steps}
use Rattle.std.proofs.lemmas.Int.{to_z-of_z, ints}
use Rattle.dk_num.proofs.Multiples.{units_of_some}
use Rattle.dk_num.proofs.Sums.{nonzero}
use Rattle.dk_num.proofs.units.to_units.Goals as goal
use mir.Syntax.{w128, w32}

pub returns-clause-counts_units : goal.returns-clause-counts_units
returns-clause-counts_units c =
    let m : to_z w128 (of_z w128 c.pair-mantissa.result.0) ≡ c.args.d.mantissa = to_z-of_z w128 _ (search rules) ∙ c.pair-mantissa.ensures.gives_mantissa in
    let x : to_z w32 (of_z w32 c.pair-mantissa.result.1) ≡ c.args.d.exponent = to_z-of_z w32 _ (search rules) ∙ c.pair-mantissa.ensures.gives_exponent in
    let e : to_z w32 (of_z w32 c.args.unit.exponent) ≡ c.args.unit.exponent = to_z-of_z w32 _ (search rules) in
    let r : to_z w128 (of_z w128 c.lengthened.result) ≡ c.lengthened.result = to_z-of_z w128 _ (search rules) in
    let some : 0 < unsigned_abs c.args.d.mantissa = rw c.pair-mantissa.ensures.gives_mantissa at (nonzero c.pair-mantissa.result.0 c.if-mantissa-eq0.false) in
    let test = rw (x, e) at c.if-exponent-unit.false in
    let le : c.args.unit.exponent ≤ℤ c.args.d.exponent = grind (arith, ints, common_steps) in
    let places = rw (x, e) at c.places_above.ensures in
    units_of_some c.args.unit.exponent c.args.d some le
    ∙ ap Some (sym (r ∙ c.lengthened.ensures.value ∙ rw (m, places) refl))
