use Rattle.std.proofs.Common.{◌≡◌, sym, ap, ◌∙◌, to_z, of_z, rules}
use Rattle.std.proofs.lemmas.Int.{to_z-of_z}
use Rattle.dk_num.specs.Decimal.{decimal_of}
use Rattle.dk_num.proofs.Canonical.{same_decimal}
use Rattle.dk_num.proofs.Multiples.{units_some}
use Rattle.dk_num.proofs.units.from_units.Goals as goal
use mir.Syntax.{w128, w32}

pub unreachable-requires : goal.unreachable-requires
unreachable-requires c =
    let k : to_z w128 (of_z w128 c.args.k) ≡ c.args.k = to_z-of_z w128 _ c.ranges.k in
    let e : to_z w32 (of_z w32 c.args.unit.exponent) ≡ c.args.unit.exponent = to_z-of_z w32 _ (search rules) in
    let got = units_some c.args.k c.args.unit.exponent c.requires.is_small c.requires.is_unit_exponent in
    let none = sym c.in-None.is ∙ c.of.ensures ∙ ap decimal_of (same_decimal k e) ∙ got.1 in
    cc
