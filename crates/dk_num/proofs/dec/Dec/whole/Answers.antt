use Rattle.std.proofs.Common.{◌≡◌, sym, ap, ◌∙◌, to_z, of_z, refl}
use Rattle.std.proofs.lemmas.Int.{to_z-of_z}
use Rattle.dk_num.specs.Decimal.{decimal_of}
use Rattle.dk_num.proofs.Canonical.{whole_some, same_decimal}
use Rattle.dk_num.proofs.dec.Dec.whole.Goals as goal
use mir.Syntax.{w128}

pub unreachable-requires : goal.unreachable-requires
unreachable-requires c =
    let n : to_z w128 (of_z w128 c.args.n) ≡ c.args.n = to_z-of_z w128 _ c.ranges.n in
    let got = whole_some c.args.n c.requires.is_small in
    let none = sym c.in-None.is ∙ c.of.ensures ∙ ap decimal_of (same_decimal n refl) ∙ got.1 in
    cc
