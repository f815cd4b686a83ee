-- The decimal of a whole number of a unit that is read out of a slice.
use Rattle.std.proofs.Common.{◌≡◌, ◌∙◌, ℕ, ◌^◌, ◌<◌, List, length, map, get_or, ap, sym, arith, ℤ, pos, unsigned_abs, to_z, of_z}
use Rattle.std.proofs.lemmas.Int.{to_z-of_z, fits_signed_from_abs}
use Rattle.std.proofs.lemmas.List.{get_or-map}
use Rattle.std.proofs.lemmas.List.Elements.{All-get_or}
use Rattle.std.specs.List.{All}
use Rattle.dk_num.specs.Decimal.{Decimal}
use Rattle.dk_num.specs.Units.{in_units}
use mir.Syntax.{w128}

-- a number of at most 34 digits is read as it is
unit_read : (units : List ℤ) (place : ℕ) → All (λ k. unsigned_abs k < 10 ^ 34) units → place < length units → to_z w128 (of_z w128 (get_or units place (pos 0))) ≡ get_or units place (pos 0)
unit_read units place small within =
    let few : unsigned_abs (get_or units place (pos 0)) < 10 ^ 34 = All-get_or (λ k. unsigned_abs k < 10 ^ 34) units place (pos 0) within small in
    to_z-of_z w128 (get_or units place (pos 0)) (fits_signed_from_abs w128 (get_or units place (pos 0)) (omega arith))

-- the decimal of the number that is read is the one at this place of the row
pub decimal_at : (e : ℤ) (units : List ℤ) (place : ℕ) (d : Decimal) → All (λ k. unsigned_abs k < 10 ^ 34) units → place < length units
    → d ≡ in_units e (to_z w128 (of_z w128 (get_or units place (pos 0)))) → d ≡ get_or (map (in_units e) units) place d
decimal_at e units place d small within is = is ∙ ap (in_units e) (unit_read units place small within) ∙ sym (get_or-map (in_units e) units place (pos 0) d within)
