use Rattle.std.proofs.Common.{◌≡◌, ◌+◌, ap, ◌∙◌, sym, rules, pos, ◌+ℤ◌, ◌-ℤ◌, unsigned_abs, to_z, of_z, true}
use Rattle.std.proofs.lemmas.Int.{to_z-of_z}
use Rattle.dk_num.specs.Decimal.{is_in_range}
use Rattle.dk_num.proofs.Canonical.{canonical_like}
use Rattle.dk_num.proofs.ReadingValues.{placed_is}
use Rattle.dk_num.proofs.read.placed.Goals as goal
use mir.Syntax.{w128, w32}

pub canonical-requires : goal.canonical-requires
canonical-requires c =
    let m : to_z w128 (of_z w128 c.args.mantissa) ≡ c.args.mantissa = to_z-of_z w128 _ c.ranges.mantissa in
    let p : to_z w128 (of_z w128 c.args.place) ≡ c.args.place = to_z-of_z w128 _ c.ranges.place in
    let x : to_z w32 (of_z w32 c.exponent_above.result) ≡ c.exponent_above.result = to_z-of_z w32 _ (search rules) in
    let range : is_in_range ((c.args.place +ℤ pos (c.args.count + c.args.zeros)) -ℤ pos 1) ≡ true
    = ap (λ n. is_in_range ((c.args.place +ℤ pos n) -ℤ pos 1)) (sym c.all_digits.ensures) ∙ sym (rw p at c.leads.ensures) ∙ c.if-leads.true in
    canonical_like (record { mantissa = c.args.mantissa; exponent = c.args.place +ℤ pos c.args.zeros }) _ _ (ap unsigned_abs m) (x ∙ rw p at c.exponent_above.ensures)
    (placed_is c.args.mantissa c.args.place c.args.count c.args.zeros c.requires.some c.requires.count c.requires.ends c.requires.few range)
