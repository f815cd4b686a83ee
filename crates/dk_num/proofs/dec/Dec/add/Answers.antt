use Rattle.std.proofs.Common.{◌≡◌, arith, rules, sym, ◌∙◌, to_z, of_z}
use Rattle.std.proofs.lemmas.Int.{to_z-of_z}
use Rattle.dk_num.proofs.Canonical.{exponent_near}
use Rattle.dk_num.proofs.Sums.{nonzero, sum_of_some}
use Rattle.dk_num.proofs.dec.Dec.add.Goals as goal
use mir.Syntax.{w128, w32}

pub sum-requires-clause-near_first : goal.sum-requires-clause-near_first
sum-requires-clause-near_first c =
    let near = exponent_near _ c.self.invariant in
    let e : to_z w32 (of_z w32 c.self.inside.exponent) ≡ c.self.inside.exponent = to_z-of_z w32 _ (search rules) in
    rw e (omega arith)

pub sum-requires-clause-near_second : goal.sum-requires-clause-near_second
sum-requires-clause-near_second c =
    let near = exponent_near _ c.other.invariant in
    let e : to_z w32 (of_z w32 c.other.inside.exponent) ≡ c.other.inside.exponent = to_z-of_z w32 _ (search rules) in
    rw e (omega arith)

pub returns : goal.returns
returns c = record {
  gives_sum =
      let a : to_z w128 (of_z w128 c.self.inside.mantissa) ≡ c.self.inside.mantissa = to_z-of_z w128 _ (search rules) in
      let b : to_z w128 (of_z w128 c.other.inside.mantissa) ≡ c.other.inside.mantissa = to_z-of_z w128 _ (search rules) in
      let p : to_z w32 (of_z w32 c.self.inside.exponent) ≡ c.self.inside.exponent = to_z-of_z w32 _ (search rules) in
      let q : to_z w32 (of_z w32 c.other.inside.exponent) ≡ c.other.inside.exponent = to_z-of_z w32 _ (search rules) in
      rw (← c.self.view_is, ← c.other.view_is)
      (rw (a, b, p, q) at c.sum.ensures ∙ sym (sum_of_some
      (record { mantissa = c.self.inside.mantissa; exponent = c.self.inside.exponent })
      (record { mantissa = c.other.inside.mantissa; exponent = c.other.inside.exponent })
      (nonzero c.self.inside.mantissa c.if-self-eq0.false) (nonzero c.other.inside.mantissa c.if-other-eq0.false)));
}
