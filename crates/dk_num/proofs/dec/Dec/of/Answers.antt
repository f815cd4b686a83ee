use Rattle.std.proofs.Common.{◌≡◌, ◌+ℤ◌, ◌-ℤ◌, pos, arith, sym, ap, ◌∙◌, unsigned_abs, subst, Some, false, rules, to_z, of_z, FitsSigned}
use Rattle.std.proofs.lemmas.Int.{to_z-of_z, to_z_pos}
use Rattle.dk_num.specs.Decimal.{digit_count, is_in_range, IsCanonical}
use Rattle.dk_num.proofs.Values.{found, canonical_is_canonical}
use Rattle.dk_num.proofs.Canonical.{decimal_of_zero, decimal_of_large, decimal_of_far, decimal_of_some}
use Rattle.dk_num.proofs.dec.Dec.of.Goals as goal
use mir.Syntax.{w128, w32}

pub returns-then-magnitude-eq0 : goal.returns-then-magnitude-eq0
returns-then-magnitude-eq0 c =
    let m : to_z w128 (of_z w128 c.args.mantissa) ≡ c.args.mantissa = to_z-of_z w128 _ c.ranges.mantissa in
    sym (decimal_of_zero _ (ap unsigned_abs (sym m) ∙ sym c.unsigned_abs-magnitude.ensures.value ∙ c.if-magnitude-eq0.true))

pub returns-then-magnitude-ge-LIMIT : goal.returns-then-magnitude-ge-LIMIT
returns-then-magnitude-ge-LIMIT c =
    let m : to_z w128 (of_z w128 c.args.mantissa) ≡ c.args.mantissa = to_z-of_z w128 _ c.ranges.mantissa in
    let is : c.unsigned_abs-magnitude.result ≡ unsigned_abs c.args.mantissa = c.unsigned_abs-magnitude.ensures.value ∙ ap unsigned_abs m in
    sym (decimal_of_large _ (omega arith))

pub returns-then-not-leads_in_range : goal.returns-then-not-leads_in_range
returns-then-not-leads_in_range c =
    let m : to_z w128 (of_z w128 c.args.mantissa) ≡ c.args.mantissa = to_z-of_z w128 _ c.ranges.mantissa in
    let e : to_z w32 (of_z w32 c.args.exponent) ≡ c.args.exponent = to_z-of_z w32 _ c.ranges.exponent in
    let is : c.unsigned_abs-magnitude.result ≡ unsigned_abs c.args.mantissa = c.unsigned_abs-magnitude.ensures.value ∙ ap unsigned_abs m in
    let range : is_in_range ((c.args.exponent +ℤ pos (digit_count (unsigned_abs c.args.mantissa))) -ℤ pos 1) ≡ false
    = ap (λ x. is_in_range ((x +ℤ pos (digit_count (unsigned_abs c.args.mantissa))) -ℤ pos 1)) (sym e) ∙ ap (λ n. is_in_range ((to_z w32 (of_z w32 c.args.exponent) +ℤ pos (digit_count n)) -ℤ pos 1)) (sym is) ∙ sym c.leads_in_range.ensures ∙ c.if-not-leads_in_range.true in
    sym (decimal_of_far _ (omega arith) range)

pub invariant_of-result-2 : goal.invariant_of-result-2
invariant_of-result-2 c =
    let m : to_z w128 (of_z w128 c.args.mantissa) ≡ c.args.mantissa = to_z-of_z w128 _ c.ranges.mantissa in
    let e : to_z w32 (of_z w32 c.args.exponent) ≡ c.args.exponent = to_z-of_z w32 _ c.ranges.exponent in
    let r : to_z w128 (of_z w128 c.signed.result) ≡ c.signed.result = to_z-of_z w128 _ (search rules) in
    let z : to_z w32 c.strip-stripped.result.zeros ≡ pos c.strip-stripped.result.zeros = to_z_pos w32 _ (omega (arith, c.strip-stripped.ensures.few)) in
    let fits : FitsSigned w32 (to_z w32 (of_z w32 c.args.exponent) +ℤ to_z w32 c.strip-stripped.result.zeros) = search rules in
    let x : to_z w32 (of_z w32 (to_z w32 (of_z w32 c.args.exponent) +ℤ to_z w32 c.strip-stripped.result.zeros)) ≡ to_z w32 (of_z w32 c.args.exponent) +ℤ pos c.strip-stripped.result.zeros
    = to_z-of_z w32 _ fits ∙ ap (λ y. to_z w32 (of_z w32 c.args.exponent) +ℤ y) z in
    let got = found _ _ _ _ _ _ _ _ _ m e c.unsigned_abs-magnitude.ensures.value c.if-magnitude-eq0.false c.if-magnitude-ge-LIMIT.false c.if-not-leads_in_range.ensures
    c.strip-stripped.ensures.zeros c.strip-stripped.ensures.whole (r ∙ c.signed.ensures) x in
    subst IsCanonical (sym got.same) (canonical_is_canonical (record { mantissa = c.args.mantissa; exponent = c.args.exponent }) got.some got.small got.range)

pub returns : goal.returns
returns c =
    let m : to_z w128 (of_z w128 c.args.mantissa) ≡ c.args.mantissa = to_z-of_z w128 _ c.ranges.mantissa in
    let e : to_z w32 (of_z w32 c.args.exponent) ≡ c.args.exponent = to_z-of_z w32 _ c.ranges.exponent in
    let r : to_z w128 (of_z w128 c.signed.result) ≡ c.signed.result = to_z-of_z w128 _ (search rules) in
    let z : to_z w32 c.strip-stripped.result.zeros ≡ pos c.strip-stripped.result.zeros = to_z_pos w32 _ (omega (arith, c.strip-stripped.ensures.few)) in
    let fits : FitsSigned w32 (to_z w32 (of_z w32 c.args.exponent) +ℤ to_z w32 c.strip-stripped.result.zeros) = search rules in
    let x : to_z w32 (of_z w32 (to_z w32 (of_z w32 c.args.exponent) +ℤ to_z w32 c.strip-stripped.result.zeros)) ≡ to_z w32 (of_z w32 c.args.exponent) +ℤ pos c.strip-stripped.result.zeros
    = to_z-of_z w32 _ fits ∙ ap (λ y. to_z w32 (of_z w32 c.args.exponent) +ℤ y) z in
    let got = found _ _ _ _ _ _ _ _ _ m e c.unsigned_abs-magnitude.ensures.value c.if-magnitude-eq0.false c.if-magnitude-ge-LIMIT.false c.if-not-leads_in_range.ensures
    c.strip-stripped.ensures.zeros c.strip-stripped.ensures.whole (r ∙ c.signed.ensures) x in
    ap Some got.same ∙ sym (decimal_of_some _ got.some got.small got.range)
