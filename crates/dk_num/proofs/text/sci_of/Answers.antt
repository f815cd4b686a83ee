use Rattle.std.proofs.Common.{◌≡◌, ◌==◌, ◌∙◌, List, ◌++◌, ℕ, false, refl, ap, arith, rules, ℤ, pos, ◌+ℤ◌, ◌-ℤ◌, length, unsigned_abs, to_z, of_z}
use Rattle.std.specs.Prelude.{decimal}
use Rattle.std.proofs.lemmas.Grind.{common_steps}
use Rattle.std.proofs.lemmas.Int.{to_z-of_z}
use Rattle.dk_num.specs.Decimal.{leading, digit_count}
use Rattle.dk_num.specs.Texts.{sci_text, sign_text, pointed_fully, exponent_text}
use Rattle.dk_num.proofs.text.sci_of.Goals as goal
use mir.Syntax.{w32, w128}

text_of_parts : (m e l : ℤ) (n : ℕ) (ds signed all : List ℕ) → n ≡ unsigned_abs m → (n ≡ 0 → ⊥) → signed ≡ sign_text m →
    ds ≡ decimal n → length ds ≡ digit_count n → l ≡ (e +ℤ pos (length ds)) -ℤ pos 1 → all ≡ signed ++ (pointed_fully ds ++ exponent_text l) →
    all ≡ sci_text (record { mantissa = m; exponent = e })
unfolding sci_text
text_of_parts m e l n ds signed all magnitude some sign digits count led whole =
    let nonzero : (unsigned_abs m == 0) ≡ false = grind (arith, common_steps) in
    let first : l ≡ leading (record { mantissa = m; exponent = e }) = led ∙ ap (λ k. (e +ℤ pos k) -ℤ pos 1) (count ∙ ap digit_count magnitude) in
    rw (nonzero, whole, sign, digits, magnitude, first) refl

pub returns-clause-text : goal.returns-clause-text
returns-clause-text c =
    let m : to_z w128 (of_z w128 c.args.mantissa) ≡ c.args.mantissa = to_z-of_z w128 _ c.ranges.mantissa in
    let e : to_z w32 (of_z w32 c.args.exponent) ≡ c.args.exponent = to_z-of_z w32 _ c.ranges.exponent in
    let l : to_z w32 (of_z w32 c.leading_of.result) ≡ c.leading_of.result = to_z-of_z w32 _ (search rules) in
    text_of_parts c.args.mantissa c.args.exponent (to_z w32 (of_z w32 c.leading_of.result)) c.unsigned_abs-magnitude.result c.digits_of-digits.result.now c.put_sign.new.line _
    (rw m at c.unsigned_abs-magnitude.ensures.value) c.if-magnitude-eq0.false (rw m at c.put_sign.ensures.text)
    c.digits_of-digits.ensures.text c.digits_of-digits.ensures.count (l ∙ rw e at c.leading_of.ensures) c.put_sci-2.ensures.text
