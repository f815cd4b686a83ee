use Rattle.std.proofs.Common.{◌≡◌, ◌∙◌, sym, rules, pos, ◌+ℤ◌, ◌-ℤ◌, length, to_z, of_z}
use Rattle.std.proofs.lemmas.Int.{to_z-of_z}
use Rattle.dk_num.proofs.Bodies.{body_plain, body_exponent}
use Rattle.dk_num.proofs.text.put_body.Goals as goal
use mir.Syntax.{w32}

pub returns-then-is_plain-clause-text : goal.returns-then-is_plain-clause-text
returns-then-is_plain-clause-text c =
    let e : to_z w32 (of_z w32 c.args.exponent) ≡ c.args.exponent = to_z-of_z w32 _ c.ranges.exponent in
    let r : to_z w32 (of_z w32 c.leading_of-leading.result) ≡ c.leading_of-leading.result = to_z-of_z w32 _ (search rules) in
    let l : to_z w32 (of_z w32 c.leading_of-leading.result) ≡ (c.args.exponent +ℤ pos (length c.args.digits.now)) -ℤ pos 1 = r ∙ rw e at c.leading_of-leading.ensures in
    body_plain c.args.digits.now c.args.exponent ((c.args.exponent +ℤ pos (length c.args.digits.now)) -ℤ pos 1) c.args.line.now _ (rw l at (sym c.is_plain.ensures ∙ c.if-is_plain.true)) (rw e at c.put_plain.ensures.text)

pub returns-else-is_plain-clause-text : goal.returns-else-is_plain-clause-text
returns-else-is_plain-clause-text c =
    let e : to_z w32 (of_z w32 c.args.exponent) ≡ c.args.exponent = to_z-of_z w32 _ c.ranges.exponent in
    let r : to_z w32 (of_z w32 c.leading_of-leading.result) ≡ c.leading_of-leading.result = to_z-of_z w32 _ (search rules) in
    let l : to_z w32 (of_z w32 c.leading_of-leading.result) ≡ (c.args.exponent +ℤ pos (length c.args.digits.now)) -ℤ pos 1 = r ∙ rw e at c.leading_of-leading.ensures in
    body_exponent c.args.digits.now c.args.exponent ((c.args.exponent +ℤ pos (length c.args.digits.now)) -ℤ pos 1) c.args.line.now c.put_pointed.new.line _ (rw l at (sym c.is_plain.ensures ∙ c.if-is_plain.false)) c.put_pointed.ensures.text (rw l at c.put_exponent.ensures.text)
