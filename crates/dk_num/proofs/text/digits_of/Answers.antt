use Rattle.std.proofs.Common.{◌≡◌, ◌-◌, ◌∙◌, ap, length, take, drop, arith, length-drop}
use Rattle.std.proofs.lemmas.List.{take_all}
use Rattle.dk_num.proofs.Lengths.{decimal_length}
use Rattle.dk_num.proofs.Digits.{digit_count_some, digit_count_below}
use Rattle.dk_num.proofs.text.digits_of.Goals as goal

pub returns : goal.returns
returns c =
    let whole : take (40 - c.write_digits-start.result) (drop c.write_digits-start.result c.write_digits-start.new.buffer) ≡ drop c.write_digits-start.result c.write_digits-start.new.buffer
    = take_all _ _ (omega (arith, length-drop c.write_digits-start.result c.write_digits-start.new.buffer, c.write_digits-start.array_long)) in
    let text = whole ∙ c.write_digits-start.ensures.text in
    let count = ap length text ∙ decimal_length c.args.magnitude c.requires.some c.requires.small in
    record { text = text; count = count; some = omega (arith, count, digit_count_some _ c.requires.some); few = omega (arith, count, digit_count_below 34 _ c.requires.small) }
