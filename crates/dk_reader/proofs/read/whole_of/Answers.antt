use Rattle.std.proofs.Common.{◌≡◌, ◌+◌, ◌-◌, ◌*◌, get_or, true, sym, ◌∙◌, ap}
use Rattle.std.proofs.lemmas.List.{get_or_default}
use Rattle.dk_num.specs.Numbers.{is_digit}
use Rattle.dk_reader.proofs.Wholes.{too_great}
use Rattle.dk_reader.proofs.read.whole_of.Goals as goal

-- further digits make it no smaller
pub returns-then-whole-gt4000000 : goal.returns-then-whole-gt4000000
returns-then-whole-gt4000000 c =
    let i = c.loop-byte.byte-index in
    let b = get_or c.args.bytes.now i 0 in
    let same : b ≡ get_or c.args.bytes.now i b = get_or_default c.args.bytes.now i 0 b c.loop-byte-test.true in
    let digit : is_digit b ≡ true = sym c.is_digit.ensures ∙ c.if-not-is_digit.false in
    let next : 10 * c.loop-byte.whole + c.from.result ≡ 10 * c.loop-byte.whole + (b - 48) = ap (λ d. 10 * c.loop-byte.whole + d) c.from.ensures in
    sym (too_great c.args.bytes.now i c.loop-byte.whole b (10 * c.loop-byte.whole + c.from.result) c.loop-byte-test.true same digit next c.if-whole-gt4000000.true c.loop-byte.invariant)
