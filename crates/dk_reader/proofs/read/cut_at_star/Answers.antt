use Rattle.std.proofs.Common.{◌≡◌, ◌+◌, ◌<◌, length, take, drop, arith, sym, ap, ◌∙◌}
use Rattle.std.specs.List.{position_or_len, before_first}
use Rattle.std.proofs.lemmas.List.{take_rest}
use Rattle.dk_reader.specs.Values.{is_star, is_numeral}
use Rattle.dk_reader.proofs.Stars.{no_star, star_copies}
use Rattle.dk_reader.proofs.read.cut_at_star.Goals as goal

-- there is no star
pub returns-then-at-bytes : goal.returns-then-at-bytes
returns-then-at-bytes c = no_star c.args.bytes.now (sym c.star_at-at.ensures.gives_place ∙ c.if-at-bytes.true)

-- digits stand before the star
pub returns-then-is_numeral : goal.returns-then-is_numeral
returns-then-is_numeral c =
    let bytes = c.args.bytes.now in
    let at = c.star_at-at.result in
    let place : at ≡ position_or_len is_star bytes = c.star_at-at.ensures.gives_place in
    let within : position_or_len is_star bytes < length bytes = omega (arith, place, c.star_at-at.ensures.lies_within, c.if-at-bytes.false) in
    let front : take at bytes ≡ before_first is_star bytes = ap (λ n. take n bytes) place in (
      star_copies bytes within ∙ ap is_numeral (sym front) ∙ sym c.is_numeral.ensures ∙ c.if-is_numeral.true,
      front,
      take_rest bytes (at + 1) ∙ ap (λ n. drop (n + 1) bytes) place,
    )
