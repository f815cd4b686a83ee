use Rattle.std.proofs.Common.{◌≡◌, ◌+◌, ◌<◌, ◌^◌, ◌∙◌, ap, sym, arith, rules, length, to_z, of_z, Bool, Ok, codes}
use Rattle.std.specs.Prelude.{nat_eq}
use Rattle.std.specs.List.{starts_with}
use Rattle.std.proofs.lemmas.Int.{to_z-of_z}
use Rattle.dk_num.specs.Numbers.{numeral_value}
use Rattle.dk_num.specs.Reading.{spelling}
use Rattle.dk_num.proofs.Significands.{core_small}
use Rattle.dk_num.proofs.ReadingValues.{too_long_is, zero_is, near_is, bounded_is, outcome}
use Rattle.dk_num.proofs.read.number_of.Goals as goal
use mir.Syntax.{w128}

pub returns-in-None : goal.returns-in-None
returns-in-None c = sym (too_long_is (spelling c.args.pieces.now) c.in-None.ensures.is)

pub returns-then-number-eq0 : goal.returns-then-number-eq0
returns-then-number-eq0 c = ap Ok c.canonical.ensures ∙ sym (zero_is (spelling c.args.pieces.now) c.in-Some.number c.in-Some.ensures.is c.if-number-eq0.true)

pub signed-requires : goal.signed-requires
signed-requires c = let small = core_small _ c.in-Some.number c.in-Some.ensures.is in omega arith

pub returns : goal.returns
returns c =
    let b : Bool = starts_with nat_eq c.args.pieces.now.sign.now (codes "-") in
    let x : Bool = starts_with nat_eq c.args.pieces.now.exponent_sign.now (codes "-") in
    let few = c.in-Some.ensures.is.few in
    let room : c.in-Some.number.count + c.in-Some.number.zeros < 2 ^ 65 = omega (arith, c.in-Some.ensures.zeros) in
    let short : length c.args.pieces.now.fraction.now < 2 ^ 64 = omega arith in
    let m : to_z w128 (of_z w128 c.signed.result) ≡ c.signed.result = to_z-of_z w128 _ (search rules) in
    let e : to_z w128 (of_z w128 c.last_place-place.result) ≡ c.last_place-place.result = to_z-of_z w128 _ (search rules) in
    let placed : c.placed.result ≡ outcome b c.in-Some.number c.last_place-place.result = rw (m, e, c.signed.ensures) at c.placed.ensures in
    placed ∙ ap (outcome b c.in-Some.number) c.last_place-place.ensures.value ∙ bounded_is b x c.in-Some.number (numeral_value c.args.pieces.now.exponent.now) (length c.args.pieces.now.fraction.now) short room
    ∙ sym (near_is (spelling c.args.pieces.now) c.in-Some.number c.in-Some.ensures.is c.if-number-eq0.false)
