use Rattle.std.proofs.Common.{◌≡◌, ◌∙◌, ap, sym, subst, arith, Err, ◌<◌, length, true, false}
use Rattle.std.proofs.lemmas.Grind.{common_steps}
use Rattle.dk_num.specs.Numbers.{AreDigits, number_of, parts, is_complete, spelled}
use Rattle.dk_num.specs.Reading.{spelling}
use Rattle.dk_num.specs.declared.read.NumFault.TheVariants.{Shape}
use Rattle.dk_num.proofs.Readings.{whole_digits, fraction_digits, exponent_digits, reads_empty, reads_complete, reads_incomplete, complete_is, left_is}
use Rattle.dk_num.proofs.dec.Dec.read.Goals as goal

pub returns-then-is_empty : goal.returns-then-is_empty
returns-then-is_empty c = record { gives_reading = sym (reads_empty c.args.text.now (grind (arith, common_steps))) }

pub number_of-requires-clause-whole : goal.number_of-requires-clause-whole
number_of-requires-clause-whole c = subst AreDigits (sym (ap (λ s. s.whole) c.cut-pieces.ensures.parts)) (whole_digits c.args.text.now)

pub number_of-requires-clause-fraction : goal.number_of-requires-clause-fraction
number_of-requires-clause-fraction c = subst AreDigits (sym (ap (λ s. s.fraction) c.cut-pieces.ensures.parts)) (fraction_digits c.args.text.now)

pub number_of-requires-clause-exponent : goal.number_of-requires-clause-exponent
number_of-requires-clause-exponent c = subst AreDigits (sym (ap (λ s. s.exponent) c.cut-pieces.ensures.parts)) (exponent_digits c.args.text.now)

pub returns-then-is_complete : goal.returns-then-is_complete
returns-then-is_complete c = record {
  gives_reading =
      let some : 0 < length c.args.text.now = grind (arith, common_steps) in
      let whole : is_complete c.args.text.now (parts c.args.text.now) ≡ true
      = ap (is_complete c.args.text.now) (sym c.cut-pieces.ensures.parts) ∙ complete_is _ c.cut-pieces.result.rest.now (spelling c.cut-pieces.result) c.cut-pieces.ensures.bytes ∙ sym c.is_complete.ensures ∙ c.if-is_complete.true in
      c.number_of.ensures ∙ ap number_of c.cut-pieces.ensures.parts ∙ sym (reads_complete c.args.text.now some whole);
}

pub returns-else-is_complete : goal.returns-else-is_complete
returns-else-is_complete c = record {
  gives_reading =
      let some : 0 < length c.args.text.now = grind (arith, common_steps) in
      let part : is_complete c.args.text.now (parts c.args.text.now) ≡ false
      = ap (is_complete c.args.text.now) (sym c.cut-pieces.ensures.parts) ∙ complete_is _ c.cut-pieces.result.rest.now (spelling c.cut-pieces.result) c.cut-pieces.ensures.bytes ∙ sym c.is_complete.ensures ∙ c.if-is_complete.false in
      ap (λ n. Err (Shape n)) (left_is _ c.cut-pieces.result.rest.now (spelling c.cut-pieces.result) c.cut-pieces.ensures.bytes ∙ ap (λ s. length (spelled s)) c.cut-pieces.ensures.parts) ∙ sym (reads_incomplete c.args.text.now some part);
}
