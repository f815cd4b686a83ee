use Rattle.std.proofs.Common.{◌+◌, get_or, drop, ap, sym, subst, ◌∙◌, below_more}
use Rattle.std.specs.Prelude.{fold}
use Rattle.std.proofs.lemmas.List.{at_drop_more, get_or_default}
use Rattle.dk_num.specs.Decimal.{IsCanonical}
use Rattle.dk_book.specs.Hashes.{with_number}
use Rattle.dk_book.proofs.hash.hash_of.Goals as goal

pub loop-number-preserved : goal.loop-number-preserved
loop-number-preserved c = record {
  value =
      ap (λ hash. fold with_number hash (drop (c.loop-number.number-index + 1) c.args.point.now))
      (c.with_number-hash.ensures.value ∙ ap (with_number c.loop-number.hash) c.number-item.is)
      ∙ sym (at_drop_more (fold with_number c.loop-number.hash) c.args.point.now c.loop-number.number-index c.number-item.result c.loop-number-test.true)
      ∙ c.loop-number.invariant.value;
  canonical = λ k d. below_more (λ k. IsCanonical (get_or c.args.point.now k d)) c.loop-number.number-index (λ k l. c.loop-number.invariant.canonical k d l)
      (subst IsCanonical (c.number-item.is ∙ get_or_default c.args.point.now c.loop-number.number-index c.number-item.result d c.loop-number-test.true) c.with_number-hash.ensures.canonical) k;
}
