use Rattle.std.proofs.Common.{take, arith}
use Rattle.std.proofs.lemmas.List.{length-take-le}
use Rattle.dk_num.specs.Decimal.{IsCanonical}
use Rattle.dk_record.specs.Payloads.{decimal_bytes}
use Rattle.dk_record.proofs.Bytes.{decimal_same}
use Rattle.dk_record.proofs.Fronts.{none_more, each_more, place_more}
use Rattle.dk_record.proofs.cursor.read_decimals.Goals as goal

pub returns-in_default : goal.returns-in_default
returns-in_default c other tail b =
    let l = c.loop-place in
    let long = length-take-le l.place l.out (omega (arith, c.loop-place-test.true)) in
    none_more IsCanonical decimal_bytes decimal_same (take l.place l.out) other c.args.bytes.now l.rest.now tail l.invariant.each l.invariant.split c.in_default.ensures b.is_one.each
    (omega (arith, long, b.is_one.long, c.loop-place-test.true, l.auto.out)) b.split

pub loop-place-preserved : goal.loop-place-preserved
loop-place-preserved c = record {
  each = each_more IsCanonical c.loop-place.out c.loop-place.place c.in-Some.found.0 (omega (arith, c.loop-place-test.true, c.loop-place.auto.out)) c.loop-place.invariant.each c.in-Some.ensures.is_one;
  split = place_more decimal_bytes c.loop-place.out c.loop-place.place c.in-Some.found.0 c.args.bytes.now c.loop-place.rest.now c.in-Some.found.1.now (omega (arith, c.loop-place-test.true, c.loop-place.auto.out)) c.loop-place.invariant.split c.in-Some.ensures.split;
}
