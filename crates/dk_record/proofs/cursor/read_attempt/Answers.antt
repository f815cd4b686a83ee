use Rattle.std.proofs.Common.{arith}
use Rattle.dk_record.proofs.Numbers.{number_read}
use Rattle.dk_record.proofs.cursor.read_attempt.Goals as goal

pub returns : goal.returns
returns c =
    let cases = c.in-Some.ensures.cases in
    record {
      is_one = record { first = omega (arith, c.if-attempt-lt1.false); last = search arith };
      split = number_read 3 c.args.bytes.now c.in-Some.attempt.now c.in-Some.rest.now cases.0 cases.1 (omega (arith, cases.2)) (λ i. search (arith, c.type_inv.bytes i)) c.from_le_bytes-attempt.result c.from_le_bytes-attempt.ensures;
    }
