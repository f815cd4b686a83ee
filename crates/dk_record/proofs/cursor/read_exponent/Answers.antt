use Rattle.std.proofs.Common.{arith}
use Rattle.std.specs.Int.{w16}
use Rattle.std.proofs.lemmas.Int.{of_z-to_z}
use Rattle.dk_record.proofs.Numbers.{signed_read}
use Rattle.dk_record.proofs.cursor.read_exponent.Goals as goal

pub returns : goal.returns
returns c =
    let cases = c.in-Some.ensures.cases in
    signed_read 1 c.args.bytes.now c.in-Some.exponent.now c.in-Some.rest.now cases.0 cases.1 (omega (arith, cases.2)) (λ i. search (arith, c.type_inv.bytes i)) w16 c.from_le_bytes.result (of_z-to_z w16) c.from_le_bytes.ensures
