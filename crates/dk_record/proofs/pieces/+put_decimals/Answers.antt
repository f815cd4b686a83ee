use Rattle.std.proofs.Common.{arith}
use Rattle.dk_record.proofs.Bytes.{kept}
use Rattle.dk_record.proofs.pieces.+put_decimals.Goals as goal

pub returns-in-Some-clause-rest : goal.returns-in-Some-clause-rest
returns-in-Some-clause-rest t c =
    kept c.put_decimal-behind.result c.put_decimals.result c.args.out.now c.put_decimal-behind.new.out c.put_decimals.new.out (omega arith) c.put_decimal-behind.ensures.rest c.put_decimals.ensures.rest
