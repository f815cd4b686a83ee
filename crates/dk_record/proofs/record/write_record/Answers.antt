use Rattle.std.proofs.Common.{arith}
use Rattle.dk_record.proofs.Bytes.{kept}
use Rattle.dk_record.proofs.record.write_record.Goals as goal

pub returns-in-Failed-clause-keeps_rest : goal.returns-in-Failed-clause-keeps_rest
returns-in-Failed-clause-keeps_rest c =
    kept c.put_bytes-at.result c.put_bytes.result c.args.out.now c.put_bytes-at.new.out c.put_bytes.new.out (omega arith)
    (kept c.put_decimals-at.result c.put_bytes-at.result c.args.out.now c.put_decimals-at.new.out c.put_bytes-at.new.out (omega arith) c.put_decimals-at.ensures.rest c.put_bytes-at.ensures.rest)
    c.put_bytes.ensures.rest

pub returns-in-Values-clause-keeps_rest : goal.returns-in-Values-clause-keeps_rest
returns-in-Values-clause-keeps_rest c =
    kept c.put_bytes-at-in-Values.result c.put_decimals.result c.args.out.now c.put_bytes-at-in-Values.new.out c.put_decimals.new.out (omega arith)
    (kept c.put_bytes-at.result c.put_bytes-at-in-Values.result c.args.out.now c.put_bytes-at.new.out c.put_bytes-at-in-Values.new.out (omega arith)
    (kept c.put_decimals-at.result c.put_bytes-at.result c.args.out.now c.put_decimals-at.new.out c.put_bytes-at.new.out (omega arith) c.put_decimals-at.ensures.rest c.put_bytes-at.ensures.rest)
    c.put_bytes-at-in-Values.ensures.rest)
    c.put_decimals.ensures.rest
