use Rattle.std.proofs.Common.{◌≤◌, ◌^◌, subst, sym, refl, arith}
use Rattle.dk_num.proofs.Powers.{tens_at, ten_pow_le}
use Rattle.dk_num.specs.declared.dec.TheConstants.{POWERS}
use Rattle.dk_num.proofs.dec.power_of_ten.Goals as goal

pub returns-clause-value : goal.returns-clause-value
returns-clause-value c = tens_at 0 POWERS c.args.places c.args.places refl (omega arith) (omega arith)

pub returns-clause-small : goal.returns-clause-small
returns-clause-small c = subst (λ n. n ≤ 10 ^ 34) (sym (tens_at 0 POWERS c.args.places c.args.places refl (omega arith) (omega arith))) (ten_pow_le c.args.places 34 (omega arith))
