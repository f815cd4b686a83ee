use Rattle.std.proofs.Common.{arith, ◌≡◌, ◌<◌, ◌*◌, ◌^◌, ap}
use Rattle.dk_num.proofs.Orders.{far_greater, large_greater}
use Rattle.dk_num.proofs.Powers.{shifted_small}
use Rattle.dk_num.proofs.order.compare_scaled.Goals as goal

pub returns-then-d-gt34 : goal.returns-then-d-gt34
returns-then-d-gt34 c = let some : 0 < c.args.m = omega arith in far_greater _ _ _ some c.if-d-gt34.true c.requires

pub returns-then-m-power_of_ten : goal.returns-then-m-power_of_ten
returns-then-m-power_of_ten c = large_greater c.args.m c.args.d c.args.n (omega arith) (omega (arith, c.power_of_ten.ensures.value)) c.requires

pub overflow_mul-m : goal.overflow_mul-m
overflow_mul-m c =
    let s : c.args.m * 10 ^ c.args.d < 10 ^ 34 = shifted_small c.args.m c.args.d (omega arith) (omega (arith, c.power_of_ten.ensures.value)) in
    let p : c.args.m * c.power_of_ten-2.result ≡ c.args.m * 10 ^ c.args.d = ap (λ n. c.args.m * n) c.power_of_ten-2.ensures.value in
    omega arith
