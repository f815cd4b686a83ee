use Rattle.std.proofs.Common.{sym, arith, ◌≡◌, true, false}
use Rattle.dk_compass.proofs.Least.{is_less, read_less, least_keeps, least_takes, first_least_is}
use Rattle.dk_compass.proofs.choice.least.Goals as goal
use Rattle.dk_compass.proofs.choice.least.Goals.{then-is_less, else-is_less}

pub loop-place-preserved : goal.loop-place-preserved
loop-place-preserved c =
    let inside = c.loop-place.invariant.within in
    elim c.if-is_less.branch [
      | then-is_less w ↦
          let less : is_less c.index-values-place.result c.index-values-least.result ≡ true = sym w.if-is_less.ensures in
          rw w.least-is (least_takes c.args.values.now c.loop-place.place c.loop-place.least (omega arith) (read_less c.args.values.now c.loop-place.place c.loop-place.least _ _ true (omega arith) (omega arith) c.index-values-place.is c.index-values-least.is less) c.loop-place.invariant)
      | else-is_less w ↦
          let less : is_less c.index-values-place.result c.index-values-least.result ≡ false = sym w.if-is_less.ensures in
          rw w.least-is (least_keeps c.args.values.now c.loop-place.place c.loop-place.least (read_less c.args.values.now c.loop-place.place c.loop-place.least _ _ false (omega arith) (omega arith) c.index-values-place.is c.index-values-least.is less) c.loop-place.invariant)
    ]

pub returns-clause-value : goal.returns-clause-value
returns-clause-value c = sym (first_least_is _ c.loop-place.place c.loop-place.least (omega arith) c.loop-place.invariant)
