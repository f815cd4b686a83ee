use Rattle.std.proofs.Common.{◌∙◌, sym, arith}
use Rattle.dk_results.proofs.Walks.{starts, goes_on, none_left, some_left, all_read, fails_first, read_behind}
use Rattle.dk_results.proofs.reading.read_results.Goals as goal

pub returns-then-begins_with_fail : goal.returns-then-begins_with_fail
returns-then-begins_with_fail c =
    record { gives_results = fails_first _ _ _ c.behind_space-text.ensures (sym c.begins_with_fail.ensures ∙ c.if-begins_with_fail.true) }

pub loop-place-init : goal.loop-place-init
loop-place-init c = starts _ _ _ c.behind_space-text.ensures

pub loop-place-preserved : goal.loop-place-preserved
loop-place-preserved c = goes_on _ _ _ _ _ _ _ (omega arith) c.loop-place.invariant c.in-Some.ensures

-- no number stands where one is due
pub returns-in_default : goal.returns-in_default
returns-in_default c =
    record {
      gives_results = read_behind _ _ _ _ c.behind_space-text.ensures (sym c.begins_with_fail.ensures ∙ c.if-begins_with_fail.false)
          (none_left _ _ _ _ _ (omega arith) c.loop-place.invariant c.in_default.ensures);
    }

-- nothing is left behind the values
pub returns-in-None : goal.returns-in-None
returns-in-None c =
    record {
      gives_results = read_behind _ _ _ _ c.behind_space-text.ensures (sym c.begins_with_fail.ensures ∙ c.if-begins_with_fail.false)
          (all_read _ _ _ _ _ (omega arith) c.loop-place.invariant c.in-None.ensures);
    }

-- a piece is left behind them
pub returns-in-Some-next_piece : goal.returns-in-Some-next_piece
returns-in-Some-next_piece c =
    record {
      gives_results = read_behind _ _ _ _ c.behind_space-text.ensures (sym c.begins_with_fail.ensures ∙ c.if-begins_with_fail.false)
          (some_left _ _ _ _ _ _ _ (omega arith) c.loop-place.invariant c.in-Some-next_piece.ensures);
    }
