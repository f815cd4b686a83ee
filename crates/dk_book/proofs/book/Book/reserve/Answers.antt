use Rattle.std.proofs.Common.{ap, ◌∙◌, sym, arith}
use Rattle.dk_pool.specs.Pool.{PoolState}
use Rattle.dk_book.proofs.Placed.{kept_none}
use Rattle.dk_book.proofs.Searched.{indexed_none}
use Rattle.dk_book.proofs.book.Book.reserve.Goals as goal

pub invariant_of-result : goal.invariant_of-result
invariant_of-result c =
    let rows = ap (λ (p : PoolState). p.rows) c.in_ok-reserve.ensures.begins_empty in
    let room = ap (λ (p : PoolState). p.spare) c.in_ok-reserve.ensures.begins_empty in
    record {
      kept = kept_none _ _ _ _ rows room c.requires.has_few_cards (c.in_ok-vec.ensures.items_if_clones_equal (λ y e. e));
      indexed = indexed_none _ _ _ _ rows c.in_ok-reserve-3.ensures.knows_none (c.in_ok-reserve-3.ensures.holds_cards ∙ sym room) (omega (arith, c.in_ok-reserve-3.ensures.has_room));
    }
