use Rattle.std.proofs.Common.{◌+◌, ◌*◌, ◌^◌, ◌≤◌, sym, subst, arith}
use Rattle.dk_journal.proofs.Walked.{counted_fits}
use Rattle.dk_journal.proofs.reading.fill_book.Goals as goal

pub overflow_add-counts : goal.overflow_add-counts
overflow_add-counts c = let f = counted_fits _ _ _ _ _ _ c.count_records-counts.ensures c.requires.has_few_bytes c.requires.has_variables c.requires.has_responses c.requires.has_few_cards in omega (arith, f.cards_fit)

pub overflow_add-counts-2 : goal.overflow_add-counts-2
overflow_add-counts-2 c = let f = counted_fits _ _ _ _ _ _ c.count_records-counts.ensures c.requires.has_few_bytes c.requires.has_variables c.requires.has_responses c.requires.has_few_cards in omega (arith, f.values_fit)

pub reserve-requires-clause-has_few_cards : goal.reserve-requires-clause-has_few_cards
reserve-requires-clause-has_few_cards c = (counted_fits _ _ _ _ _ _ c.count_records-counts.ensures c.requires.has_few_bytes c.requires.has_variables c.requires.has_responses c.requires.has_few_cards).cards_fit

pub reserve-requires-clause-has_few_values : goal.reserve-requires-clause-has_few_values
reserve-requires-clause-has_few_values c = (counted_fits _ _ _ _ _ _ c.count_records-counts.ensures c.requires.has_few_bytes c.requires.has_variables c.requires.has_responses c.requires.has_few_cards).values_fit

pub reserve-requires-clause-fits_points : goal.reserve-requires-clause-fits_points
reserve-requires-clause-fits_points c =
    subst (λ n. (c.count_records-counts.result.records + c.args.cards) * n ≤ 2 ^ 25) (sym c.count_records-counts.auto.point)
    (counted_fits _ _ _ _ _ _ c.count_records-counts.ensures c.requires.has_few_bytes c.requires.has_variables c.requires.has_responses c.requires.has_few_cards).points_fit

pub reserve-requires-clause-fits_values : goal.reserve-requires-clause-fits_values
reserve-requires-clause-fits_values c =
    subst (λ m. (c.count_records-counts.result.values + c.args.cards) * m ≤ 2 ^ 25) (sym c.count_records-counts.auto.values)
    (counted_fits _ _ _ _ _ _ c.count_records-counts.ensures c.requires.has_few_bytes c.requires.has_variables c.requires.has_responses c.requires.has_few_cards).all_values_fit
