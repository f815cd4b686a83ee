use Rattle.dk_journal.proofs.Due.{next_is_due, placed_spare, not_due}
use Rattle.dk_journal.proofs.records.put_entry.Goals as goal

pub returns-then-not-is_due-clause-puts : goal.returns-then-not-is_due-clause-puts
returns-then-not-is_due-clause-puts c = λ entries stands.
    let placed = c.place-card.ensures.stands_for_entries entries stands in (
      placed,
      placed_spare _ _ _ _ _ c.place-card.ensures.places_card c.place-card.ensures.takes_room,
      c.place-card.ensures.keeps_room,
      λ next. not_due _ c.if-not-is_due.true c.is_due.ensures.is_next_of_card.1
          (next_is_due c.place-card.new.self entries c.place-card.result.index c.args.point.now c.args.attempt c.place-card.ensures.is_book placed c.place-card.ensures.names_same_point next),
    )
