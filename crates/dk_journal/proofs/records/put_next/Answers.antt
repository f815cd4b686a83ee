use Rattle.std.proofs.Common.{ap, arith}
use Rattle.dk_types.specs.declared.entry.Said.{Said}
use Rattle.dk_types.specs.Entries.{kept}
use Rattle.dk_book.specs.Books.{room_taken}
use Rattle.dk_journal.specs.Walks.{HasNoRecord}
use Rattle.dk_journal.proofs.Walked.{at_widths, record_at, room_here, put_here, none_due, none_there}
use Rattle.dk_journal.proofs.records.put_next.Goals as goal

pub put_entry-requires-clause-has_room : goal.put_entry-requires-clause-has_room
put_entry-requires-clause-has_room c =
    let here = room_here _ _ _ _ _ 0 c.args.book.now (record_at _ _ _ _ _ _ _ c.requires.has_width_of_points c.requires.has_width_of_values c.in-Some.ensures) c.requires.has_room in
    omega (arith, here.1, ap (λ (s : Said). room_taken s) c.outcome_by-outcome.ensures)

pub returns-in_default-clause-puts : goal.returns-in_default-clause-puts
returns-in_default-clause-puts c = λ entries cards stands room.
    none_there _ _ cards entries _ _
    (at_widths (λ n m. HasNoRecord n m c.args.bytes.now) _ _ _ _ c.requires.has_width_of_points c.requires.has_width_of_values c.in_default.ensures) stands room

pub returns-then-not-put_entry-clause-puts : goal.returns-then-not-put_entry-clause-puts
returns-then-not-put_entry-clause-puts c = λ entries cards stands room.
    none_due _ _ cards entries _ _ _ _ _ _ (kept c.outcome_by-outcome.result) _ (record_at _ _ _ _ _ _ _ c.requires.has_width_of_points c.requires.has_width_of_values c.in-Some.ensures) room (c.if-not-put_entry.ensures.puts entries stands)

pub returns-clause-puts : goal.returns-clause-puts
returns-clause-puts c = λ entries cards stands room.
    put_here _ _ cards entries _ _ _ _ _ _ _ _ c.outcome_by-outcome.ensures (record_at _ _ _ _ _ _ _ c.requires.has_width_of_points c.requires.has_width_of_values c.in-Some.ensures) room (c.if-not-put_entry.ensures.puts entries stands)
