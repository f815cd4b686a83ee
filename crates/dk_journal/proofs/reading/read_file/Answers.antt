use Rattle.std.proofs.Common.{sym}
use Rattle.dk_journal.proofs.Due.{not_due}
use Rattle.dk_journal.proofs.Read.{header_there, starts_there, entries_there, damage_there}
use Rattle.dk_journal.proofs.reading.read_file.Goals as goal

pub returns-then-not-is_same_shape : goal.returns-then-not-is_same_shape
returns-then-not-is_same_shape c = record {
  reads = (
    header_there _ _ _ _ _ c.in-Some.ensures.cases.0 c.in_ok-stored.ensures.reads c.in-Some-2.is,
    not_due _ c.if-not-is_same_shape.true c.is_same_shape.ensures.1,
  );
}

pub returns-then-is_closed : goal.returns-then-is_closed
returns-then-is_closed c =
    let starts = starts_there _ _ _ _ _ _ c.requires.is_born c.in-Some.ensures.cases.0 c.in_ok-stored.ensures.reads c.in-Some-2.is (c.is_same_shape.ensures.0 c.if-not-is_same_shape.false) in
    record { reads = entries_there _ _ _ starts _ _ _ _ c.in_ok-book.ensures.puts c.in_ok-book.ensures.has_widths.0 c.in_ok-book.ensures.has_widths.1 (sym c.if-is_closed.ensures) }

pub returns : goal.returns
returns c =
    let starts = starts_there _ _ _ _ _ _ c.requires.is_born c.in-Some.ensures.cases.0 c.in_ok-stored.ensures.reads c.in-Some-2.is (c.is_same_shape.ensures.0 c.if-not-is_same_shape.false) in
    record { reads = (starts.has_header, damage_there _ _ _ starts _ _ _ _ c.in_ok-book.ensures.puts c.in_ok-book.ensures.has_widths.0 c.in_ok-book.ensures.has_widths.1 (sym c.if-is_closed.ensures)) }
