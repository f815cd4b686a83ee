use Rattle.std.proofs.Common.{◌∙◌, Some, None, arith}
use Rattle.dk_book.proofs.book.Book.said.Goals as goal
use Rattle.dk_book.proofs.Placed.{point_there}
use Rattle.dk_book.proofs.Read.{is_read, row_there, values_there, none_there, said_before, said_failed, said_behind, said_past, said_entries}

pub index-mark-requires : goal.index-mark-requires
index-mark-requires c =
    let there = point_there _ _ _ _ _ c.self.invariant.kept c.self.view_is c.requires.is_there in
    omega (arith, c.self.invariant.kept.enough)

pub returns-then-attempt-eq0-clause-tells_of_card : goal.returns-then-attempt-eq0-clause-tells_of_card
returns-then-attempt-eq0-clause-tells_of_card c =
    said_before _ _ _ _ _ (is_read _ _ _ _ _ _ c.self.invariant.kept c.self.view_is c.requires.is_there c.index-mark.ensures) c.if-attempt-eq0.true

pub returns-then-attempt-eq0-clause-tells_of_entries : goal.returns-then-attempt-eq0-clause-tells_of_entries
returns-then-attempt-eq0-clause-tells_of_entries c =
    let r = is_read _ _ _ _ _ _ c.self.invariant.kept c.self.view_is c.requires.is_there c.index-mark.ensures in
    λ entries stands. returns-then-attempt-eq0-clause-tells_of_card c ∙ said_entries _ entries _ c.args.attempt r.is_book stands

pub returns-then-attempt-mark-clause-tells_of_card : goal.returns-then-attempt-mark-clause-tells_of_card
returns-then-attempt-mark-clause-tells_of_card c =
    said_failed _ _ _ _ _ (is_read _ _ _ _ _ _ c.self.invariant.kept c.self.view_is c.requires.is_there c.index-mark.ensures) (omega arith) c.if-attempt-mark.true

pub returns-then-attempt-mark-clause-tells_of_entries : goal.returns-then-attempt-mark-clause-tells_of_entries
returns-then-attempt-mark-clause-tells_of_entries c =
    let r = is_read _ _ _ _ _ _ c.self.invariant.kept c.self.view_is c.requires.is_there c.index-mark.ensures in
    λ entries stands. returns-then-attempt-mark-clause-tells_of_card c ∙ said_entries _ entries _ c.args.attempt r.is_book stands

pub returns-then-attempt-mark-2-clause-tells_of_card : goal.returns-then-attempt-mark-2-clause-tells_of_card
returns-then-attempt-mark-2-clause-tells_of_card c =
    said_past _ _ _ _ _ (is_read _ _ _ _ _ _ c.self.invariant.kept c.self.view_is c.requires.is_there c.index-mark.ensures) (omega arith)

pub returns-then-attempt-mark-2-clause-tells_of_entries : goal.returns-then-attempt-mark-2-clause-tells_of_entries
returns-then-attempt-mark-2-clause-tells_of_entries c =
    let r = is_read _ _ _ _ _ _ c.self.invariant.kept c.self.view_is c.requires.is_there c.index-mark.ensures in
    λ entries stands. returns-then-attempt-mark-2-clause-tells_of_card c ∙ said_entries _ entries _ c.args.attempt r.is_book stands

pub row-requires : goal.row-requires
row-requires c = record { is_there = row_there _ _ _ _ _ (is_read _ _ _ _ _ _ c.self.invariant.kept c.self.view_is c.requires.is_there c.index-mark.ensures) c.in-Some.is }

pub returns-in-Some-clause-tells_of_card : goal.returns-in-Some-clause-tells_of_card
returns-in-Some-clause-tells_of_card c =
    said_behind _ _ _ _ _ (Some c.row.result.now) (is_read _ _ _ _ _ _ c.self.invariant.kept c.self.view_is c.requires.is_there c.index-mark.ensures) (omega arith)
    (values_there _ _ _ _ c.in-Some.is c.row.ensures.lends_row)

pub returns-in-Some-clause-tells_of_entries : goal.returns-in-Some-clause-tells_of_entries
returns-in-Some-clause-tells_of_entries c =
    let r = is_read _ _ _ _ _ _ c.self.invariant.kept c.self.view_is c.requires.is_there c.index-mark.ensures in
    λ entries stands. returns-in-Some-clause-tells_of_card c ∙ said_entries _ entries _ c.args.attempt r.is_book stands

pub returns-in-None-clause-tells_of_card : goal.returns-in-None-clause-tells_of_card
returns-in-None-clause-tells_of_card c =
    said_behind _ _ _ _ _ None (is_read _ _ _ _ _ _ c.self.invariant.kept c.self.view_is c.requires.is_there c.index-mark.ensures) (omega arith)
    (none_there _ _ c.in-None.is)

pub returns-in-None-clause-tells_of_entries : goal.returns-in-None-clause-tells_of_entries
returns-in-None-clause-tells_of_entries c =
    let r = is_read _ _ _ _ _ _ c.self.invariant.kept c.self.view_is c.requires.is_there c.index-mark.ensures in
    λ entries stands. returns-in-None-clause-tells_of_card c ∙ said_entries _ entries _ c.args.attempt r.is_book stands
