use Rattle.std.proofs.Common.{ap, ◌∙◌, ◌+◌, Some, None, arith}
use Rattle.dk_types.specs.Answers.{given_up}
use Rattle.dk_book.proofs.book.Book.answer.Goals as goal
use Rattle.dk_book.proofs.Placed.{point_there}
use Rattle.dk_book.proofs.Read.{is_read, row_there, values_there, none_there, answer_given_up, answer_behind, asks_due, answer_entries}

pub index-mark-requires : goal.index-mark-requires
index-mark-requires c =
    let there = point_there _ _ _ _ _ c.self.invariant.kept c.self.view_is c.requires.is_there in
    omega (arith, c.self.invariant.kept.enough)

pub returns-then-mark-retries-clause-answers_card : goal.returns-then-mark-retries-clause-answers_card
returns-then-mark-retries-clause-answers_card c =
    ap Some (c.given_up.ensures ∙ ap (λ n. given_up c.args.rule.now (n + 1)) c.retries-then-mark-retries.ensures)
    ∙ answer_given_up _ _ _ _ c.args.rule.now
    (is_read _ _ _ _ _ _ c.self.invariant.kept c.self.view_is c.requires.is_there c.index-mark.ensures)
    (omega arith)

pub returns-then-mark-retries-clause-answers_entries : goal.returns-then-mark-retries-clause-answers_entries
returns-then-mark-retries-clause-answers_entries c =
    let r = is_read _ _ _ _ _ _ c.self.invariant.kept c.self.view_is c.requires.is_there c.index-mark.ensures in
    λ entries stands. returns-then-mark-retries-clause-answers_card c ∙ answer_entries _ entries _ c.args.rule.now r.is_book stands

pub row-requires : goal.row-requires
row-requires c = record {
  is_there = row_there _ _ _ _ _ (is_read _ _ _ _ _ _ c.self.invariant.kept c.self.view_is c.requires.is_there c.index-mark.ensures) c.in-Some.is;
}

pub returns-in-Some-clause-answers_card : goal.returns-in-Some-clause-answers_card
returns-in-Some-clause-answers_card c =
    answer_behind _ _ _ _ c.args.rule.now (Some c.row.result.now)
    (is_read _ _ _ _ _ _ c.self.invariant.kept c.self.view_is c.requires.is_there c.index-mark.ensures)
    (omega arith)
    (values_there _ _ _ _ c.in-Some.is c.row.ensures.lends_row)

pub returns-in-Some-clause-answers_entries : goal.returns-in-Some-clause-answers_entries
returns-in-Some-clause-answers_entries c =
    let r = is_read _ _ _ _ _ _ c.self.invariant.kept c.self.view_is c.requires.is_there c.index-mark.ensures in
    λ entries stands. returns-in-Some-clause-answers_card c ∙ answer_entries _ entries _ c.args.rule.now r.is_book stands

pub returns-in-None-clause-answers_card : goal.returns-in-None-clause-answers_card
returns-in-None-clause-answers_card c =
    answer_behind _ _ _ _ c.args.rule.now None
    (is_read _ _ _ _ _ _ c.self.invariant.kept c.self.view_is c.requires.is_there c.index-mark.ensures)
    (omega arith)
    (none_there _ _ c.in-None.is)

pub returns-in-None-clause-answers_entries : goal.returns-in-None-clause-answers_entries
returns-in-None-clause-answers_entries c =
    let r = is_read _ _ _ _ _ _ c.self.invariant.kept c.self.view_is c.requires.is_there c.index-mark.ensures in
    λ entries stands. returns-in-None-clause-answers_card c ∙ answer_entries _ entries _ c.args.rule.now r.is_book stands

pub returns-in-None-clause-asks_for_due : goal.returns-in-None-clause-asks_for_due
returns-in-None-clause-asks_for_due c = asks_due c.args.self.now c.args.card.index c.args.rule.now _ (returns-in-None-clause-answers_card c)
