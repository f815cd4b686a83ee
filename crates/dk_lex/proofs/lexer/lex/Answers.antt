use Rattle.std.proofs.Common.{◌+◌, take, drop, ap, sym, subst, arith}
use Rattle.dk_lex.specs.Fronts.{IsFront}
use Rattle.dk_lex.proofs.Runs.{slice_tail}
use Rattle.dk_lex.proofs.Cuts.{LexedBefore, lexed_more, lexed_all}
use Rattle.dk_lex.specs.Spans.{AreSpans, AreStrings}
use Rattle.dk_lex.proofs.Spans.{tokens_lie}
use Rattle.dk_lex.proofs.Strings.{strings_are}
use Rattle.dk_lex.proofs.lexer.lex.Goals as goal

-- the piece joins the cut, and its token the tokens
pub loop-at-preserved : goal.loop-at-preserved
loop-at-preserved c =
    let rest = slice_tail c.args.text.now c.loop-at.at in
    let first : IsFront (drop c.loop-at.at c.args.text.now) c.in-Piece.form c.in-Piece.len = subst (λ l. IsFront l c.in-Piece.form c.in-Piece.len) rest c.in-Piece.ensures.gives_front in
    subst (λ ts. LexedBefore c.args.text.now ts (c.loop-at.at + c.in-Piece.len)) (sym c.in_ok-push_token-in-Piece.ensures)
    (lexed_more c.args.text.now c.loop-at.items.items c.loop-at.at c.in-Piece.len c.in-Piece.form _ c.loop-at.invariant first (ap (take c.in-Piece.len) rest))

-- the tokens of the whole text lie in it
pub returns-clause-gives_spans_in_order : goal.returns-clause-gives_spans_in_order
returns-clause-gives_spans_in_order c =
    subst (AreSpans c.args.text.now) (sym c.of_vec.ensures)
    (tokens_lie c.args.text.now c.loop-at.items.items (lexed_all c.args.text.now c.loop-at.items.items c.loop-at.at c.loop-at.invariant (omega (arith, c.loop-at-test.false))))

-- its strings have what strings may
pub returns-clause-gives_closed_strings : goal.returns-clause-gives_closed_strings
returns-clause-gives_closed_strings c =
    subst (AreStrings c.args.text.now) (sym c.of_vec.ensures)
    (strings_are c.args.text.now c.loop-at.items.items (lexed_all c.args.text.now c.loop-at.items.items c.loop-at.at c.loop-at.invariant (omega (arith, c.loop-at-test.false))))
