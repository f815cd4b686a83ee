use Rattle.std.proofs.Common.{◌∙◌, ap, length, arith, inl, inr, length-drop}
use Rattle.std.specs.List.{prefix_len}
use Rattle.dk_lex.proofs.Runs.{slice_tail}
use Rattle.dk_lex.proofs.Fronts.{string_closed, string_unclosed, string_stray}
use Rattle.dk_lex.proofs.front.string_front.Goals as goal

pub returns-then-end-rest-clause-gives_front : goal.returns-then-end-rest-clause-gives_front
returns-then-end-rest-clause-gives_front c = string_unclosed _ _ c.requires.has_bytes c.requires.is_quoted (c.run_length-end.ensures.gives_count ∙ ap (prefix_len _) (slice_tail c.args.rest.now 1)) (inl c.if-end-rest.true)

pub returns-then-rest-end-eq10-clause-gives_front : goal.returns-then-rest-end-eq10-clause-gives_front
returns-then-rest-end-eq10-clause-gives_front c = string_unclosed _ _ c.requires.has_bytes c.requires.is_quoted (c.run_length-end.ensures.gives_count ∙ ap (prefix_len _) (slice_tail c.args.rest.now 1)) (inr c.if-rest-end-eq10.true)

pub returns-then-rest-end-clause-gives_front : goal.returns-then-rest-end-clause-gives_front
returns-then-rest-end-clause-gives_front c = string_closed _ _ c.requires.has_bytes c.requires.is_quoted (c.run_length-end.ensures.gives_count ∙ ap (prefix_len _) (slice_tail c.args.rest.now 1)) (omega (arith, c.run_length-end.ensures.is_within, ap length (slice_tail c.args.rest.now 1), length-drop 1 c.args.rest.now)) c.if-rest-end.true

pub returns-else-rest-end-clause-gives_front : goal.returns-else-rest-end-clause-gives_front
returns-else-rest-end-clause-gives_front c = string_stray _ _ c.requires.has_bytes c.requires.is_quoted (c.run_length-end.ensures.gives_count ∙ ap (prefix_len _) (slice_tail c.args.rest.now 1)) (omega (arith, c.run_length-end.ensures.is_within, ap length (slice_tail c.args.rest.now 1), length-drop 1 c.args.rest.now)) c.if-rest-end.false c.if-rest-end-eq10.false
