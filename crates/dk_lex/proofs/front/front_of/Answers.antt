use Rattle.std.proofs.Common.{◌≡◌, false, arith, sym, ◌∙◌, ap, rules, get_or}
use Rattle.std.proofs.lemmas.Bool.{ne_eqb}
use Rattle.std.specs.List.{prefix_len}
use Rattle.dk_lex.specs.Fronts.{belongs}
use Rattle.dk_lex.specs.declared.form.Run.TheVariants as run
use Rattle.dk_lex.proofs.Fronts.{word_front, comment_at, separator_at, stray_front, none_at_front, no_white}
use Rattle.dk_lex.proofs.Runs.{slice_tail}
use Rattle.dk_lex.proofs.White.{white_front}
use Rattle.dk_lex.specs.Bytes.{is_word_byte, is_separator, is_quote}
use Rattle.dk_lex.proofs.front.front_of.Goals as goal

pub returns-then-white-gt0-clause-gives_front : goal.returns-then-white-gt0-clause-gives_front
returns-then-white-gt0-clause-gives_front c = white_front _ _ c.white_length-white.ensures.gives_count c.if-white-gt0.true

pub returns-then-is_separator-clause-gives_front : goal.returns-then-is_separator-clause-gives_front
returns-then-is_separator-clause-gives_front c = separator_at _ c.requires (search (rules, c.if-is_separator.ensures))

pub returns-then-first-eq35-clause-gives_front : goal.returns-then-first-eq35-clause-gives_front
returns-then-first-eq35-clause-gives_front c =
    comment_at _ _ c.requires c.if-first-eq35.true (c.run_length.ensures.gives_count ∙ ap (prefix_len _) (slice_tail c.args.rest.now 1))

pub returns-then-word-gt0-clause-gives_front : goal.returns-then-word-gt0-clause-gives_front
returns-then-word-gt0-clause-gives_front c = word_front _ _ c.run_length-word.ensures.gives_count c.if-word-gt0.true

pub returns-else-word-gt0-clause-gives_front : goal.returns-else-word-gt0-clause-gives_front
returns-else-word-gt0-clause-gives_front c = λ at.
    let separator : is_separator (get_or c.args.rest.now 0 0) ≡ false = search (rules, c.if-is_separator.ensures) in
    let quote : is_quote (get_or c.args.rest.now 0 0) ≡ false = search (rules, c.if-is_quote.ensures) in
    let no_word : prefix_len (belongs run.Word) c.args.rest.now ≡ 0 = sym c.run_length-word.ensures.gives_count ∙ omega arith in
    stray_front c.args.rest.now at c.requires (no_white c.args.rest.now (sym c.white_length-white.ensures.gives_count ∙ omega arith)) separator (ne_eqb _ _ c.if-first-eq35.false) quote (none_at_front is_word_byte c.args.rest.now c.requires no_word)
