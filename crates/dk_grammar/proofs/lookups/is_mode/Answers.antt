use Rattle.std.proofs.Common.{sym, ap, ◌∙◌}
use Rattle.std.specs.List.{list_any}
use Rattle.std.specs.Str.{str_eq_ignore_ascii_case}
use Rattle.dk_grammar.specs.Meanings.{is_mode}
use Rattle.dk_grammar.proofs.Tabled.{list_any-map}
use Rattle.dk_grammar.proofs.lookups.is_mode.Goals as goal

pub returns : goal.returns
unfolding is_mode
returns c = c.is_one_of.ensures ∙ sym (list_any-map _ (λ w. str_eq_ignore_ascii_case w c.args.word.now) c.mode_words.result.now)
    ∙ ap (list_any (λ w. str_eq_ignore_ascii_case w c.args.word.now)) c.mode_words.ensures
