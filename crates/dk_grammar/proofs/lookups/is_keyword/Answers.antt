use Rattle.std.proofs.Common.{sym, ap, ◌∙◌}
use Rattle.std.specs.List.{list_any}
use Rattle.std.specs.Str.{str_eq_ignore_ascii_case}
use Rattle.dk_grammar.specs.Meanings.{is_keyword}
use Rattle.dk_grammar.proofs.Tabled.{list_any-map}
use Rattle.dk_grammar.proofs.lookups.is_keyword.Goals as goal

pub returns : goal.returns
unfolding is_keyword
returns c = c.is_keyword_in.ensures ∙ sym (list_any-map _ (λ r. str_eq_ignore_ascii_case r.word c.args.word.now) c.keywords.result.now)
    ∙ ap (list_any (λ r. str_eq_ignore_ascii_case r.word c.args.word.now)) c.keywords.ensures
