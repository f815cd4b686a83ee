use Rattle.std.proofs.Common.{sym, ap, ◌∙◌}
use Rattle.std.specs.Prelude.{find, ◌&&◌}
use Rattle.std.specs.Option.{option_map}
use Rattle.std.specs.Str.{str_eq_ignore_ascii_case}
use Rattle.dk_grammar.specs.Meanings.{entry_of, same_block}
use Rattle.dk_grammar.proofs.Tabled.{find-map}
use Rattle.dk_grammar.proofs.lookups.entry_of.Goals as goal

pub returns : goal.returns
unfolding entry_of
returns c = c.entry_among.ensures ∙ sym (find-map _ (λ r. same_block c.args.block r.block && str_eq_ignore_ascii_case r.word c.args.word.now) (λ r. r.entry) c.keywords.result.now)
    ∙ ap (λ t. option_map (λ r. r.entry) (find (λ r. same_block c.args.block r.block && str_eq_ignore_ascii_case r.word c.args.word.now) t)) c.keywords.ensures
