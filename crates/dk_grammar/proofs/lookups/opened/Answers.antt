use Rattle.std.proofs.Common.{sym, ap, ◌∙◌}
use Rattle.std.specs.Prelude.{find}
use Rattle.std.specs.Option.{option_map}
use Rattle.std.specs.Str.{str_eq_ignore_ascii_case}
use Rattle.dk_grammar.specs.Meanings.{opened}
use Rattle.dk_grammar.proofs.Tabled.{find-map}
use Rattle.dk_grammar.proofs.lookups.opened.Goals as goal

pub returns : goal.returns
unfolding opened
returns c = c.opened_by.ensures ∙ sym (find-map _ (λ r. str_eq_ignore_ascii_case r.word c.args.word.now) (λ r. r.block) c.blocks-2.result.now)
    ∙ ap (λ t. option_map (λ r. r.block) (find (λ r. str_eq_ignore_ascii_case r.word c.args.word.now) t)) c.blocks-2.ensures
