use Rattle.std.proofs.Common.{◌+◌, sym, ◌∙◌, subst, ◌++◌, ◌∷◌, []}
use Rattle.std.specs.Prelude.{Some, None, false}
use Rattle.dk_grammar.specs.Contexts.{IsContext}
use Rattle.dk_grammar.proofs.Contexts.{opens_next, entry_next, none_next}
use Rattle.dk_grammar.proofs.context.next.Goals as goal

pub returns-in-Some : goal.returns-in-Some
returns-in-Some c = λ text before t h place opened entry.
    subst (λ n. IsContext text (before ++ t ∷ []) (record { block = Some c.in-Some.block; section = n + 1; keyword = None; wants_mode = false })) (sym place)
    (opens_next text before t c.args.context c.in-Some.block h (sym opened ∙ c.in-Some.is))

pub returns-in-Some-entry : goal.returns-in-Some-entry
returns-in-Some-entry c = λ text before t h place opened entry.
    subst (λ m. IsContext text (before ++ t ∷ []) (record { block = c.args.context.block; section = c.args.context.section; keyword = Some c.in-Some-entry.keyword; wants_mode = m })) (sym c.takes_mode.ensures)
    (entry_next text before t c.args.context c.in-Some-entry.keyword h (sym opened ∙ c.in-None.is) (sym entry ∙ c.in-Some-entry.is))

pub returns-in-None-entry : goal.returns-in-None-entry
returns-in-None-entry c = λ text before t h place opened entry.
    none_next text before t c.args.context h (sym opened ∙ c.in-None.is) (sym entry ∙ c.in-None-entry.is)
