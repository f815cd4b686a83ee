use Rattle.std.proofs.Common.{ap₂, ◌∙◌}
use Rattle.std.specs.Option.{option_or}
use Rattle.std.specs.List.{flat_map}
use Rattle.dk_grammar.specs.Lists.{places}
use Rattle.dk_grammar.specs.Grammar.{token_faults, end, needed_blocks, is_missing, missing_blocks, grammar_faults}
use Rattle.dk_grammar.specs.declared.parts.GrammarFault.TheVariants.{MissingBlock}
use Rattle.dk_grammar.proofs.Growing.{first_or, first_when}
use Rattle.dk_grammar.proofs.faults.first_fault.Goals as goal

pub returns : goal.returns
unfolding grammar_faults
returns c = c.or.ensures ∙ ap₂ option_or c.first_token_fault.ensures (c.missing.ensures ∙ first_when (is_missing c.args.text.now c.args.tokens.now) (λ b. MissingBlock b (end c.args.text.now)) needed_blocks)
    ∙ first_or (flat_map (token_faults c.args.text.now) (places c.args.tokens.now)) (missing_blocks c.args.text.now c.args.tokens.now)
