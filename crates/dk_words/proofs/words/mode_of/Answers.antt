use Rattle.std.proofs.Common.{◌∙◌, refl}
use Rattle.std.specs.Prelude.{map, string_bytes}
use Rattle.dk_words.proofs.WordsTold.{in_mode, no_mode, other_mode}
use Rattle.dk_words.proofs.words.mode_of.Goals as goal

pub returns-in-Ok-clause-of_run : goal.returns-in-Ok-clause-of_run
returns-in-Ok-clause-of_run c = λ mode run. c.mode.ensures ∙ in_mode (map string_bytes c.args.words.now) c.in-Ok.options mode c.in-Ok.ensures run

pub returns-in-Ok-clause-of_others : goal.returns-in-Ok-clause-of_others
returns-in-Ok-clause-of_others c = λ no. c.mode.ensures ∙ other_mode (map string_bytes c.args.words.now) c.in-Ok.options c.in-Ok.ensures no

pub returns-in-Err-clause-of_run : goal.returns-in-Err-clause-of_run
returns-in-Err-clause-of_run c = λ mode run. no_mode (map string_bytes c.args.words.now) _ mode c.in-Err.ensures run
