use Rattle.std.specs.Prelude.{map, string_bytes}
use Rattle.dk_words.proofs.WordsTold.{is_check, only_run, no_check}
use Rattle.dk_words.proofs.words.usage_of_check.Goals as goal

pub returns-in-Some : goal.returns-in-Some
returns-in-Some c = is_check (map string_bytes c.args.words.now) c.in-Ok.options _ c.in-Ok.ensures c.in-Some.is

pub returns-in-None : goal.returns-in-None
returns-in-None c = only_run (map string_bytes c.args.words.now) c.in-Ok.options c.in-Ok.ensures c.in-None.is

pub returns-in-Err : goal.returns-in-Err
returns-in-Err c = no_check (map string_bytes c.args.words.now) c.in-Err.at c.in-Err.ensures
