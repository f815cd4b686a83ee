use Rattle.std.specs.Prelude.{map, string_bytes}
use Rattle.dk_words.proofs.WordsTold.{is_run, no_run}
use Rattle.dk_words.proofs.words.usage_of_run.Goals as goal

pub returns-in-Ok : goal.returns-in-Ok
returns-in-Ok c = is_run (map string_bytes c.args.words.now) c.in-Ok.options c.in-Ok.ensures

pub returns-in-Err : goal.returns-in-Err
returns-in-Err c = no_run (map string_bytes c.args.words.now) c.in-Err.at c.in-Err.ensures
