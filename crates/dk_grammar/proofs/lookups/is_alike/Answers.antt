use Rattle.std.specs.Str.{str_to_ascii_lowercase}
use Rattle.dk_grammar.proofs.Spelled.{same_test}
use Rattle.dk_grammar.proofs.lookups.is_alike.Goals as goal

pub returns : goal.returns
returns c = same_test _ (str_to_ascii_lowercase c.args.a.now) (str_to_ascii_lowercase c.args.b.now) c.eq_ignore_ascii_case.ensures.test
