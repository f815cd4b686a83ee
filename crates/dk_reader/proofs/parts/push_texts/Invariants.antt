use Rattle.std.proofs.Common.{◌≡◌, ◌++◌, replicate}
use Rattle.dk_reader.proofs.parts.push_texts.Given as goal

abbrev pub invariant-loop-copy : goal.invariant-loop-copy
invariant-loop-copy l = l.texts.items ≡ l.fn.texts.items ++ replicate l._copy l.text
