use Rattle.std.proofs.Common.{◌≡◌, length, map, filter, nat_lt}
use Rattle.dk_reader.proofs.parts.words_of.Given as goal

abbrev pub invariant-loop-word : goal.invariant-loop-word
invariant-loop-word l = l.words.items ≡ filter (λ w. nat_lt 0 (length w)) (map (λ w. w.now) l.yielded)
