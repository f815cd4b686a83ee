use Rattle.std.proofs.Common.{◌≡◌, ◌+◌, ◌-◌, ◌≤◌, drop, length}
use Rattle.dk_lex.specs.Fronts.{white_length}
use Rattle.dk_lex.proofs.front.white_length.Given as goal

-- the white space so far and that of what is left are all of it
abbrev pub invariant-loop-n : goal.invariant-loop-n
invariant-loop-n l = record {
  within : l.n ≤ length l.rest;
  count : l.n + white_length (drop l.n l.rest) ≡ white_length l.rest;
}

abbrev pub decreases-loop-n : goal.decreases-loop-n
decreases-loop-n l = length l.rest - l.n
