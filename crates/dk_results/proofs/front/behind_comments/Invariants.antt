use Rattle.std.proofs.Common.{◌≡◌, false, length}
use Rattle.dk_results.specs.Pieces.{pieces}
use Rattle.dk_results.specs.Fronts.{begins_space}
use Rattle.dk_results.proofs.front.behind_comments.Given as goal

abbrev pub invariant-loop-rest : goal.invariant-loop-rest
invariant-loop-rest l = record {
  keeps_pieces : pieces l.rest ≡ pieces l.bytes;
  no_space : begins_space l.rest ≡ false;
}

abbrev pub decreases-loop-rest : goal.decreases-loop-rest
decreases-loop-rest l = length l.rest
