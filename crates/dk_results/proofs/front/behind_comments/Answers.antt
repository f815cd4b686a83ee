use Rattle.std.proofs.Common.{◌∙◌, arith, rules}
use Rattle.dk_results.proofs.Fronts.{space_passed, comment_passed}
use Rattle.dk_results.proofs.front.behind_comments.Goals as goal

pub loop-rest-init : goal.loop-rest-init
loop-rest-init c =
    let passed = space_passed c.args.bytes.now _ c.behind_space-rest.ensures in
    record { keeps_pieces = passed.0; no_space = passed.1 }

pub loop-rest-preserved : goal.loop-rest-preserved
loop-rest-preserved c =
    let passed = space_passed _ _ c.behind_space-rest-in-35.ensures in
    record {
      keeps_pieces = passed.0 ∙ comment_passed _ _ (omega (arith, c.in-35.len_at_least)) (search rules) c.behind_line.ensures ∙ c.loop-rest.invariant.keeps_pieces;
      no_space = passed.1;
    }
