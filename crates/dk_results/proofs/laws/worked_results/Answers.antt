use Rattle.std.proofs.Common.{refl}
use Rattle.dk_num.specs.Numbers.{read_of, number_of}
use Rattle.dk_results.specs.Pieces.{pieces}
use Rattle.dk_results.specs.Results.{results_of}
use Rattle.dk_results.proofs.laws.worked_results.Goals as goal

pub returns-clause-labelled : goal.returns-clause-labelled
unfolding results_of pieces read_of number_of
returns-clause-labelled c = refl

pub returns-clause-behind_a_comment : goal.returns-clause-behind_a_comment
unfolding results_of pieces read_of number_of
returns-clause-behind_a_comment c = refl

pub returns-clause-before_a_comment : goal.returns-clause-before_a_comment
unfolding results_of pieces read_of number_of
returns-clause-before_a_comment c = refl

pub returns-clause-underscore : goal.returns-clause-underscore
unfolding results_of pieces read_of number_of
returns-clause-underscore c = refl

pub returns-clause-failure : goal.returns-clause-failure
unfolding results_of pieces read_of number_of
returns-clause-failure c = refl

pub returns-clause-any_case : goal.returns-clause-any_case
unfolding results_of pieces read_of number_of
returns-clause-any_case c = refl

pub returns-clause-nan : goal.returns-clause-nan
unfolding results_of pieces read_of number_of
returns-clause-nan c = refl

pub returns-clause-infinity : goal.returns-clause-infinity
unfolding results_of pieces read_of number_of
returns-clause-infinity c = refl

pub returns-clause-nothing : goal.returns-clause-nothing
unfolding results_of pieces read_of number_of
returns-clause-nothing c = refl

pub returns-clause-too_few : goal.returns-clause-too_few
unfolding results_of pieces read_of number_of
returns-clause-too_few c = refl

pub returns-clause-too_many : goal.returns-clause-too_many
unfolding results_of pieces read_of number_of
returns-clause-too_many c = refl

pub returns-clause-second_label : goal.returns-clause-second_label
unfolding results_of pieces read_of number_of
returns-clause-second_label c = refl

pub returns-clause-label_like_a_number : goal.returns-clause-label_like_a_number
unfolding results_of pieces read_of number_of
returns-clause-label_like_a_number c = refl

pub returns-clause-quoted_label : goal.returns-clause-quoted_label
unfolding results_of pieces read_of number_of
returns-clause-quoted_label c = refl
