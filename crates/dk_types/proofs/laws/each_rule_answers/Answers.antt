use Rattle.dk_types.proofs.RuleAnswers.{answers_by_rule}
use Rattle.dk_types.proofs.laws.each_rule_answers.Goals as goal

pub returns : goal.returns
returns c = answers_by_rule
