use Rattle.dk_evaluate.proofs.Waiting.{answers_decide_as_child}
use Rattle.dk_evaluate.proofs.laws.childs_answers_decide_as_the_child.Goals as goal

pub returns : goal.returns
returns c = answers_decide_as_child
