use Rattle.dk_lex.proofs.Uniqueness as uniqueness
use Rattle.dk_lex.proofs.laws.each_text_lexes.Goals as goal

pub returns : goal.returns
returns c = uniqueness.each_text_lexes
