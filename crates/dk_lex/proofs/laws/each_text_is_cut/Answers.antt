use Rattle.dk_lex.proofs.Uniqueness as uniqueness
use Rattle.dk_lex.proofs.laws.each_text_is_cut.Goals as goal

pub returns : goal.returns
returns c = uniqueness.each_text_is_cut
