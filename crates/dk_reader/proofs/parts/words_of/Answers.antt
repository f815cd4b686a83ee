use Rattle.std.proofs.Common.{length, filter, nat_lt, ap, ◌∙◌, lit<, arith}
use Rattle.std.proofs.lemmas.Iterator.Consumers.{YieldsList-end}
use Rattle.std.proofs.lemmas.Iterator.Splits.{YieldsList-from_str_split}
use Rattle.dk_reader.proofs.parts.words_of.Goals as goal

pub returns : goal.returns
returns c =
    let all = YieldsList-end (YieldsList-from_str_split 32 c.args.text.now (lit< tt) (cc) (cc) (cc)) c.loop-word.yielded _ c.loop-word.yielded_by _ _ c.in-None.is c.next.ensures.steps in
    let words = c.deref.ensures.value ∙ c.loop-word.invariant ∙ ap (filter (λ w. nat_lt 0 (length w))) all.0 in
    grind (arith, words)
