use Rattle.std.proofs.Common.{ℕ, List, ◌++◌, drop, ◌+◌, ◌∙◌, refl}
use Rattle.std.specs.Prelude.{codes}
use Rattle.std.proofs.lemmas.List.{at_drop_all}
use Rattle.dk_outside.proofs.Carrying.{then, same_bytes}
use Rattle.dk_types.specs.Texts.{words_text}
use Rattle.dk_report.proofs.Parts.{part_none, part_next, part_all, items_step}
use Rattle.dk_report.proofs.table.put_words.Goals as goal

pub loop-word-init : goal.loop-word-init
loop-word-init g c = part_none _ _

pub loop-word-preserved : goal.loop-word-preserved
loop-word-preserved g c =
    let put = then c.put.ensures (same_bytes (c.as_bytes.ensures.value ∙ c.as_str.ensures) c.put-in-loop-word.ensures) in
    part_next (codes " " ++ c.word-item.result) (words_text (drop (c.loop-word.word-index + 1) c.args.words.now)) c.loop-word.invariant
    (items_step words_text (λ (w : List ℕ). codes " " ++ w) _ c.args.words.now c.loop-word.word-index c.word-item.result c.loop-word-test.true c.word-item.is (λ y. refl)) put

pub returns : goal.returns
returns g c = part_all c.loop-word.invariant (at_drop_all words_text c.args.words.now c.loop-word.word-index c.loop-word-test.false)
