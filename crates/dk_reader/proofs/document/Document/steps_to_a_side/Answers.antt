use Rattle.std.proofs.Common.{◌≡◌, length, map, min, sym, ap, ◌∙◌}
use Rattle.std.specs.Prelude.{sum}
use Rattle.dk_grammar.specs.declared.words.Block.TheVariants as block
use Rattle.dk_grammar.specs.declared.words.Name.TheVariants as name
use Rattle.dk_reader.specs.Values.{count_of, whole, spread}
use Rattle.dk_reader.specs.Document.{values_at}
use Rattle.dk_reader.specs.Study.{counts_at}
use Rattle.dk_reader.proofs.Copies.{spread_length}
use Rattle.dk_reader.proofs.Sizes.{same_counts, own_counts}
use Rattle.dk_reader.proofs.document.Document.steps_to_a_side.Goals as goal

pub returns-then-count_of-eq1 : goal.returns-then-count_of-eq1
returns-then-count_of-eq1 c =
    let d = c.args.self.now in
    let vs = values_at d block.Method name.StepsPerVariable in
    let one : length (counts_at d name.StepsPerVariable) ≡ 1 = spread_length whole vs ∙ sym (c.count_of.ensures ∙ ap count_of c.values_at-counts.ensures) ∙ c.if-count_of-eq1.true in
    let steps : c.up_to-steps.result ≡ min (sum (counts_at d name.StepsPerVariable)) 100001 =
    c.up_to-steps.ensures ∙ ap (λ s. min s 100001) (c.sum_of.ensures ∙ ap (λ l. sum (map whole (spread l))) c.values_at-counts.ensures) in
    c.min.ensures ∙ same_counts 100001 d (counts_at d name.StepsPerVariable) c.from.result c.up_to-steps.result one (c.from.ensures ∙ c.variable_count.ensures) steps

pub returns-else-count_of-eq1 : goal.returns-else-count_of-eq1
returns-else-count_of-eq1 c =
    let d = c.args.self.now in
    let vs = values_at d block.Method name.StepsPerVariable in
    let several = λ (e : length (counts_at d name.StepsPerVariable) ≡ 1). c.if-count_of-eq1.false (c.count_of.ensures ∙ ap count_of c.values_at-counts.ensures ∙ sym (spread_length whole vs) ∙ e) in
    c.up_to-steps.ensures
    ∙ ap (λ s. min s 100001) (c.sum_of.ensures ∙ ap (λ l. sum (map whole (spread l))) c.values_at-counts.ensures)
    ∙ ap (λ ks. min (sum ks) 100001) (sym (own_counts d (counts_at d name.StepsPerVariable) several))
