use Rattle.std.proofs.Common.{◌≡◌, ◌/◌, length, min, sym, ap, ◌∙◌}
use Rattle.dk_grammar.specs.declared.words.Block.TheVariants as block
use Rattle.dk_grammar.specs.declared.words.Name.TheVariants as name
use Rattle.dk_reader.specs.Values.{count_of}
use Rattle.dk_reader.specs.Document.{values_at}
use Rattle.dk_reader.specs.Study.{unit_value, unit_exponent, units_at}
use Rattle.dk_reader.proofs.Copies.{spread_length}
use Rattle.dk_reader.proofs.document.Document.list_size.Goals as goal

pub returns : goal.returns
returns c =
    let d = c.args.self.now in
    let numbers : c.count_of-numbers.result ≡ length (units_at d block.Method name.ListOfPoints) =
    c.count_of-numbers.ensures ∙ ap count_of c.values_at.ensures ∙ sym (spread_length (unit_value (unit_exponent d)) (values_at d block.Method name.ListOfPoints)) in
    c.up_to.ensures
    ∙ ap (λ k. min k 100001) c.row_count.ensures
    ∙ ap (λ k. min (k / c.variable_count.result) 100001) numbers
    ∙ ap (λ n. min (length (units_at d block.Method name.ListOfPoints) / n) 100001) c.variable_count.ensures
