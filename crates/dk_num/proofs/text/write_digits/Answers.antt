use Rattle.std.proofs.Common.{◌≡◌, ◌∙◌, [], ◌++◌, ap, drop, arith}
use Rattle.std.specs.Prelude.{decimal}
use Rattle.std.proofs.lemmas.List.{drop_all, append-nil}
use Rattle.dk_num.proofs.Lengths.{mantissa_length, high_length, low_length, written_parts}
use Rattle.dk_num.proofs.text.write_digits.Goals as goal

pub write_digits-requires : goal.write_digits-requires
write_digits-requires c = (omega (arith, mantissa_length c.args.n c.requires.small), omega arith)

pub returns-then-n-clause-text : goal.returns-then-n-clause-text
returns-then-n-clause-text c =
    let none : drop 40 c.args.buffer.now ≡ [] = drop_all 40 c.args.buffer.now (omega arith) in
    c.write_digits.ensures.written ∙ ap (λ ds. decimal c.args.n ++ ds) none ∙ append-nil (decimal c.args.n)

pub write_digits-requires-2 : goal.write_digits-requires-2
write_digits-requires-2 c = (omega (arith, low_length c.args.n), omega arith)

pub write_digits-requires-3 : goal.write_digits-requires-3
write_digits-requires-3 c = (omega (arith, high_length c.args.n c.requires.small), omega arith)

pub returns-clause-text : goal.returns-clause-text
returns-clause-text c = written_parts c.args.n c.write_digits-2.result c.args.buffer.now c.write_digits-2.new.buf _ c.requires.small (omega arith) (omega arith)
    c.write_digits-2.ensures.start c.write_digits-2.ensures.written c.write_digits-3.ensures.written
