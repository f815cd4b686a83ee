use Rattle.std.proofs.Common.{sym, refl}
use Rattle.std.specs.Prelude.{map, string_bytes}
use Rattle.dk_words.proofs.WordsSorted.{none_sorted, none_named, all_sorted}
use Rattle.dk_words.proofs.words.find_options.Goals as goal

pub returns-in-Some-input : goal.returns-in-Some-input
returns-in-Some-input c =
    let found = c.loop-word.found in
    all_sorted (map string_bytes c.args.words.now) found c.loop-word.invariant (sym c.in_default.ensures)
    (record { input = c.in-Some-input.input; read = found.read; write = found.write; check = found.check }) c.in-Some-input.is refl refl refl

pub returns-in-None : goal.returns-in-None
returns-in-None c = none_named (map string_bytes c.args.words.now) c.loop-word.found c.loop-word.invariant (sym c.in_default.ensures) c.in-None.is

pub loop-word-init : goal.loop-word-init
loop-word-init c = none_sorted (map string_bytes c.args.words.now)
