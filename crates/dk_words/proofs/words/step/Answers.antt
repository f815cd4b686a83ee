use Rattle.std.proofs.Common.{◌<◌, sym, ◌∙◌, ap, subst, arith}
use Rattle.std.specs.Prelude.{map, string_bytes, is_some}
use Rattle.dk_words.specs.Words.{is_file}
use Rattle.dk_words.specs.Sorting.{IsSorted}
use Rattle.dk_words.proofs.WordsSorted.{extent_small, stray, second, barred, plain_more, file_more, no_file, bad_file}
use Rattle.dk_words.proofs.words.step.Goals as goal
use Rattle.dk_words.proofs.words.step.Goals.{in_default-word_at-via-in-Some-word_at+else-is_file, in_default-word_at-via-in_default-word_at}

pub overflow_add-at : goal.overflow_add-at
overflow_add-at c = omega (arith, extent_small c.args.found, c.requires.sorted.few)

pub returns-in_default : goal.returns-in_default
returns-in_default c = stray (map string_bytes c.args.words.now) c.args.found c.requires.sorted c.args.word.now c.requires.here (sym c.option_of.ensures ∙ c.in_default.is)

pub returns-then-is_some : goal.returns-then-is_some
returns-then-is_some c =
    second (map string_bytes c.args.words.now) c.args.found c.requires.sorted c.args.word.now c.requires.here c.in-Some.option (sym c.option_of.ensures ∙ c.in-Some.is)
    (sym (c.is_some.ensures ∙ ap (λ o. is_some o) c.place_of.ensures) ∙ c.if-is_some.true)

pub returns-then-bars : goal.returns-then-bars
returns-then-bars c =
    barred (map string_bytes c.args.words.now) c.args.found c.requires.sorted c.args.word.now c.requires.here c.in-Some.option (sym c.option_of.ensures ∙ c.in-Some.is)
    (sym (c.is_some.ensures ∙ ap (λ o. is_some o) c.place_of.ensures) ∙ c.if-is_some.false) (sym c.bars.ensures ∙ c.if-bars.true)

pub returns-then-not-takes_file : goal.returns-then-not-takes_file
returns-then-not-takes_file c =
    let words = map string_bytes c.args.words.now in
    subst (λ f. IsSorted words f × (c.args.found.count < f.count)) (sym c.with.ensures)
    (plain_more words c.args.found c.requires.sorted c.args.word.now c.requires.here c.in-Some.option (sym c.option_of.ensures ∙ c.in-Some.is)
    (sym (c.is_some.ensures ∙ ap (λ o. is_some o) c.place_of.ensures) ∙ c.if-is_some.false) (sym c.bars.ensures ∙ c.if-bars.false) (sym c.takes_file.ensures ∙ c.if-not-takes_file.true))

pub returns-in-Some-word_at : goal.returns-in-Some-word_at
returns-in-Some-word_at c =
    let words = map string_bytes c.args.words.now in
    subst (λ f. IsSorted words f × (c.args.found.count < f.count)) (sym c.with-in-Some-word_at.ensures)
    (file_more words c.args.found c.requires.sorted c.args.word.now c.requires.here c.in-Some.option (sym c.option_of.ensures ∙ c.in-Some.is)
    (sym (c.is_some.ensures ∙ ap (λ o. is_some o) c.place_of.ensures) ∙ c.if-is_some.false) (sym c.bars.ensures ∙ c.if-bars.false)
    c.in-Some-word_at.file.now (sym c.takes_file.ensures ∙ c.if-not-takes_file.false)
    (sym c.in-Some-word_at.ensures) (ap is_file (sym c.as_bytes.ensures.value) ∙ sym c.is_file.ensures ∙ c.if-is_file.true))

pub returns-in_default-word_at : goal.returns-in_default-word_at
returns-in_default-word_at c =
    let words = map string_bytes c.args.words.now in
    let option = sym c.option_of.ensures ∙ c.in-Some.is in
    let unseen = sym (c.is_some.ensures ∙ ap (λ o. is_some o) c.place_of.ensures) ∙ c.if-is_some.false in
    let right = sym c.bars.ensures ∙ c.if-bars.false in
    let takes = sym c.takes_file.ensures ∙ c.if-not-takes_file.false in
    elim c.in_default-word_at.branch [
      | in_default-word_at-via-in-Some-word_at+else-is_file w ↦
          bad_file words c.args.found c.requires.sorted c.args.word.now c.requires.here c.in-Some.option option unseen right w.in-Some-word_at.file.now takes
          (sym w.in-Some-word_at.ensures) (ap is_file (sym w.as_bytes.ensures.value) ∙ sym w.is_file.ensures ∙ w.if-is_file.false)
      | in_default-word_at-via-in_default-word_at w ↦
          no_file words c.args.found c.requires.sorted c.args.word.now c.requires.here c.in-Some.option option unseen right takes (sym w.in_default-word_at.ensures)
    ]
