use Rattle.std.proofs.Common.{◌≡◌, refl, lit<, [], ◌∷◌}
use Rattle.std.specs.Prelude.{decimal}
use Rattle.std.proofs.lemmas.Fmt.{decimal_digit}
use Rattle.dk_num.specs.Texts.{sci_text}
use Rattle.dk_params.proofs.laws.worked_files.Goals as goal

zero : decimal 0 ≡ 48 ∷ []
zero = decimal_digit 0 (lit< tt)

one : decimal 1 ≡ 49 ∷ []
one = decimal_digit 1 (lit< tt)

two : decimal 2 ≡ 50 ∷ []
two = decimal_digit 2 (lit< tt)

five : decimal 5 ≡ 53 ∷ []
five = decimal_digit 5 (lit< tt)

pub returns-clause-standard : goal.returns-clause-standard
unfolding sci_text
returns-clause-standard c = rw (zero, one, two, five) refl

pub returns-clause-aprepro : goal.returns-clause-aprepro
unfolding sci_text
returns-clause-aprepro c = rw (zero, one, two, five) refl
