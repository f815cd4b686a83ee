-- The word of a simulation that it failed.
use Rattle.std.proofs.Common.{◌≡◌, ℕ, Bool, true, false, ◌&&◌, List, [], ◌∷◌, drop, refl, sym, ap, ◌∙◌, subst, arith}
use Rattle.std.specs.Char.{eq_ignore_ascii_case}
use Rattle.std.specs.List.{prefix_len, take_while}
use Rattle.std.proofs.lemmas.Grind.{common_steps}
use Rattle.std.proofs.lemmas.Bool.Decides.{nat_tests}
use Rattle.dk_num.specs.Decimal.{Decimal}
use Rattle.dk_results.specs.Pieces.{pieces}
use Rattle.dk_results.specs.Fronts.{is_piece_byte}
use Rattle.dk_results.specs.Results.{begins_label, begins_with_fail, behind_space}
use Rattle.dk_results.specs.Grammar.{AreNumbers, FailuresAreNoNumbers}
use Rattle.dk_results.proofs.Cuts.{spaces_first, piece_at, while_more}
use Rattle.dk_results.proofs.Numbers.{label_first}

left_of : (x y : Bool) → (x && y) ≡ true → x ≡ true
left_of true y e = refl
left_of false y e = e

letter_of : (b : ℕ) → eq_ignore_ascii_case 102 b ≡ true → begins_label b ≡ true
letter_of b e = grind (arith, nat_tests, common_steps)

pub label_byte : (b : ℕ) → begins_label b ≡ true → is_piece_byte b ≡ true
label_byte b e = grind (arith, nat_tests, common_steps)

-- such a text's first piece is none of a number
failed_first : (bytes : List ℕ) (values : List Decimal) → begins_with_fail bytes ≡ true → AreNumbers (pieces bytes) values → ⊥
failed_first [] values e are = absurd (cc)
failed_first (b ∷ bs) values e are =
    let letter = letter_of b (left_of _ _ e) in
    let byte = label_byte b letter in
    label_first (b ∷ take_while is_piece_byte bs) _ values letter
    (subst (λ l. AreNumbers l values) (piece_at b bs byte ∙ ap (λ l. l ∷ pieces (drop (prefix_len is_piece_byte (b ∷ bs)) (b ∷ bs))) (while_more is_piece_byte b bs byte)) are)

pub failures_no_numbers : FailuresAreNoNumbers
failures_no_numbers bytes values says are = failed_first (behind_space bytes) values says (subst (λ l. AreNumbers l values) (sym (spaces_first bytes)) are)
