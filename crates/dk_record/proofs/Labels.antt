-- Labels are ASCII.
use Rattle.std.proofs.Common.{◌≡◌, ℕ, ◌<◌, ◌&&◌, ◌||◌, ◌==◌, Bool, true, false, List, [], ◌∷◌, length, refl, arith, nat_le}
use Rattle.std.specs.Char.{is_ascii_alphabetic}
use Rattle.std.specs.List.{All, list_all}
use Rattle.std.specs.Str.{IsUtf8}
use Rattle.std.proofs.lemmas.Grind.{common_steps}
use Rattle.std.proofs.lemmas.List.Elements.{All-nil, All-cons}
use Rattle.std.proofs.lemmas.Str.{IsUtf8-from_ascii}
use Rattle.std.proofs.lemmas.Str.Ascii.{IsAscii-from_all}
use Rattle.dk_types.specs.Labels.{is_visible}
use Rattle.dk_record.specs.Readings.{IsLabel}

left_of : (x y : Bool) → (x && y) ≡ true → x ≡ true
left_of true y e = refl
left_of false y e = e

right_of : (x y : Bool) → (x && y) ≡ true → y ≡ true
right_of true y e = e
right_of false y e = absurd (cc)

small : (b : ℕ) → is_visible b ≡ true → b < 128
small b e = let low = right_of (nat_le 33 b) (nat_le b 126) e in grind (arith, common_steps)

all_small : (bs : List ℕ) → list_all is_visible bs ≡ true → All (λ b. b < 128) bs
all_small [] e = All-nil (λ b. b < 128)
all_small (b ∷ bs) e = All-cons (λ b. b < 128) b bs (small b (left_of (is_visible b) (list_all is_visible bs) e)) (all_small bs (right_of (is_visible b) (list_all is_visible bs) e))

pub label_text : (bs : List ℕ) → IsLabel bs → IsUtf8 bs
label_text [] e = absurd (cc)
label_text (b ∷ bs) e =
    let begins = is_ascii_alphabetic b || b == 95 in
    let visible = list_all is_visible (b ∷ bs) in
    IsUtf8-from_ascii (b ∷ bs) (IsAscii-from_all (b ∷ bs) (all_small (b ∷ bs) (right_of begins visible (left_of (begins && visible) (nat_le (length (b ∷ bs)) 255) e))))
