-- Visible bytes and blanks are ASCII.
use Rattle.std.proofs.Common.{◌≡◌, ℕ, ◌<◌, ◌&&◌, Bool, true, List, [], ◌∷◌, arith, nat_le}
use Rattle.std.specs.List.{All, list_all}
use Rattle.std.specs.Str.{IsUtf8}
use Rattle.std.proofs.lemmas.Grind.{common_steps}
use Rattle.std.proofs.lemmas.List.Elements.{All-nil, All-cons}
use Rattle.std.proofs.lemmas.Str.{IsUtf8-from_ascii}
use Rattle.std.proofs.lemmas.Str.Ascii.{IsAscii-from_all}
use Rattle.dk_lex.specs.Spans.{is_printed}
use Rattle.dk_lex.proofs.Runs.{left_of, right_of}

small : (b : ℕ) (rest : Bool) → (is_printed b && rest) ≡ true → (b < 128) × (rest ≡ true)
small b rest e = let visible = left_of (is_printed b) rest e in let low = right_of (nat_le 32 b) (nat_le b 126) visible in (grind (arith, common_steps), right_of (is_printed b) rest e)

printed_small : (bs : List ℕ) → list_all is_printed bs ≡ true → All (λ b. b < 128) bs
printed_small [] e = All-nil (λ b. b < 128)
printed_small (b ∷ bs) e = let h = small b (list_all is_printed bs) e in All-cons (λ b. b < 128) b bs h.0 (printed_small bs h.1)

pub printed_text : (bs : List ℕ) → list_all is_printed bs ≡ true → IsUtf8 bs
printed_text bs e = IsUtf8-from_ascii bs (IsAscii-from_all bs (printed_small bs e))
