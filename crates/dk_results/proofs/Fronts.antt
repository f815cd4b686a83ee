-- What the code finds at the front, and the pieces from there on.
use Rattle.std.proofs.Common.{◌≡◌, ℕ, ◌<◌, Bool, true, false, cond, List, [], ◌∷◌, length, take, drop, get_or, refl, sym, ap, ◌∙◌, arith}
use Rattle.std.specs.List.{prefix_len, take_while}
use Rattle.std.proofs.lemmas.Bool.{eq-eqb}
use Rattle.dk_results.specs.Pieces.{is_space, pieces}
use Rattle.dk_results.specs.Results.{is_label, behind_label, behind_space}
use Rattle.dk_results.specs.Fronts.{is_piece_byte, is_in_line, begins_space, BeginsPiece}
use Rattle.dk_results.proofs.Cuts.{none_in_none, behind_more, behind_none, while_more, spaces_first, comment_first, piece_at}

-- no white space follows the white space at the front
pub space_stops : (bs : List ℕ) → begins_space (behind_space bs) ≡ false
space_stops [] = refl
space_stops (b ∷ bs) = by (space_stops bs) (is_space b) refl
  where
    by : begins_space (behind_space bs) ≡ false → (t : Bool) → is_space b ≡ t → begins_space (behind_space (b ∷ bs)) ≡ false
    by again true e = ap begins_space (behind_more is_space b bs e) ∙ again
    by again false e = ap begins_space (behind_none is_space b bs e) ∙ e

pub space_passed : (bytes rest : List ℕ) → rest ≡ behind_space bytes → (pieces rest ≡ pieces bytes) × (begins_space rest ≡ false)
space_passed bytes rest e = (ap pieces e ∙ spaces_first bytes, ap begins_space e ∙ space_stops bytes)

-- a comment has no pieces
pub comment_passed : (bytes line : List ℕ) → 0 < length bytes → get_or bytes 0 0 ≡ 35 → line ≡ drop (prefix_len is_in_line bytes) bytes → pieces line ≡ pieces bytes
comment_passed [] line some first e = absurd (omega arith)
comment_passed (b ∷ bs) line some first e = ap pieces e ∙ comment_first b bs (eq-eqb b 35 first)

-- the piece at the front is the first
pub piece_there : (bytes : List ℕ) → 0 < length bytes → BeginsPiece bytes → pieces bytes ≡ take (prefix_len is_piece_byte bytes) bytes ∷ pieces (drop (prefix_len is_piece_byte bytes) bytes)
piece_there [] some begins = absurd (omega arith)
piece_there (b ∷ bs) some begins = piece_at b bs begins

-- what follows the piece that a text begins with
abbrev after : ℕ → List ℕ → List ℕ
after b bs = drop (prefix_len is_piece_byte (b ∷ bs)) (b ∷ bs)

-- the piece with its first byte
piece_with : (b : ℕ) (bs : List ℕ) → is_piece_byte b ≡ true → pieces (b ∷ bs) ≡ (b ∷ take_while is_piece_byte bs) ∷ pieces (after b bs)
piece_with b bs e = piece_at b bs e ∙ ap (λ l. l ∷ pieces (after b bs)) (while_more is_piece_byte b bs e)

-- where nothing is left there are no pieces
pub none_there : (bytes : List ℕ) → length bytes ≡ 0 → pieces bytes ≡ []
none_there [] none = none_in_none
none_there (b ∷ bs) none = absurd (omega arith)

-- the first piece is a label where its first byte begins one
pub label_there : (bytes : List ℕ) → BeginsPiece bytes → is_label bytes ≡ true → behind_label (pieces bytes) ≡ pieces (drop (prefix_len is_piece_byte bytes) bytes)
label_there [] begins e = absurd (cc)
label_there (b ∷ bs) begins e = ap behind_label (piece_with b bs begins) ∙ ap (λ (t : Bool). cond t (pieces (after b bs)) ((b ∷ take_while is_piece_byte bs) ∷ pieces (after b bs))) e

pub no_label_there : (bytes : List ℕ) → BeginsPiece bytes → is_label bytes ≡ false → behind_label (pieces bytes) ≡ pieces bytes
no_label_there [] begins e = ap behind_label none_in_none ∙ sym none_in_none
no_label_there (b ∷ bs) begins e =
    ap behind_label (piece_with b bs begins) ∙ ap (λ (t : Bool). cond t (pieces (after b bs)) ((b ∷ take_while is_piece_byte bs) ∷ pieces (after b bs))) e
    ∙ sym (piece_with b bs begins)
