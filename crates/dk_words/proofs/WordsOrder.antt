-- The faults of the words of the command line stand in order.
use Rattle.std.proofs.Common.{◌≡◌, ℕ, ◌+◌, ◌≤◌, Bool, true, false, not, List, [], ◌∷◌, ◌++◌, length, refl, sym, subst, arith, append-nil}
use Rattle.std.specs.Prelude.{Some, None, ◌||◌}
use Rattle.std.specs.List.{flat_map}
use Rattle.dk_words.specs.Lists.{when, Place, places, places_after}
use Rattle.dk_words.specs.Words.{needs_file, Piece, piece, pieces_from, pieces, stands, is_stray, is_second, is_other_restart, is_checked_restart, is_cut_off, has_no_file, piece_faults, faults, AreInOrder, EachFaultInOrder}
use Rattle.dk_words.specs.declared.words.OptionName.TheVariants.{Input}

lower : (low lowest high : ℕ) (xs : List ℕ) → lowest ≤ low → AreInOrder low high xs → AreInOrder lowest high xs
lower low lowest high [] h order = omega arith
lower low lowest high (x ∷ xs) h order = let first = order.0 in (omega arith, order.1)

joined : (low middle high : ℕ) (xs ys : List ℕ) → AreInOrder low middle xs → AreInOrder middle high ys → AreInOrder low high (xs ++ ys)
joined low middle high [] ys a b = lower middle low high ys a b
joined low middle high (x ∷ xs) ys a b = (a.0, joined x middle high xs ys a.1 b)

one : (b : Bool) (low high place : ℕ) → low ≤ place → place ≤ high → AreInOrder low high (when b place)
one true low high place h k = (h, k)
one false low high place h k = omega arith

-- those of a piece stand at it or one past it
of_piece : (p : Place Piece) → AreInOrder p.here.at (p.here.at + 1) (piece_faults p)
of_piece p =
    let at : ℕ = p.here.at in
    let here : Bool = is_stray p || (is_second p || (is_other_restart p || is_checked_restart p)) in
    let behind : Bool = is_cut_off p.here || has_no_file p.here in
    let same : at ≤ at = omega arith in
    let up : at ≤ at + 1 = omega arith in
    let past : at + 1 ≤ at + 1 = omega arith in
    joined at at (at + 1) (when here at) (when behind (at + 1)) (one here at at at same same) (one behind at (at + 1) (at + 1) up past)

-- those of the pieces behind others
of_pieces : (before : List Piece) (at : ℕ) (words : List (List ℕ)) → AreInOrder at (at + length words) (flat_map piece_faults (places_after before (pieces_from at words)))
of_pieces before at [] = omega arith
of_pieces before at (word ∷ []) =
    let here : List ℕ = piece_faults (record { before = before; here = piece at word None }) in
    subst (AreInOrder at (at + 1)) (sym (append-nil here)) (of_piece (record { before = before; here = piece at word None }))
of_pieces before at (word ∷ (next ∷ words)) = by (needs_file word) refl (λ others. of_pieces others (at + 2) words) (λ others. of_pieces others (at + 1) (next ∷ words))
  where
    end : ℕ
    end = at + length (word ∷ (next ∷ words))

    by : (b : Bool) → needs_file word ≡ b →
        ((others : List Piece) → AreInOrder (at + 2) (at + 2 + length words) (flat_map piece_faults (places_after others (pieces_from (at + 2) words)))) →
        ((others : List Piece) → AreInOrder (at + 1) (at + 1 + length (next ∷ words)) (flat_map piece_faults (places_after others (pieces_from (at + 1) (next ∷ words))))) →
        AreInOrder at end (flat_map piece_faults (places_after before (pieces_from at (word ∷ (next ∷ words)))))
    by true e two more =
        let p : Piece = piece at word (Some next) in
        let here : Place Piece = record { before = before; here = p } in
        let others : List ℕ = flat_map piece_faults (places_after (before ++ p ∷ []) (pieces_from (at + 2) words)) in
        let ends : at + 2 + length words ≡ end = omega arith in
        rw e (subst (λ high. AreInOrder at high (piece_faults here ++ others)) ends
        (joined at (at + 1) (at + 2 + length words) (piece_faults here) others (of_piece here) (lower (at + 2) (at + 1) (at + 2 + length words) others (omega arith) (two (before ++ p ∷ [])))))
    by false e two more =
        let p : Piece = piece at word None in
        let here : Place Piece = record { before = before; here = p } in
        let others : List ℕ = flat_map piece_faults (places_after (before ++ p ∷ []) (pieces_from (at + 1) (next ∷ words))) in
        let ends : at + 1 + length (next ∷ words) ≡ end = omega arith in
        rw e (subst (λ high. AreInOrder at high (piece_faults here ++ others)) ends
        (joined at (at + 1) (at + 1 + length (next ∷ words)) (piece_faults here) others (of_piece here) (more (before ++ p ∷ []))))

pub each_in_order : EachFaultInOrder
unfolding faults
each_in_order words =
    let all : List ℕ = flat_map piece_faults (places (pieces words)) in
    let end : 1 + length words ≡ length words + 1 = omega arith in
    let same : length words + 1 ≤ length words + 1 = omega arith in
    joined 1 (length words + 1) (length words + 1) all (when (not (stands Input (pieces words))) (length words + 1))
    (subst (λ high. AreInOrder 1 high all) end (of_pieces [] 1 words)) (one (not (stands Input (pieces words))) (length words + 1) (length words + 1) (length words + 1) same same)
