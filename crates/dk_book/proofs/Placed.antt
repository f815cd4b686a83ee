-- The cards of points and their marks, and where the card of a point stands.
use Rattle.std.proofs.Common.{◌≡◌, ℕ, zero, suc, ◌+◌, ◌<◌, ◌≤◌, Bool, true, false, not, List, [], ◌∷◌, ◌++◌, length, get_or, drop, Option, Some, None, refl, ap, sym, subst, ◌∙◌, arith, cond, nat_lt}
use Rattle.std.specs.Prelude.{◌^◌, option_map, slice_get, position, is_some, IfSome, replicate, if◌then◌else◌}
use Rattle.std.specs.List.{All, find, position_or_len}
use Rattle.std.specs.Option.{option_or}
use Rattle.std.proofs.lemmas.Bool.{lt-ltb, le-ltb, ltb-true}
use Rattle.std.proofs.lemmas.List.{length_push, drop-drop, length-replicate, get_or-replicate}
use Rattle.std.proofs.lemmas.List.Elements.{All-drop, All-push, All-weaker}
use Rattle.std.proofs.lemmas.List.Folds.{find_at, find-append}
use Rattle.std.proofs.lemmas.List.Sums.{position_or_len_is}
use Rattle.std.proofs.lemmas.Option.{get_or_from_slice_get, slice_get-get_or}
use Rattle.dk_num.specs.Decimal.{Decimal}
use Rattle.dk_pool.specs.Pool.{PoolState}
use Rattle.dk_types.specs.declared.entry.Entry.{Entry}
use Rattle.dk_types.specs.Best.{same_point}
use Rattle.dk_types.specs.Cards.{Card, blank, place_of, card_at, AreDistinct, SumUp}
use Rattle.dk_types.specs.EntryLaws.{IsCard}
use Rattle.dk_types.proofs.SamePoints.{same_itself, apart_turned}
use Rattle.dk_types.proofs.CardEntries.{not_found}
use Rattle.dk_book.proofs.Lists.{behind_none}
use Rattle.dk_book.specs.declared.book.Mark.{Mark}
use Rattle.dk_book.specs.Books.{BookState, with_card}
use Rattle.dk_book.specs.Kept.{card_by, cards_by, book_by, unmarked, IsKept}

-- each point has a card
pub cards_length : (values points : List (List Decimal)) (marks : List Mark) → length points ≤ length marks → length (cards_by values points marks) ≡ length points
cards_length values [] marks h = refl
cards_length values (p ∷ points) [] h = absurd (omega arith)
cards_length values (p ∷ points) (mark ∷ marks) h = let e = cards_length values points marks (omega arith) in omega arith

-- the card at a place
pub card_there : (values points : List (List Decimal)) (marks : List Mark) (i : ℕ) (p : List Decimal) (mark : Mark) → length points ≤ length marks → i < length points →
    slice_get (cards_by values points marks) i ≡ Some (card_by values (get_or points i p) (get_or marks i mark))
card_there values [] marks i p mark h l = absurd (omega arith)
card_there values (x ∷ points) [] i p mark h l = absurd (omega arith)
card_there values (x ∷ points) (m ∷ marks) zero p mark h l = refl
card_there values (x ∷ points) (m ∷ marks) (suc i) p mark h l = card_there values points marks i p mark (omega arith) (omega arith)

-- and it has the point there
pub card_point : (values points : List (List Decimal)) (marks : List Mark) (i : ℕ) (mark : Mark) → length points ≤ length marks → i < length points →
    option_map (λ (card : Card). card.point) (slice_get (cards_by values points marks) i) ≡ slice_get points i
card_point values points marks i mark h l = ap (option_map (λ (card : Card). card.point)) (card_there values points marks i [] mark h l) ∙ sym (slice_get-get_or points i [] l)

-- a card's place is that of a point
pub point_there : (points values : PoolState) (marks : List Mark) (book : BookState) (i : ℕ) → IsKept points values marks → book_by points values marks ≡ book → i < length book.cards → i < length points.rows
point_there points values marks book i kept is l =
    let enough = kept.enough in omega (arith, cards_length values.rows points.rows marks (omega arith), ap (λ (b : BookState). length b.cards) is)

-- the first card of a point is that of the first point that is the same
cards_first : (values points : List (List Decimal)) (marks : List Mark) (q : List Decimal) → length points ≤ length marks →
    position_or_len (λ (card : Card). same_point card.point q) (cards_by values points marks) ≡ position_or_len (λ p. same_point p q) points
cards_first values [] marks q h = refl
cards_first values (p ∷ points) [] q h = absurd (omega arith)
cards_first values (p ∷ points) (mark ∷ marks) q h = ap (λ n. cond (not (same_point p q)) (1 + n) 0) (cards_first values points marks q (omega arith))

-- so a card has the place of that point
pub place_of_cards : (values points : List (List Decimal)) (marks : List Mark) (q : List Decimal) → length points ≤ length marks →
    place_of (cards_by values points marks) q ≡ position (λ p. same_point p q) points
place_of_cards values points marks q h =
    ap (λ n. cond (nat_lt n (length (cards_by values points marks))) (Some n) None) (cards_first values points marks q h)
    ∙ ap (λ l. cond (nat_lt (position_or_len (λ p. same_point p q) points) l) (Some (position_or_len (λ p. same_point p q) points)) None) (cards_length values points marks h)

-- no point before this one is the same, and this one is
pub place_of_same : (values points : List (List Decimal)) (marks : List Mark) (p q : List Decimal) (i : ℕ) → length points ≤ length marks → i < length points →
    ((k : ℕ) → k < i → same_point (get_or points k []) q ≡ false) → slice_get points i ≡ Some p → same_point p q ≡ true → place_of (cards_by values points marks) q ≡ Some i
place_of_same values points marks p q i h within apart is same =
    let first = position_or_len_is (λ p. same_point p q) points i [] (omega arith) apart (λ l. ap (λ x. same_point x q) (get_or_from_slice_get points i p [] is) ∙ same) in
    place_of_cards values points marks q h
    ∙ ap (λ n. cond (nat_lt n (length points)) (Some n) None) first
    ∙ ap (λ t. cond t (Some i) None) (lt-ltb i (length points) within)

-- no point is the same
pub place_of_none : (values points : List (List Decimal)) (marks : List Mark) (q : List Decimal) → length points ≤ length marks →
    ((k : ℕ) → k < length points → same_point (get_or points k []) q ≡ false) → place_of (cards_by values points marks) q ≡ None
place_of_none values points marks q h apart =
    let first = position_or_len_is (λ p. same_point p q) points (length points) [] (omega arith) apart (λ l. absurd (omega arith)) in
    place_of_cards values points marks q h
    ∙ ap (λ n. cond (nat_lt n (length points)) (Some n) None) first
    ∙ ap (λ t. cond t (Some (length points)) None) (le-ltb (length points) (length points) (omega arith))

-- Cards, and a blank one behind them

-- the card is one of this point
abbrev pub is_of : List Decimal → Card → Bool
is_of p = λ card. same_point card.point p

-- where no card of the point is found, none has a place
pub not_placed : (cards : List Card) (p : List Decimal) → find (is_of p) cards ≡ None → place_of cards p ≡ None
not_placed cards p e = at (nat_lt (position_or_len (is_of p) cards) (length cards)) refl
  where
    at : (t : Bool) → nat_lt (position_or_len (is_of p) cards) (length cards) ≡ t → cond t (Some (position_or_len (is_of p) cards)) None ≡ None
    at true h = absurd (
        let there = slice_get-get_or cards (position_or_len (is_of p) cards) (blank p) (omega (arith, ltb-true)) in
        let found = find_at (is_of p) cards in
        cc
        )
    at false h = refl

-- the new card stands behind the others
pub place_of_more : (cards : List Card) (p : List Decimal) → place_of cards p ≡ None → place_of (cards ++ blank p ∷ []) p ≡ Some (length cards)
place_of_more cards p none = behind_none (is_of p) cards (blank p) true (same_itself p) none

-- and is of a point of its own
distinct_more : (cards : List Card) (p : List Decimal) → AreDistinct cards → place_of cards p ≡ None → AreDistinct (cards ++ blank p ∷ [])
distinct_more [] p distinct none = (refl, tt)
distinct_more (c ∷ cards) p distinct none = at (same_point c.point p) refl (not_found (c ∷ cards) p none) (distinct_more cards p distinct.1)
  where
    at : (t : Bool) → same_point c.point p ≡ t → cond t (Some c) (find (is_of p) cards) ≡ None → (place_of cards p ≡ None → AreDistinct (cards ++ blank p ∷ [])) → AreDistinct (c ∷ cards ++ blank p ∷ [])
    at true same e rest = absurd (cc)
    at false apart e rest = (
      not_placed (cards ++ blank p ∷ []) c.point
          (find-append (is_of c.point) cards (blank p ∷ [])
          ∙ ap (λ o. option_or o (cond (same_point p c.point) (Some (blank p)) None)) (not_found cards c.point distinct.0)
          ∙ ap (λ t. cond t (Some (blank p)) None) (apart_turned c.point p apart)),
      rest (not_placed cards p e),
    )

-- a blank card tells of nothing
pub sum_up_more : (cards : List Card) (p : List Decimal) (entries : List Entry) → SumUp cards entries → SumUp (cards ++ blank p ∷ []) entries
sum_up_more cards p entries sum = record {
  each = λ q. ap (card_at q) (find-append (is_of q) cards (blank p ∷ [])) ∙ at q (find (is_of q) cards) (same_point p q) ∙ sum.each q;
}
  where
    at : (q : List Decimal) (o : Option Card) (t : Bool) → card_at q (option_or o (cond t (Some (blank p)) None)) ≡ card_at q o
    at q None true = refl
    at q None false = refl
    at q (Some c) t = refl

-- a point without a card gets one
pub with_new : (cards : List Card) (p : List Decimal) → place_of cards p ≡ None → with_card cards p ≡ cards ++ blank p ∷ []
with_new cards p none = ap (λ o. if is_some o then cards else cards ++ blank p ∷ []) none

-- A book that begins

kept_empty : (width spare : ℕ) (values : PoolState) (marks : List Mark) → length marks ≡ spare → All (λ mark. mark ≡ unmarked) marks → spare < 2 ^ 32 →
    IsKept (record { rows = []; width = width; spare = spare }) values marks
kept_empty width spare values marks enough blank few = record {
  enough = omega arith;
  blank = blank;
  there = All-weaker (λ mark. mark ≡ unmarked) (λ mark. IfSome mark.values (λ row. row.index < length values.rows)) (λ mark e. subst (λ (m : Mark). IfSome m.values (λ row. row.index < length values.rows)) (sym e) tt) marks blank;
  book = record { distinct = tt; cards = λ i d l. absurd (omega arith); few = omega arith };
}

-- with room for cards, and no points
pub kept_none : (points values : PoolState) (marks : List Mark) (cards : ℕ) → points.rows ≡ [] → points.spare ≡ cards → cards < 2 ^ 32 → marks ≡ replicate cards unmarked → IsKept points values marks
kept_none points values marks cards none room few are =
    subst (λ rows. IsKept (record { rows = rows; width = points.width; spare = points.spare }) values marks) (sym none)
    (kept_empty points.width points.spare values marks (ap length are ∙ length-replicate cards unmarked ∙ sym room)
    (subst (All (λ mark. mark ≡ unmarked)) (sym are) (λ i d l. get_or-replicate cards i unmarked d (let long = length-replicate cards unmarked in omega arith))) (omega arith))

-- A point put behind the others

-- it has a blank card
cards_more : (values points : List (List Decimal)) (marks : List Mark) (p : List Decimal) → length points < length marks →
    All (λ mark. mark ≡ unmarked) (drop (length points) marks) → cards_by values (points ++ p ∷ []) marks ≡ cards_by values points marks ++ blank p ∷ []
cards_more values [] [] p h are = absurd (omega arith)
cards_more values [] (mark ∷ marks) p h are = ap (λ m. card_by values p m ∷ []) (are 0 mark (omega arith))
cards_more values (x ∷ points) [] p h are = absurd (omega arith)
cards_more values (x ∷ points) (mark ∷ marks) p h are = ap (λ cards. card_by values x mark ∷ cards) (cards_more values points marks p (omega arith) are)

-- the points with this one behind them, in room that was there
pub record IsPut (points : PoolState) (p : List Decimal) (more : PoolState) : Type 0 where
  pub rows : more.rows ≡ points.rows ++ p ∷ []
  pub width : more.width ≡ points.width
  pub spare : more.spare + 1 ≡ points.spare

-- only the cards gain one
pub cards_put : (points more values : PoolState) (marks : List Mark) (p : List Decimal) → IsKept points values marks → IsPut points p more →
    cards_by values.rows more.rows marks ≡ cards_by values.rows points.rows marks ++ blank p ∷ []
cards_put points more values marks p kept put =
    let enough = kept.enough in
    ap (λ rows. cards_by values.rows rows marks) put.rows ∙ cards_more values.rows points.rows marks p (omega arith) kept.blank

-- and the book is kept as before
pub kept_put : (points more values : PoolState) (marks : List Mark) (p : List Decimal) → IsKept points values marks → IsPut points p more →
    length p ≡ points.width → place_of (cards_by values.rows points.rows marks) p ≡ None → IsKept more values marks
kept_put points more values marks p kept put wide none = record {
  enough = omega (arith, kept.enough, longer, put.spare);
  blank = subst (All (λ mark. mark ≡ unmarked)) (drop-drop 1 (length points.rows) marks ∙ ap (λ n. drop n marks) (sym longer)) (All-drop (λ mark. mark ≡ unmarked) 1 (drop (length points.rows) marks) kept.blank);
  there = kept.there;
  book = record {
    distinct = subst AreDistinct (sym cards) (distinct_more was p kept.book.distinct none);
    cards = subst (All (IsCard more.width values.width)) (sym cards)
        (All-push (IsCard more.width values.width) was (blank p) (subst (λ n. All (IsCard n values.width) was) (sym put.width) kept.book.cards) (record { point = wide ∙ sym put.width; values = tt }));
    few = omega (arith, kept.book.few, ap length cards, length_push was (blank p), put.spare);
  };
}
  where
    longer : length more.rows ≡ length points.rows + 1
    longer = ap length put.rows ∙ length_push points.rows p

    was : List Card
    was = cards_by values.rows points.rows marks

    cards : cards_by values.rows more.rows marks ≡ was ++ blank p ∷ []
    cards = cards_put points more values marks p kept put
