-- A search along the cards of one hash.
use Rattle.std.proofs.Common.{◌≡◌, ℕ, zero, suc, ◌+◌, ◌<◌, ◌≤◌, Bool, true, false, List, [], ◌∷◌, ◌++◌, length, map, get_or, set, Option, Some, None, refl, ap, sym, subst, ◌∙◌, arith, cond, nat_lt, ◌&&◌}
use Rattle.std.specs.Prelude.{◌==◌, if◌then◌else◌}
use Rattle.std.specs.List.{All}
use Rattle.std.specs.Ordering.{is_eq}
use Rattle.std.specs.declared.cmp.Ordering.{Ordering}
use Rattle.std.specs.declared.cmp.Ordering.TheVariants.{Less, Equal, Greater}
use Rattle.std.proofs.lemmas.Bool.{eq-eqb, eqb-true, ltb-true, ltb-false}
use Rattle.std.proofs.lemmas.List.{get_or-map, length-map, length-set, map-append, length_push}
use Rattle.std.proofs.lemmas.List.Elements.{All-head, All-tail, All-push}
use Rattle.std.proofs.lemmas.List.Sums.{fails_before_first}
use Rattle.dk_num.specs.Decimal.{Decimal, IsCanonical}
use Rattle.dk_num.specs.Arithmetic.{decimal_cmp}
use Rattle.dk_num.proofs.ValueLaws.{one_for_equals}
use Rattle.dk_pool.specs.Pool.{PoolState}
use Rattle.dk_types.specs.Best.{same_point}
use Rattle.dk_types.specs.Cards.{AreDistinct}
use Rattle.dk_types.proofs.SamePoints.{apart_turned}
use Rattle.dk_book.specs.declared.book.Mark.{Mark}
use Rattle.dk_book.specs.Hashes.{hash_of}
use Rattle.dk_book.specs.Index.{last_with, IsIndex}
use Rattle.dk_book.specs.Kept.{cards_by, IsIndexed}
use Rattle.dk_book.proofs.Lists.{none_first}
use Rattle.dk_book.proofs.Placed.{IsPut, place_of_cards}
use Rattle.dk_book.proofs.Chains.{IsLast, last_found, last_none, index_more}

-- Points of one hash

equal_from : (o : Ordering) → is_eq o ≡ true → o ≡ Equal
equal_from Less e = absurd (cc)
equal_from Equal e = refl
equal_from Greater e = absurd (cc)

both : (a b : Bool) → (a && b) ≡ true → (a ≡ true) × (b ≡ true)
both true true e = (refl, refl)
both true false e = absurd (cc)
both false b e = absurd (cc)

-- points that are one have one pair for each number
one_point : (p q : List Decimal) → All IsCanonical p → All IsCanonical q → same_point p q ≡ true → p ≡ q
one_point [] [] cp cq e = refl
one_point [] (y ∷ q) cp cq e = absurd (cc)
one_point (x ∷ p) [] cp cq e = absurd (cc)
one_point (x ∷ p) (y ∷ q) cp cq e =
    let h = both (is_eq (decimal_cmp x y)) (same_point p q) e in
    ap (λ d. d ∷ p) (one_for_equals x y (All-head IsCanonical x p cp) (All-head IsCanonical y q cq) (equal_from (decimal_cmp x y) h.0))
    ∙ ap (λ r. y ∷ r) (one_point p q (All-tail IsCanonical x p cp) (All-tail IsCanonical y q cq) h.1)

-- so those of two hashes are two
apart_by_hash : (p q : List Decimal) → All IsCanonical p → All IsCanonical q → (hash_of p == hash_of q) ≡ false → same_point p q ≡ false
apart_by_hash p q cp cq other = at (same_point p q) refl
  where
    at : (t : Bool) → same_point p q ≡ t → same_point p q ≡ false
    at false e = e
    at true e = absurd (let same = eq-eqb (hash_of p) (hash_of q) (ap hash_of (one_point p q cp cq e)) in cc)

-- The walk from card to card

-- next is the last card below a bound with the hash, and no card from the bound on has the point
pub record IsWalk (points : List (List Decimal)) (p : List Decimal) (next : Option ℕ) : Type 0 where
  pub bound : ℕ
  pub within : bound ≤ length points
  pub is : next ≡ last_with (map hash_of points) (hash_of p) bound
  pub apart : (k : ℕ) → bound ≤ k → k < length points → same_point (get_or points k []) p ≡ false

pub walk_begun : (points : List (List Decimal)) (p : List Decimal) (next : Option ℕ) → next ≡ last_with (map hash_of points) (hash_of p) (length (map hash_of points)) → IsWalk points p next
walk_begun points p next e = record {
  bound = length points;
  within = omega arith;
  is = e ∙ ap (last_with (map hash_of points) (hash_of p)) (length-map points hash_of);
  apart = λ k l m. absurd (omega arith);
}

-- how many cards are left to be looked at, at most
abbrev pub left : Option ℕ → ℕ
left None = 0
left (Some k) = k + 1

found : (points : List (List Decimal)) (p : List Decimal) (k : ℕ) (walk : IsWalk points p (Some k)) → IsLast (λ j. get_or (map hash_of points) j 0 == hash_of p) walk.bound k
found points p k walk = last_found (λ j. get_or (map hash_of points) j 0 == hash_of p) walk.bound k (sym walk.is)

pub walk_there : (points : List (List Decimal)) (p : List Decimal) (k : ℕ) → IsWalk points p (Some k) → k < length points
walk_there points p k walk = let f = found points p k walk in omega (arith, f.below, walk.within)

-- a card of another hash has another point
other_hash : (points : List (List Decimal)) (p : List Decimal) → All (All IsCanonical) points → All IsCanonical p → (k : ℕ) → k < length points →
    (get_or (map hash_of points) k 0 == hash_of p) ≡ false → same_point (get_or points k []) p ≡ false
other_hash points p cs cp k l e =
    apart_by_hash (get_or points k []) p (cs k [] l) cp (ap (λ h. h == hash_of p) (sym (get_or-map hash_of points k [] 0 l)) ∙ e)

-- one step on
pub walk_on : (points : List (List Decimal)) (p : List Decimal) (k : ℕ) (next : Option ℕ) → All (All IsCanonical) points → All IsCanonical p → IsWalk points p (Some k) →
    same_point (get_or points k []) p ≡ false → next ≡ last_with (map hash_of points) (get_or (map hash_of points) k 0) k → IsWalk points p next
walk_on points p k next cs cp walk apart e = record {
  bound = k;
  within = let there = walk_there points p k walk in omega arith;
  is = e ∙ ap (λ h. last_with (map hash_of points) h k) (eqb-true (get_or (map hash_of points) k 0) (hash_of p) (found points p k walk).passes);
  apart = λ j l m. first j l m (nat_lt k j) refl;
}
  where
    behind : (j : ℕ) → k < j → j < length points → (t : Bool) → nat_lt j walk.bound ≡ t → same_point (get_or points j []) p ≡ false
    behind j l m true below = other_hash points p cs cp j m ((found points p k walk).behind j l (ltb-true j walk.bound below))
    behind j l m false above = walk.apart j (ltb-false j walk.bound above) m

    first : (j : ℕ) → k ≤ j → j < length points → (t : Bool) → nat_lt k j ≡ t → same_point (get_or points j []) p ≡ false
    first j l m true past = behind j (ltb-true k j past) m (nat_lt j walk.bound) refl
    first j l m false here = subst (λ i. same_point (get_or points i []) p ≡ false) (let h = ltb-false k j here in let e : k ≡ j = omega arith in e) apart

pub walk_smaller : (points : List (List Decimal)) (hash k : ℕ) (next : Option ℕ) → next ≡ last_with (map hash_of points) hash k → left next < left (Some k)
walk_smaller points hash k None e = omega arith
walk_smaller points hash k (Some j) e = let f = last_found (λ i. get_or (map hash_of points) i 0 == hash) k j (sym e) in omega (arith, f.below)

-- at the end of the walk no card has the point
pub walk_done : (points : List (List Decimal)) (p : List Decimal) → All (All IsCanonical) points → All IsCanonical p → IsWalk points p None →
    (k : ℕ) → k < length points → same_point (get_or points k []) p ≡ false
walk_done points p cs cp walk k l = at (nat_lt k walk.bound) refl
  where
    at : (t : Bool) → nat_lt k walk.bound ≡ t → same_point (get_or points k []) p ≡ false
    at true below = other_hash points p cs cp k l (last_none (λ j. get_or (map hash_of points) j 0 == hash_of p) walk.bound (sym walk.is) k (ltb-true k walk.bound below))
    at false above = walk.apart k (ltb-false k walk.bound above) l

-- The place of a card that is found

-- no point has a place behind its own
apart_behind : (values points : List (List Decimal)) (marks : List Mark) (i k : ℕ) → length points ≤ length marks → AreDistinct (cards_by values points marks) → k < i → i < length points →
    same_point (get_or points k []) (get_or points i []) ≡ false
apart_behind values [] marks i k h distinct l m = absurd (omega arith)
apart_behind values (x ∷ points) [] i k h distinct l m = absurd (omega arith)
apart_behind values (x ∷ points) (mark ∷ marks) zero k h distinct l m = absurd (omega arith)
apart_behind values (x ∷ points) (mark ∷ marks) (suc i) (suc k) h distinct l m = apart_behind values points marks i k (omega arith) distinct.1 (omega arith) (omega arith)
apart_behind values (x ∷ points) (mark ∷ marks) (suc i) zero h distinct l m =
    apart_turned (get_or points i []) x (fails_before_first (λ p. same_point p x) points i []
    (let e = none_first (λ p. same_point p x) points (sym (place_of_cards values points marks x (omega arith)) ∙ distinct.0) in omega arith))

pub apart_before : (values points : List (List Decimal)) (marks : List Mark) (p : List Decimal) (i : ℕ) → length points ≤ length marks → AreDistinct (cards_by values points marks) → i < length points →
    get_or points i [] ≡ p → (k : ℕ) → k < i → same_point (get_or points k []) p ≡ false
apart_before values points marks p i h distinct l is k m = ap (same_point (get_or points k [])) (sym is) ∙ apart_behind values points marks i k h distinct m l

-- An index of no points, and one with a point more

pub indexed_none : (points : PoolState) (last : ℕ → Option ℕ) (before : List (Option ℕ)) (room : ℕ) → points.rows ≡ [] → ((hash : ℕ) → last hash ≡ None) →
    length before ≡ points.spare → points.spare ≤ room → IsIndexed points last before room
indexed_none points last before room none known enough fits = record {
  canonical = subst (All (All IsCanonical)) (sym none) (λ i d l. absurd (omega arith));
  finds = subst (λ rows. IsIndex (map hash_of rows) last before) (sym none) (record { known = λ hash. known hash; chained = λ place l. absurd (omega arith) });
  enough = let empty = ap length none in omega arith;
  room = fits;
}

pub indexed_put : (points more : PoolState) (p : List Decimal) (last late : ℕ → Option ℕ) (before behind : List (Option ℕ)) (room rest card : ℕ) →
    IsIndexed points last before room → IsPut points p more → All IsCanonical p → card ≡ length points.rows →
    ((other : ℕ) → late other ≡ (if hash_of p == other then Some card else last other)) → behind ≡ set before card (last (hash_of p)) → room ≤ rest + 1 → IsIndexed more late behind rest
indexed_put points more p last late before behind room rest card is put cp here known chained used = record {
  canonical = subst (All (All IsCanonical)) (sym put.rows) (All-push (All IsCanonical) points.rows p is.canonical cp);
  finds = subst (λ hashes. IsIndex hashes late behind) (sym (ap (map hash_of) put.rows ∙ map-append hash_of points.rows (p ∷ [])))
      (subst (IsIndex (map hash_of points.rows ++ hash_of p ∷ []) late) (sym (chained ∙ ap (λ i. set before i (last (hash_of p))) place))
      (index_more (map hash_of points.rows) (hash_of p) last late before is.finds (omega (arith, is.enough, put.spare, long))
      (λ other. known other ∙ ap (λ i. cond (hash_of p == other) (Some i) (last other)) place)));
  enough = ap length chained ∙ length-set before card (last (hash_of p)) ∙ is.enough ∙ (let more_rows = ap length put.rows ∙ length_push points.rows p in omega (arith, put.spare));
  room = omega (arith, is.room, put.spare, used);
}
  where
    long : length (map hash_of points.rows) ≡ length points.rows
    long = length-map points.rows hash_of

    place : card ≡ length (map hash_of points.rows)
    place = here ∙ sym long
