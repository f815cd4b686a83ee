-- The first least of some values, as far as a pass over them has come.
use Rattle.std.proofs.Common.{◌≡◌, ℕ, ◌+◌, ◌<◌, ◌≤◌, Bool, true, false, not, List, [], ◌∷◌, length, get_or, Some, None, ap, sym, ◌∙◌, arith, cond, below_more}
use Rattle.std.specs.Prelude.{nat_lt}
use Rattle.std.specs.List.{position_or_len, list_all}
use Rattle.std.proofs.lemmas.Bool.{lt-ltb}
use Rattle.std.proofs.lemmas.List.{get_or-map, get_or_default, length-map}
use Rattle.std.proofs.lemmas.List.Folds.{list_all_at}
use Rattle.std.proofs.lemmas.List.Sums.{position_or_len_is, list_all-from_AllPass}
use Rattle.dk_num.specs.Decimal.{Decimal, zero_decimal}
use Rattle.dk_types.specs.Best.{is_below}
use Rattle.dk_types.specs.Search.{first_least}
use Rattle.dk_types.proofs.Below.{not_below_itself, below_along, not_both_below}
use Rattle.dk_compass.specs.States.{single}

abbrev pub is_less : Decimal → Decimal → Bool
is_less x y = is_below (x ∷ []) (y ∷ [])

-- of the first values, this is the first least one
pub record IsFirstLeast (values : List Decimal) (count place : ℕ) : Type 0 where
  pub within : place < length values
  pub least : (d : Decimal) (k : ℕ) → k < count → is_less (get_or values k d) (get_or values place d) ≡ false
  pub first : (d : Decimal) (k : ℕ) → k < place → is_less (get_or values place d) (get_or values k d) ≡ true

-- the next value isn't below the least one
pub least_keeps : (values : List Decimal) (count place : ℕ) → ((d : Decimal) → is_less (get_or values count d) (get_or values place d) ≡ false) →
    IsFirstLeast values count place → IsFirstLeast values (count + 1) place
least_keeps values count place e was = record { within = was.within; least = λ d. below_more _ _ (was.least d) (e d); first = was.first }

-- the next value is below the least one
pub least_takes : (values : List Decimal) (count place : ℕ) → count < length values → ((d : Decimal) → is_less (get_or values count d) (get_or values place d) ≡ true) →
    IsFirstLeast values count place → IsFirstLeast values (count + 1) count
least_takes values count place within e was = record {
  within = within;
  least = λ d. below_more _ _ (λ k h. not_both_below (get_or values count d ∷ []) (get_or values k d ∷ []) (below d k h)) (not_below_itself (get_or values count d ∷ []));
  first = below;
}
  where
    below : (d : Decimal) (k : ℕ) → k < count → is_less (get_or values count d) (get_or values k d) ≡ true
    below d k h = below_along (get_or values count d ∷ []) (get_or values place d ∷ []) (get_or values k d ∷ []) (omega arith) (e d) (was.least d k h)

-- two values that are read, compared
pub read_less : (values : List Decimal) (count place : ℕ) (x y : Decimal) (b : Bool) → count < length values → place < length values → x ≡ get_or values count x → y ≡ get_or values place y →
    is_less x y ≡ b → (d : Decimal) → is_less (get_or values count d) (get_or values place d) ≡ b
read_less values count place x y b count_in place_in x_is y_is e d =
    ap (λ v. is_less v (get_or values place d)) (get_or_default values count d x count_in ∙ sym x_is)
    ∙ ap (is_less x) (get_or_default values place d y place_in ∙ sym y_is)
    ∙ e

-- the first least one of all
pub first_least_is : (values : List Decimal) (count place : ℕ) → length values ≤ count → IsFirstLeast values count place → first_least (single values) ≡ Some place
first_least_is values count place all is =
    let long : length (single values) ≡ length values = length-map values (λ v. v ∷ []) in
    let inside = is.within in
    let at : position_or_len passes (single values) ≡ place
    = position_or_len_is passes (single values) place [] (omega arith) above (λ w. here) in
    ap (λ q. cond (nat_lt q (length (single values))) (Some q) None) at ∙ ap (λ t. cond t (Some place) None) (lt-ltb place (length (single values)) (omega arith))
  where
    passes : List Decimal → Bool
    passes v = list_all (λ other. not (is_below other v)) (single values)

    value_at : (k : ℕ) (e : List Decimal) → k < length values → get_or (single values) k e ≡ get_or values k zero_decimal ∷ []
    value_at k e h = get_or-map (λ (v : Decimal). v ∷ []) values k zero_decimal e h

    above : (k : ℕ) → k < place → passes (get_or (single values) k []) ≡ false
    above k h =
        let long : length (single values) ≡ length values = length-map values (λ v. v ∷ []) in
        let inside = is.within in
        list_all_at (λ (other : List Decimal). not (is_below other (get_or (single values) k []))) (single values) place [] (omega arith)
        (ap (λ v. not (is_below v (get_or (single values) k []))) (value_at place [] inside)
        ∙ ap (λ v. not (is_below (get_or values place zero_decimal ∷ []) v)) (value_at k [] (omega arith))
        ∙ ap not (is.first zero_decimal k h))

    here : passes (get_or (single values) place []) ≡ true
    here =
        let long : length (single values) ≡ length values = length-map values (λ v. v ∷ []) in
        let inside = is.within in
        list_all-from_AllPass (λ (other : List Decimal). not (is_below other (get_or (single values) place []))) (single values)
        (λ k d h. ap (λ v. not (is_below v (get_or (single values) place []))) (value_at k d (omega arith))
        ∙ ap (λ v. not (is_below (get_or values k zero_decimal ∷ []) v)) (value_at place [] inside)
        ∙ ap not (is.least zero_decimal k (omega arith)))
