-- The attempts of a point among entries.
use Rattle.std.proofs.Common.{◌≡◌, ℕ, ◌+◌, Bool, true, false, List, [], ◌∷◌, ◌++◌, length, map, Option, Some, None, refl, ap, sym, ◌∙◌, arith, cond, ◌&&◌}
use Rattle.std.specs.Prelude.{option_map, ◌==◌}
use Rattle.std.specs.List.{filter, find}
use Rattle.std.specs.Option.{option_or}
use Rattle.std.proofs.lemmas.List.{map-append}
use Rattle.std.proofs.lemmas.List.Elements.{filter-append}
use Rattle.std.proofs.lemmas.List.Folds.{find-append}
use Rattle.dk_num.specs.Decimal.{Decimal}
use Rattle.dk_types.specs.declared.entry.Entry.{Entry}
use Rattle.dk_types.specs.declared.entry.Said.{Said}
use Rattle.dk_types.specs.declared.entry.Said.TheVariants.{Values, Failed}
use Rattle.dk_types.specs.Best.{same_point}
use Rattle.dk_types.specs.Entries.{attempts, first_values, failures, said}
use Rattle.dk_types.proofs.SamePoints.{same_alike}

pub attempts_first : (e : Entry) (es : List Entry) (p : List Decimal) → attempts (e ∷ es) p ≡ cond (same_point e.point p) (e.said ∷ attempts es p) (attempts es p)
attempts_first e es p = at (same_point e.point p)
  where
    at : (t : Bool) → map (λ (x : Entry). x.said) (cond t (e ∷ filter (λ (x : Entry). same_point x.point p) es) (filter (λ (x : Entry). same_point x.point p) es)) ≡ cond t (e.said ∷ attempts es p) (attempts es p)
    at true = refl
    at false = refl

-- a point has the attempts of each point that is the same
pub attempts_alike : (es : List Entry) (p q : List Decimal) → same_point p q ≡ true → attempts es p ≡ attempts es q
attempts_alike [] p q h = refl
attempts_alike (e ∷ es) p q h =
    attempts_first e es p
    ∙ ap (λ t. cond t (e.said ∷ attempts es p) (attempts es p)) (same_alike e.point p q h)
    ∙ ap (λ s. cond (same_point e.point q) (e.said ∷ s) s) (attempts_alike es p q h)
    ∙ sym (attempts_first e es q)

pub attempts_append : (xs ys : List Entry) (p : List Decimal) → attempts (xs ++ ys) p ≡ attempts xs p ++ attempts ys p
attempts_append xs ys p =
    ap (map (λ (x : Entry). x.said)) (filter-append (λ (x : Entry). same_point x.point p) xs ys)
    ∙ map-append (λ (x : Entry). x.said) (filter (λ (x : Entry). same_point x.point p) xs) (filter (λ (x : Entry). same_point x.point p) ys)

-- one entry more
pub attempts_more : (es : List Entry) (e : Entry) (p : List Decimal) → attempts (es ++ e ∷ []) p ≡ attempts es p ++ cond (same_point e.point p) (e.said ∷ []) []
attempts_more es e p = attempts_append es (e ∷ []) p ∙ ap (λ s. attempts es p ++ s) (attempts_first e [] p)

pub first_values_append : (xs ys : List Said) → first_values (xs ++ ys) ≡ option_or (first_values xs) (first_values ys)
first_values_append [] ys = refl
first_values_append (Values v ∷ xs) ys = refl
first_values_append (Failed ∷ xs) ys = first_values_append xs ys

pub failures_append : (xs ys : List Said) → failures (xs ++ ys) ≡ failures xs + failures ys
failures_append [] ys = omega arith
failures_append (Values v ∷ xs) ys = failures_append xs ys
failures_append (Failed ∷ xs) ys = let h = failures_append xs ys in omega arith

-- attempts without values all failed
pub all_failed : (xs : List Said) → first_values xs ≡ None → failures xs ≡ length xs
all_failed [] e = refl
all_failed (Values v ∷ xs) e = absurd (cc)
all_failed (Failed ∷ xs) e = let h = all_failed xs e in omega arith

pub said_append : (xs ys : List Entry) (p : List Decimal) (attempt : ℕ) → said (xs ++ ys) p attempt ≡ option_or (said xs p attempt) (said ys p attempt)
said_append xs ys p attempt =
    ap (option_map (λ (e : Entry). e.said)) (find-append test xs ys) ∙ at (find test xs)
  where
    test : Entry → Bool
    test = λ e. same_point e.point p && (e.attempt == attempt)

    at : (o : Option Entry) → option_map (λ (e : Entry). e.said) (option_or o (find test ys)) ≡ option_or (option_map (λ (e : Entry). e.said) o) (option_map (λ (e : Entry). e.said) (find test ys))
    at None = refl
    at (Some e) = refl

-- one entry
pub said_one : (e : Entry) (p : List Decimal) (attempt : ℕ) → said (e ∷ []) p attempt ≡ cond (same_point e.point p && (e.attempt == attempt)) (Some e.said) None
said_one e p attempt = at (same_point e.point p && (e.attempt == attempt))
  where
    at : (t : Bool) → option_map (λ (x : Entry). x.said) (cond t (Some e) None) ≡ cond t (Some e.said) None
    at true = refl
    at false = refl
