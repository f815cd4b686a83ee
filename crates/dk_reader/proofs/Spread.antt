-- The values at the places of a list in which each stands as often as it stands for itself.
use Rattle.std.proofs.Common.{◌≡◌, ℕ, zero, suc, ◌+◌, ◌-◌, ◌<◌, ◌≤◌, List, ◌++◌, length, drop, get_or, refl, sym, ap, ◌∙◌, arith, replicate}
use Rattle.std.specs.Prelude.{Option, Some, slice_get}
use Rattle.std.proofs.Math.Seq.{drop-cons}
use Rattle.dk_reader.specs.declared.value.Value.{Value}
use Rattle.dk_reader.specs.Values.{count, spread}

copy_there : {X : Type 0} (n : ℕ) (x : X) (rest : List X) (k : ℕ) → k < n → slice_get (replicate n x ++ rest) k ≡ Some x
copy_there zero x rest k h = absurd (omega (arith, h))
copy_there (suc n) x rest zero h = refl
copy_there (suc n) x rest (suc k) h = copy_there n x rest k (omega (arith, h))

copy_past : {X : Type 0} (n : ℕ) (x : X) (rest : List X) (k : ℕ) → n ≤ k → slice_get (replicate n x ++ rest) k ≡ slice_get rest (k - n)
copy_past zero x rest k h = let e : k ≡ k - 0 = omega arith in ap (slice_get rest) e
copy_past (suc n) x rest zero h = absurd (omega (arith, h))
copy_past (suc n) x rest (suc k) h = let e : k - n ≡ suc k - suc n = omega arith in copy_past n x rest k (omega (arith, h)) ∙ ap (slice_get rest) e

module _ (vs : List Value) (i : ℕ) (v : Value) (within : i < length vs) (is : v ≡ get_or vs i v) where
  left : spread (drop i vs) ≡ replicate (count v) v ++ spread (drop (i + 1) vs)
  left =
      let next : suc i ≡ i + 1 = omega arith in
      ap spread (drop-cons vs i v within)
      ∙ ap (λ y. replicate (count y) y ++ spread (drop (suc i) vs)) (sym is)
      ∙ ap (λ n. replicate (count v) v ++ spread (drop n vs)) next

  -- it is a copy of this value
  pub value_here : (k : ℕ) (whole : Option Value) → k < count v → slice_get (spread (drop i vs)) k ≡ whole → Some v ≡ whole
  value_here k whole h was = sym (copy_there (count v) v (spread (drop (i + 1) vs)) k h) ∙ ap (λ l. slice_get l k) (sym left) ∙ was

  -- it stands behind the copies of this value
  pub value_behind : (k : ℕ) (whole : Option Value) → count v ≤ k → slice_get (spread (drop i vs)) k ≡ whole → slice_get (spread (drop (i + 1) vs)) (k - count v) ≡ whole
  value_behind k whole h was = sym (copy_past (count v) v (spread (drop (i + 1) vs)) k h) ∙ ap (λ l. slice_get l k) (sym left) ∙ was
