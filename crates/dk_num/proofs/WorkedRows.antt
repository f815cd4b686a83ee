-- Worked examples of the definitions, computed.
use Rattle.std.proofs.Common.{◌≡◌, refl, [], ◌∷◌, Some, None, ℤ, pos, neg_ℤ, negsuc, ℕ, arith}
use Rattle.std.proofs.lemmas.Int.{ints}
use Rattle.std.specs.Prelude.{codes, Ok, Err, ◌≤ℤ◌}
use Rattle.dk_num.specs.Decimal.{Decimal, IsCanonical, decimal_of}
use Rattle.dk_num.specs.Numbers.{read_of, number_of}
use Rattle.dk_num.specs.Units.{unit_exponent, units_of}
use Rattle.dk_num.specs.Arithmetic.{ros}
use Rattle.dk_num.specs.declared.read.NumFault.TheVariants.{Empty, Shape, OutOfRange}

abbrev dec : ℤ → ℤ → Decimal
dec m e = record { mantissa = m; exponent = e }

zero_at_one : IsCanonical (dec (pos 0) (pos 1)) → ⊥
zero_at_one is = let e : ◌≡◌ {A = ℤ} (pos 1) (pos 0) = is.zero refl in cc

ten_at_zero : IsCanonical (dec (pos 10) (pos 0)) → ⊥
ten_at_zero is = let e : ◌≡◌ {A = ℕ} 1 0 = is.stripped (omega arith) in cc

past_the_range : IsCanonical (dec (pos 1) (pos 10000)) → ⊥
past_the_range is = let h : pos 10000 ≤ℤ pos 9999 = is.highest (omega arith) in omega (arith, ints)

a_tenth : read_of (codes "0.10") ≡ Ok (dec (pos 1) (neg_ℤ (pos 1)))
unfolding read_of number_of
a_tenth = refl

minus_zero : read_of (codes "-0") ≡ Ok (dec (pos 0) (pos 0))
unfolding read_of number_of
minus_zero = refl

zero_far : read_of (codes "0e99999") ≡ Ok (dec (pos 0) (pos 0))
unfolding read_of number_of
zero_far = refl

hundreds : read_of (codes "1200") ≡ Ok (dec (pos 12) (pos 2))
unfolding read_of number_of
hundreds = refl

tiny : read_of (codes "1e-7") ≡ Ok (dec (pos 1) (neg_ℤ (pos 7)))
unfolding read_of number_of
tiny = refl

half : read_of (codes ".5") ≡ Ok (dec (pos 5) (neg_ℤ (pos 1)))
unfolding read_of number_of
half = refl

five : read_of (codes "5.") ≡ Ok (dec (pos 5) (pos 0))
unfolding read_of number_of
five = refl

minus_half : read_of (codes "-50e-2") ≡ Ok (dec (negsuc 4) (neg_ℤ (pos 1)))
unfolding read_of number_of
minus_half = refl

nothing : read_of [] ≡ Err Empty
unfolding read_of number_of
nothing = refl

point_alone : read_of (codes ".") ≡ Err (Shape 1)
unfolding read_of number_of
point_alone = refl

mark_alone : read_of (codes "1e") ≡ Err (Shape 2)
unfolding read_of number_of
mark_alone = refl

mark_and_sign : read_of (codes "1e+x") ≡ Err (Shape 3)
unfolding read_of number_of
mark_and_sign = refl

letter_behind : read_of (codes "1x") ≡ Err (Shape 1)
unfolding read_of number_of
letter_behind = refl

letters : read_of (codes "abc") ≡ Err (Shape 0)
unfolding read_of number_of
letters = refl

signed_point : read_of (codes "+.") ≡ Err (Shape 2)
unfolding read_of number_of
signed_point = refl

too_great : read_of (codes "1e10000") ≡ Err OutOfRange
unfolding read_of number_of
too_great = refl

least : read_of (codes "1e-9999") ≡ Ok (dec (pos 1) (neg_ℤ (pos 9999)))
unfolding read_of number_of
least = refl

unit_of_halves : unit_exponent (dec (pos 5) (neg_ℤ (pos 1)) ∷ dec (pos 0) (pos 0) ∷ []) ≡ neg_ℤ (pos 29)
unit_of_halves = refl

off_grid : units_of (neg_ℤ (pos 8)) (dec (pos 1) (neg_ℤ (pos 20))) ≡ None
off_grid = refl

on_grid : units_of (neg_ℤ (pos 2)) (dec (negsuc 4) (neg_ℤ (pos 1))) ≡ Some (negsuc 49)
on_grid = refl

at_halves : ros (dec (pos 5) (neg_ℤ (pos 1))) (dec (pos 5) (neg_ℤ (pos 1))) ≡ Some (dec (pos 65) (neg_ℤ (pos 1)))
unfolding decimal_of
at_halves = refl
