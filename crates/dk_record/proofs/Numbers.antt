-- Numbers that are read from their bytes.
use Rattle.std.proofs.Common.{◌≡◌, ℕ, zero, suc, ◌+◌, ◌*◌, ◌/◌, ◌^◌, ◌<◌, ◌≤◌, ℤ, List, [], ◌∷◌, ◌++◌, length, take, drop, get_or, refl, sym, ◌∙◌, ap, subst, arith, FitsSigned}
use Rattle.std.specs.Int.{Width, w16, w32, w128, to_le_bytes, cast_unsigned, cast_signed, byte_at, byte_worth, bytes_low_first, sum_through}
use Rattle.std.proofs.Math.Nat.{div-one, pow-suc, mul_assoc}
use Rattle.std.proofs.Math.Facts.{to_z-of_z}
use Rattle.std.proofs.lemmas.List.{take_all, take-append-drop, length-take-le}
use Rattle.dk_num.specs.Decimal.{Decimal, IsCanonical}
use Rattle.dk_record.specs.Payloads.{decimal_bytes}
use Rattle.dk_record.specs.Readings.{Begins, NoneBegins}
use Rattle.dk_record.proofs.Bytes.{split_same, mantissa_fits, exponent_fits, signed_same_16, signed_same_128, length-decimal_bytes, byte_is, next_is}

-- the number whose bytes these are, the lowest first
abbrev number_of : List ℕ → ℕ
number_of [] = 0
number_of (b ∷ bs) = b + 256 * number_of bs

written : (i n : ℕ) (bs : List ℕ) → ((k : ℕ) → get_or bs k 0 < 256) → n / 256 ^ i ≡ number_of bs → bytes_low_first i (length bs) n ≡ bs
written i n [] small e = refl
written i n (b ∷ bs) small e =
    let byte : b < 256 = small 0 in
    let head : byte_at i n ≡ b = byte_is i n ∙ omega (arith, e, byte) in
    let tail = written (suc i) n bs (λ k. small (suc k)) (omega (arith, next_is i n, e, byte)) in
    λ j. head j ∷ tail j

worth_is : (i b : ℕ) → byte_worth i b ≡ b * 256 ^ i
worth_is zero b = omega arith
worth_is (suc i) b = refl

one_more : (k : ℕ) (bs : List ℕ) → number_of (take (suc k) bs) ≡ number_of (take k bs) + get_or bs k 0 * 256 ^ k
one_more zero [] = omega arith
one_more zero (b ∷ bs) = omega arith
one_more (suc k) [] = omega arith
one_more (suc k) (b ∷ bs) =
    let product : get_or bs k 0 * 256 ^ suc k ≡ get_or bs k 0 * 256 ^ k * 256 = ap (λ (p : ℕ). get_or bs k 0 * p) (pow-suc 256 k) ∙ sym (mul_assoc (get_or bs k 0) (256 ^ k) 256) in
    omega (arith, one_more k bs, product)

sum_is : (k : ℕ) (bs : List ℕ) → sum_through (λ i. byte_worth i (get_or bs i 0)) k ≡ number_of (take (suc k) bs)
sum_is zero [] = refl
sum_is zero (b ∷ bs) = omega arith
sum_is (suc k) bs = omega (arith, sum_is k bs, worth_is (suc k) (get_or bs (suc k) 0), one_more (suc k) bs)

-- the number that so many bytes are read as has these bytes
pub read_back : (k : ℕ) (bs : List ℕ) → length bs ≡ suc k → ((i : ℕ) → get_or bs i 0 < 256) → bytes_low_first 0 (suc k) (sum_through (λ i. byte_worth i (get_or bs i 0)) k) ≡ bs
read_back k bs long small =
    let n = sum_through (λ i. byte_worth i (get_or bs i 0)) k in
    let value : n / 256 ^ 0 ≡ number_of bs = div-one n ∙ sum_is k bs ∙ ap number_of (take_all (suc k) bs (omega arith)) in
    subst (λ (m : ℕ). bytes_low_first 0 m n ≡ bs) long (written 0 n bs small value)

-- it is below a power of 256
read_small : (bs : List ℕ) → ((i : ℕ) → get_or bs i 0 < 256) → number_of bs < 256 ^ length bs
read_small [] small = omega arith
read_small (b ∷ bs) small =
    let byte : b < 256 = small 0 in
    omega (arith, byte, read_small bs (λ k. small (suc k)), pow-suc 256 (length bs))

-- the first bytes are bytes
small_take : (n : ℕ) (bs : List ℕ) → ((i : ℕ) → get_or bs i 0 < 256) → (i : ℕ) → get_or (take n bs) i 0 < 256
small_take zero bs small i = omega arith
small_take (suc n) [] small i = omega arith
small_take (suc n) (b ∷ bs) small zero = small 0
small_take (suc n) (b ∷ bs) small (suc i) = small_take n bs (λ k. small (suc k)) i

-- the number that so many bytes at the front are read as
abbrev pub read_as : (k : ℕ) → List ℕ → ℕ
read_as k piece = sum_through (λ i. byte_worth i (get_or piece i 0)) k

module _ (k : ℕ) (bytes piece rest : List ℕ) (front : piece ≡ take (suc k) bytes) (back : rest ≡ drop (suc k) bytes) (long : suc k ≤ length bytes) (small : (i : ℕ) → get_or bytes i 0 < 256) where
  piece_long : length piece ≡ suc k
  piece_long = ap length front ∙ length-take-le (suc k) bytes long

  piece_small : (i : ℕ) → get_or piece i 0 < 256
  piece_small i = subst (λ (p : List ℕ). get_or p i 0 < 256) (sym front) (small_take (suc k) bytes small i)

  -- its bytes stand at the front
  pub number_read : (n : ℕ) → n ≡ read_as k piece → bytes ≡ bytes_low_first 0 (suc k) n ++ rest
  number_read n is =
      let same : bytes_low_first 0 (suc k) n ≡ take (suc k) bytes = ap (bytes_low_first 0 (suc k)) is ∙ read_back k piece piece_long piece_small ∙ front in
      sym (take-append-drop (suc k) bytes) ∙ ap (λ (l : List ℕ). l ++ drop (suc k) bytes) (sym same) ∙ ap (λ (l : List ℕ). bytes_low_first 0 (suc k) n ++ l) (sym back)

  number_fits : read_as k piece < 256 ^ suc k
  number_fits =
      let value : read_as k piece ≡ number_of piece = sum_is k piece ∙ ap number_of (take_all (suc k) piece (omega (arith, piece_long))) in
      subst (λ (m : ℕ). read_as k piece < 256 ^ m) piece_long (subst (λ (m : ℕ). m < 256 ^ length piece) (sym value) (read_small piece piece_small))

  -- and so do those of the signed number that it is read as
  pub signed_read : (w : Width) (z : ℤ) → ((n : ℕ) → n < 256 ^ suc k → cast_unsigned w (cast_signed w n) ≡ n) → z ≡ cast_signed w (read_as k piece) →
      bytes ≡ bytes_low_first 0 (suc k) (cast_unsigned w (cast_signed w (cast_unsigned w z))) ++ rest
  signed_read w z again is =
      let turned : cast_unsigned w (cast_signed w (read_as k piece)) ≡ read_as k piece = again (read_as k piece) number_fits in
      number_read (cast_unsigned w (cast_signed w (cast_unsigned w z)))
      (ap (λ (v : ℤ). cast_unsigned w (cast_signed w (cast_unsigned w v))) is ∙ ap (λ (m : ℕ). cast_unsigned w (cast_signed w m)) turned ∙ turned)

module _ (bytes mid rest : List ℕ) (m e : ℤ) (first : bytes ≡ to_le_bytes w128 (cast_unsigned w128 m) ++ mid) (second : mid ≡ to_le_bytes w16 (cast_unsigned w16 e) ++ rest) where
  whole : bytes ≡ decimal_bytes (record { mantissa = m; exponent = e }) ++ rest
  whole = first ∙ ap (λ (l : List ℕ). to_le_bytes w128 (cast_unsigned w128 m) ++ l) second

  -- the decimal that was read
  pub decimal_found : (d : Decimal) → d ≡ record { mantissa = m; exponent = e } → IsCanonical d → Begins IsCanonical decimal_bytes bytes d rest
  decimal_found d is canonical = record { is_one = canonical; split = whole ∙ ap (λ (x : Decimal). decimal_bytes x ++ rest) (sym is) }

  -- no decimal
  pub decimal_none : FitsSigned w128 m → FitsSigned w16 e → (IsCanonical (record { mantissa = m; exponent = e }) → ⊥) → NoneBegins IsCanonical decimal_bytes bytes
  decimal_none fits other refused d tail b =
      let pair : Decimal = record { mantissa = m; exponent = e } in
      let both = split_same (decimal_bytes d) (decimal_bytes pair) tail rest (length-decimal_bytes d ∙ sym (length-decimal_bytes pair)) (sym b.split ∙ whole) in
      let parts = split_same (to_le_bytes w128 (cast_unsigned w128 d.mantissa)) (to_le_bytes w128 (cast_unsigned w128 m)) (to_le_bytes w16 (cast_unsigned w16 d.exponent)) (to_le_bytes w16 (cast_unsigned w16 e)) refl both.front in
      let mantissa = signed_same_128 d.mantissa m (mantissa_fits d b.is_one) fits parts.front in
      let exponent = signed_same_16 d.exponent e (exponent_fits d b.is_one) other parts.back in
      let same : d ≡ pair = λ i. record { mantissa = mantissa i; exponent = exponent i } in
      refused (subst IsCanonical same b.is_one)

-- an exponent of 16 bits, widened
pub exponent_wide : (e : ℤ) → FitsSigned w16 e → cast_signed w32 (cast_unsigned w32 (cast_signed w16 (cast_unsigned w16 e))) ≡ e
exponent_wide e fits =
    let same = to_z-of_z {w = w16} {z = e} fits in
    let wide : FitsSigned w32 e = search (arith, fits) in
    ap (λ (z : ℤ). cast_signed w32 (cast_unsigned w32 z)) same ∙ to_z-of_z {w = w32} {z = e} wide
