-- Files that are worked out by hand.
use Rattle.std.proofs.Common.{◌≡◌, ℕ, ◌^◌, ◌<◌, ◌≤◌, List, [], ◌∷◌, ◌++◌, length, map, take, get_or, codes, ℤ, pos, negsuc, refl, replicate, arith}
use Rattle.std.specs.List.{All}
use Rattle.std.proofs.lemmas.Int.{ints}
use Rattle.std.proofs.lemmas.List.Elements.{All-nil, All-cons}
use Rattle.dk_num.specs.Decimal.{Decimal, IsCanonical}
use Rattle.dk_types.specs.declared.study.Shape.{Shape}
use Rattle.dk_types.specs.declared.entry.Entry.{Entry}
use Rattle.dk_types.specs.declared.entry.Said.TheVariants.{Values, Failed}
use Rattle.dk_record.specs.Payloads.{payload, header_payload, IsShape, IsStored}
use Rattle.dk_record.specs.Readings.{IsLabel}
use Rattle.dk_record.specs.Files.{AreKept, Stands, unborn, born, none, more, used}

abbrev dec : ℕ → Decimal
dec n = record { mantissa = pos n; exponent = pos 0 }

-- so many tenths
abbrev tenths : ℕ → Decimal
tenths n = record { mantissa = pos n; exponent = negsuc 0 }

-- two variables and one response
abbrev small_shape : Shape
small_shape = record { variables = codes "x1" ∷ codes "x2" ∷ []; responses = codes "obj_fn" ∷ [] }

abbrev gave : Decimal → Decimal → Decimal → Entry
gave x y v = record { point = x ∷ y ∷ []; attempt = 1; said = Values (v ∷ []) }

abbrev failed : ℕ → Entry
failed attempt = record { point = dec 0 ∷ dec 0 ∷ []; attempt = attempt; said = Failed }

abbrev empty_file : List ℕ
empty_file = 0x01 ∷ 0x44 ∷ 0x4b ∷ 0x52 ∷ 0x53 ∷ 0x54 ∷ 0x76 ∷ 0x31 ∷ 0x0a ∷ 0x02 ∷ 0x00 ∷ 0x02 ∷ 0x78 ∷ 0x31 ∷ 0x02 ∷ 0x78 ∷ 0x32 ∷ 0x01 ∷ 0x00 ∷ 0x06 ∷ 0x6f ∷ 0x62 ∷ 0x6a ∷ 0x5f ∷ 0x66 ∷ 0x6e ∷ 0x00 ∷ []

-- the empty file, and the same where anything follows
pub empty_stands : (rest : List ℕ) → Stands small_shape (empty_file ++ rest) []
empty_stands rest = born [] (record {
  front = 1 ∷ header_payload small_shape;
  rest = rest;
  is_front = record { gate = 1; is_open = omega arith; records = []; are_records = none; split = refl };
  split = refl;
  kept = record { well_formed = tt; stored = All-nil (IsStored 2 1) };
})

pub one_byte : Stands small_shape (120 ∷ []) []
one_byte = unborn tt

pub closed_at_once : Stands small_shape (0 ∷ replicate 10 255) []
closed_at_once = unborn refl

pub record_bytes : payload (gave (tenths 5) (tenths 5) (tenths 65)) ≡ (5 ∷ (replicate 15 0 ++ 255 ∷ 255 ∷ [])) ++ (5 ∷ (replicate 15 0 ++ 255 ∷ 255 ∷ [])) ++ (1 ∷ 0 ∷ 0 ∷ 0 ∷ 1 ∷ 65 ∷ []) ++ replicate 15 0 ++ (255 ∷ 255 ∷ [])
record_bytes = refl

pub minus_two : payload (record { point = record { mantissa = negsuc 1; exponent = pos 0 } ∷ []; attempt = 1; said = Failed }) ≡ 254 ∷ (replicate 15 255 ++ 0 ∷ 0 ∷ 1 ∷ 0 ∷ 0 ∷ 0 ∷ 0 ∷ [])
minus_two = refl

-- (0, 1) stands for no decimal
pub zero_at_one : IsCanonical (record { mantissa = pos 0; exponent = pos 1 }) → ⊥
zero_at_one is = let e : ◌≡◌ {A = ℤ} (pos 1) (pos 0) = is.zero refl in cc

-- the labels of the empty file are as they have to be
pub small_is_shape : IsShape small_shape
small_is_shape = record {
  variables = record { some = omega arith; few = omega arith; each = All-cons IsLabel (codes "x1") (codes "x2" ∷ []) refl (All-cons IsLabel (codes "x2") [] refl (All-nil IsLabel)); distinct = refl };
  responses = record { some = omega arith; few = omega arith; each = All-cons IsLabel (codes "obj_fn") [] refl (All-nil IsLabel); distinct = refl };
}

-- three points with values
abbrev three : List Entry
three = gave (dec 0) (dec 0) (dec 1) ∷ gave (tenths 5) (tenths 5) (tenths 65) ∷ gave (dec 1) (dec 1) (dec 0) ∷ []

-- a point that failed twice and then gave a value
abbrev third_time : List Entry
third_time = failed 1 ∷ failed 2 ∷ record { point = dec 0 ∷ dec 0 ∷ []; attempt = 3; said = Values (dec 4 ∷ []) } ∷ []

abbrev tail_of_half : List ℕ
tail_of_half = replicate 15 0x00 ++ 0xff ∷ 0xff ∷ []

-- the file of the three points, of 207 bytes
abbrev three_file : List ℕ
three_file =
    (0x01 ∷ 0x44 ∷ 0x4b ∷ 0x52 ∷ 0x53 ∷ 0x54 ∷ 0x76 ∷ 0x31 ∷ 0x0a ∷ 0x02 ∷ 0x00 ∷ 0x02 ∷ 0x78 ∷ 0x31 ∷ 0x02 ∷ 0x78 ∷ 0x32 ∷ 0x01 ∷ 0x00 ∷ 0x06 ∷ 0x6f ∷ 0x62 ∷ 0x6a ∷ 0x5f ∷ 0x66 ∷ 0x6e ∷ [])
    ++ ((0x01 ∷ replicate 36 0x00) ++ (0x01 ∷ 0x00 ∷ 0x00 ∷ 0x00 ∷ 0x01 ∷ 0x01 ∷ replicate 17 0x00))
    ++ (((0x01 ∷ 0x05 ∷ tail_of_half) ++ (0x05 ∷ tail_of_half)) ++ (0x01 ∷ 0x00 ∷ 0x00 ∷ 0x00 ∷ 0x01 ∷ 0x41 ∷ tail_of_half))
    ++ (((0x01 ∷ 0x01 ∷ replicate 17 0x00) ++ (0x01 ∷ replicate 17 0x00)) ++ (0x01 ∷ 0x00 ∷ 0x00 ∷ 0x00 ∷ 0x01 ∷ replicate 18 0x00))
    ++ (0x00 ∷ [])

pub three_length : length three_file ≡ 207
three_length = refl

zero_canonical : IsCanonical (dec 0)
zero_canonical = record { small = omega arith; zero = λ e. refl; stripped = λ some. absurd (omega arith); lowest = λ some. absurd (omega arith); highest = λ some. absurd (omega arith) }

one_canonical : IsCanonical (dec 1)
one_canonical = record { small = omega arith; zero = λ e. absurd (omega arith); stripped = λ some. refl; lowest = λ some. omega (arith, ints); highest = λ some. omega (arith, ints) }

four_canonical : IsCanonical (dec 4)
four_canonical = record { small = omega arith; zero = λ e. absurd (omega arith); stripped = λ some. refl; lowest = λ some. omega (arith, ints); highest = λ some. omega (arith, ints) }

half_canonical : IsCanonical (tenths 5)
half_canonical = record { small = omega arith; zero = λ e. absurd (omega arith); stripped = λ some. refl; lowest = λ some. omega (arith, ints); highest = λ some. omega (arith, ints) }

value_canonical : IsCanonical (tenths 65)
value_canonical = record { small = omega arith; zero = λ e. absurd (omega arith); stripped = λ some. refl; lowest = λ some. omega (arith, ints); highest = λ some. omega (arith, ints) }

two_canonical : (x y : Decimal) → IsCanonical x → IsCanonical y → All IsCanonical (x ∷ y ∷ [])
two_canonical x y one two = All-cons IsCanonical x (y ∷ []) one (All-cons IsCanonical y [] two (All-nil IsCanonical))

gave_stored : (x y v : Decimal) (attempt : ℕ) → IsCanonical x → IsCanonical y → IsCanonical v → 1 ≤ attempt → attempt < 2 ^ 32 → IsStored 2 1 (record { point = x ∷ y ∷ []; attempt = attempt; said = Values (v ∷ []) })
gave_stored x y v attempt one two value first last = record { point_length = refl; point = two_canonical x y one two; first = first; last = last; values_length = refl; values = All-cons IsCanonical v [] value (All-nil IsCanonical) }

failed_stored : (attempt : ℕ) → 1 ≤ attempt → attempt < 2 ^ 32 → IsStored 2 1 (failed attempt)
failed_stored attempt first last = record { point_length = refl; point = two_canonical (dec 0) (dec 0) zero_canonical zero_canonical; first = first; last = last; values_length = tt; values = tt }

three_kept : AreKept small_shape three
three_kept = record {
  well_formed = (record { point = refl; values = refl; next = refl }, (record { point = refl; values = refl; next = refl }, (record { point = refl; values = refl; next = refl }, tt)));
  stored =
      All-cons (IsStored 2 1) (gave (dec 0) (dec 0) (dec 1)) (gave (tenths 5) (tenths 5) (tenths 65) ∷ gave (dec 1) (dec 1) (dec 0) ∷ []) (gave_stored (dec 0) (dec 0) (dec 1) 1 zero_canonical zero_canonical one_canonical (omega arith) (omega arith))
      (All-cons (IsStored 2 1) (gave (tenths 5) (tenths 5) (tenths 65)) (gave (dec 1) (dec 1) (dec 0) ∷ []) (gave_stored (tenths 5) (tenths 5) (tenths 65) 1 half_canonical half_canonical value_canonical (omega arith) (omega arith))
      (All-cons (IsStored 2 1) (gave (dec 1) (dec 1) (dec 0)) [] (gave_stored (dec 1) (dec 1) (dec 0) 1 one_canonical one_canonical zero_canonical (omega arith) (omega arith)) (All-nil (IsStored 2 1))));
}

-- the file of three records stands for them, whatever follows
pub three_stand : (rest : List ℕ) → Stands small_shape (three_file ++ rest) three
three_stand rest = born three (record {
  front = take 206 three_file;
  rest = rest;
  is_front = record {
    gate = 1;
    is_open = omega arith;
    records = _;
    are_records = more 1 (gave (dec 0) (dec 0) (dec 1)) _ _ (omega arith) (more 1 (gave (tenths 5) (tenths 5) (tenths 65)) _ _ (omega arith) (more 1 (gave (dec 1) (dec 1) (dec 0)) [] [] (omega arith) none));
    split = refl;
  };
  split = refl;
  kept = three_kept;
})

-- a point may be tried until it gives a value
pub third_time_kept : AreKept small_shape third_time
third_time_kept = record {
  well_formed = (record { point = refl; values = tt; next = refl }, (record { point = refl; values = tt; next = refl }, (record { point = refl; values = refl; next = refl }, tt)));
  stored =
      All-cons (IsStored 2 1) (failed 1) (failed 2 ∷ record { point = dec 0 ∷ dec 0 ∷ []; attempt = 3; said = Values (dec 4 ∷ []) } ∷ []) (failed_stored 1 (omega arith) (omega arith))
      (All-cons (IsStored 2 1) (failed 2) (record { point = dec 0 ∷ dec 0 ∷ []; attempt = 3; said = Values (dec 4 ∷ []) } ∷ []) (failed_stored 2 (omega arith) (omega arith))
      (All-cons (IsStored 2 1) (record { point = dec 0 ∷ dec 0 ∷ []; attempt = 3; said = Values (dec 4 ∷ []) }) [] (gave_stored (dec 0) (dec 0) (dec 4) 3 zero_canonical zero_canonical four_canonical (omega arith) (omega arith)) (All-nil (IsStored 2 1))));
}

-- the gates behind the header and each of the three records
pub gates : map (λ (n : ℕ). used small_shape (take n three)) (0 ∷ 1 ∷ 2 ∷ 3 ∷ []) ≡ 27 ∷ 87 ∷ 147 ∷ 207 ∷ []
gates = refl

pub gate_bytes : map (λ (n : ℕ). get_or three_file n 9) (26 ∷ 86 ∷ 146 ∷ 206 ∷ []) ≡ 1 ∷ 1 ∷ 1 ∷ 0 ∷ []
gate_bytes = refl

pub three_used : used small_shape three ≡ 207
three_used = refl

pub one_record : used small_shape (gave (tenths 1) (dec 0) (record { mantissa = pos 82; exponent = negsuc 1 }) ∷ []) ≡ 87
one_record = refl

pub tried_again : used small_shape third_time ≡ 171
tried_again = refl

pub always_failed : used small_shape (failed 1 ∷ failed 2 ∷ failed 3 ∷ []) ≡ 153
always_failed = refl

pub one_failure : used small_shape (failed 1 ∷ []) ≡ 69
one_failure = refl
