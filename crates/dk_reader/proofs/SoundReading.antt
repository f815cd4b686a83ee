-- The values of a text: each number is canonical, and each string stands for itself once.
use Rattle.std.proofs.Common.{◌≡◌, ℕ, zero, suc, ◌+◌, ◌<◌, ◌≤◌, Bool, true, false, List, [], ◌∷◌, length, codes, refl, sym, ap, ◌∙◌, subst, arith, lit<, ⊎_elim, get_or, Some, IfSome, IfOk, Result, Ok, Err, ℤ, pos, ◌+ℤ◌, ◌-ℤ◌, unsigned_abs}
use Rattle.std.specs.Prelude.{if◌then◌else◌, nat_eq}
use Rattle.std.specs.List.{All, starts_with}
use Rattle.std.specs.Result.{result_ok}
use Rattle.std.proofs.lemmas.Bool.{cases_lt}
use Rattle.std.proofs.lemmas.List.Elements.{All-map}
use Rattle.dk_num.specs.Decimal.{Decimal, IsCanonical, zero_decimal, is_in_range, digit_count, zero_count}
use Rattle.dk_num.specs.Numbers.{Spelling, parts, number_of, read_of, is_complete, spelled, with_sign, numeral_value, mantissa_digits}
use Rattle.dk_num.specs.declared.read.NumFault.{NumFault}
use Rattle.dk_num.specs.declared.read.NumFault.TheVariants.{Shape, OutOfRange}
use Rattle.dk_num.specs.Reading.{IsSignificand, significant_count}
use Rattle.dk_num.proofs.Digits.{zero_count_none}
use Rattle.dk_num.proofs.Endings.{Split, split}
use Rattle.dk_num.proofs.ReadingValues.{outcome, signed_by, abs_signed, too_long_is, near_is, placed_is}
use Rattle.dk_lex.specs.declared.token.Span.{Span}
use Rattle.dk_lex.specs.declared.token.TokenKind.{TokenKind}
use Rattle.dk_lex.specs.declared.token.TokenKind.TheVariants as kinds
use Rattle.dk_grammar.specs.Meanings.{text_at}
use Rattle.dk_grammar.specs.declared.parts.Item.{Item}
use Rattle.dk_grammar.specs.declared.parts.Tree.{Tree}
use Rattle.dk_reader.specs.declared.value.Value.{Value}
use Rattle.dk_reader.specs.declared.document.Document.{Document}
use Rattle.dk_reader.specs.Values.{value_by, values_of, bare}
use Rattle.dk_reader.specs.Values as values
use Rattle.dk_reader.specs.Document.{field_at, document_of}

-- a number is canonical, and a string stands for itself once
pub record IsWritten (v : Value) : Type 0 where
  pub number : IfSome v.number IsCanonical
  pub once : IfSome v.string (λ bytes. v.copies ≡ Some 1)

-- all values of a document are so
abbrev pub AreWritten : Document → Type 0
AreWritten d = All (λ f. All IsWritten f.values) d.fields

zero_is_canonical : IsCanonical zero_decimal
zero_is_canonical = record { small = lit< tt; zero = λ h. refl; stripped = λ h. absurd (omega arith); lowest = λ h. absurd (omega arith); highest = λ h. absurd (omega arith) }

-- what the digits and the exponent give is canonical
outcome_canonical : (b : Bool) (s : _) (n : ℕ) (place : ℤ) → IsSignificand n s → 0 < s.core → IfOk (outcome b s place) IsCanonical
outcome_canonical b s n place is some = by (is_in_range ((place +ℤ pos (s.count + s.zeros)) -ℤ pos 1)) refl
  where
    abs : unsigned_abs (signed_by b s.core) ≡ s.core
    abs = abs_signed b s.core

    by : (t : Bool) → is_in_range ((place +ℤ pos (s.count + s.zeros)) -ℤ pos 1) ≡ t →
        IfOk (if t then Ok (record { mantissa = signed_by b s.core; exponent = place +ℤ pos s.zeros }) else Err OutOfRange) IsCanonical
    by true t = placed_is (signed_by b s.core) place s.count s.zeros (subst (λ k. 0 < k) (sym abs) some) (ap digit_count abs ∙ is.core) (ap zero_count abs ∙ is.ends) is.few t
    by false t = tt

-- so many digits and the zeros behind them
is_significand : (n : ℕ) (s : Split n (zero_count n)) → significant_count n ≤ 34 → IsSignificand n (record { core = s.rest; count = digit_count s.rest; zeros = zero_count n })
is_significand n s few =
    let d = s.digits in
    record {
      whole = s.whole;
      digits = omega arith;
      ended = refl;
      core = refl;
      ends = zero_count_none s.rest s.left s.ends;
      few = omega arith;
    }

spelled_zero : (s : Spelling) → mantissa_digits s ≡ 0 → number_of s ≡ Ok zero_decimal
unfolding number_of
spelled_zero s z = rw z refl

spelled_canonical : (s : Spelling) → IfOk (number_of s) IsCanonical
spelled_canonical s = by (mantissa_digits s) refl
  where
    some : (n : ℕ) → mantissa_digits s ≡ n → 0 < n → IfOk (number_of s) IsCanonical
    some n e positive =
        ⊎_elim (λ many. subst (λ r. IfOk r IsCanonical) (sym (too_long_is s (subst (λ k. 34 < significant_count k) (sym e) many))) tt)
        (λ few.
        let parted = split n positive in
        let is = is_significand n parted few in
        let left = parted.left in
        let here = subst (λ k. IsSignificand k (record { core = parted.rest; count = digit_count parted.rest; zeros = zero_count n })) (sym e) is in
        subst (λ r. IfOk r IsCanonical) (sym (near_is s _ here (λ z. omega arith)))
        (outcome_canonical (starts_with nat_eq s.sign (codes "-")) _ n (with_sign s.exponent_sign (numeral_value s.exponent) -ℤ pos (length s.fraction)) is left))
        (cases_lt 34 (significant_count n))

    by : (n : ℕ) → mantissa_digits s ≡ n → IfOk (number_of s) IsCanonical
    by zero e = subst (λ r. IfOk r IsCanonical) (sym (spelled_zero s e)) zero_is_canonical
    by (suc n) e = some (suc n) e (omega arith)

-- what a text says is canonical
pub read_canonical : (bytes : List ℕ) → IfOk (read_of bytes) IsCanonical
unfolding read_of
read_canonical [] = tt
read_canonical (b ∷ bs) = by (is_complete (b ∷ bs) (parts (b ∷ bs)))
  where
    by : (t : Bool) → IfOk (if t then number_of (parts (b ∷ bs)) else Err (Shape (length (spelled (parts (b ∷ bs)))))) IsCanonical
    by true = spelled_canonical (parts (b ∷ bs))
    by false = tt

number_canonical : (bytes : List ℕ) → IfSome (values.number_of bytes) IsCanonical
number_canonical bytes = by (read_of bytes) (read_canonical bytes)
  where
    by : (r : Result Decimal NumFault) → IfOk r IsCanonical → IfSome (result_ok r) IsCanonical
    by (Ok x) h = h
    by (Err f) h = tt

value_written : (k : TokenKind) (s : Span) (bytes : List ℕ) → IsWritten (value_by k s bytes)
value_written kinds.Number s bytes = record { number = number_canonical (bare bytes); once = tt }
value_written kinds.Quoted s bytes = record { number = tt; once = refl }
value_written kinds.Word s bytes = record { number = tt; once = tt }

-- the values of a text are so
pub are_written : (text : List ℕ) (tree : Tree) → AreWritten (document_of text tree)
are_written text tree = All-map (λ f. All IsWritten f.values) (field_at text) tree.items (λ k d lt. one (get_or tree.items k d))
  where
    one : (i : Item) → All IsWritten (values_of text i.values)
    one i = All-map IsWritten (λ t. value_by t.kind t.span (text_at text t.span)) i.values (λ k d lt. value_written (get_or i.values k d).kind (get_or i.values k d).span (text_at text (get_or i.values k d).span))
