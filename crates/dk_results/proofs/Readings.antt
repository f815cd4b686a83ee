-- Results in the grammar, and what they are read as.
use Rattle.std.proofs.Common.{◌≡◌, ℕ, Bool, true, false, cond, List, length, Option, Some, None, refl, sym, ap, ◌∙◌, subst}
use Rattle.std.proofs.lemmas.Bool.{false≢true}
use Rattle.dk_num.specs.Decimal.{Decimal}
use Rattle.dk_results.specs.Pieces.{pieces}
use Rattle.dk_results.specs.Results.{says_fail, values_in, results_of}
use Rattle.dk_results.specs.Grammar.{AreResults, AreNoResults, EachTextHasOneReading, ValuesAreUnique}
use Rattle.dk_results.proofs.Numbers.{numbers_read, read_numbers, read_count, one_list}

read_so : (bytes : List ℕ) (count : ℕ) (values : List Decimal) → results_of bytes count ≡ Some values → AreResults bytes values × (length values ≡ count)
unfolding results_of
read_so bytes count values h = at (says_fail bytes) refl h
  where
    at : (t : Bool) → says_fail bytes ≡ t → cond t None (values_in count (pieces bytes)) ≡ Some values → AreResults bytes values × (length values ≡ count)
    at true e k = absurd (cc)
    at false e k = (
      record { no_failure = λ f. false≢true (sym e ∙ f); numbers = read_numbers count (pieces bytes) values k },
      read_count count (pieces bytes) values k,
    )

so_read : (bytes : List ℕ) (values : List Decimal) → AreResults bytes values → results_of bytes (length values) ≡ Some values
unfolding results_of
so_read bytes values are = at (says_fail bytes) refl
  where
    at : (t : Bool) → says_fail bytes ≡ t → cond (says_fail bytes) None (values_in (length values) (pieces bytes)) ≡ Some values
    at true e = absurd (are.no_failure e)
    at false e = ap (λ (t : Bool). cond t None (values_in (length values) (pieces bytes))) e ∙ numbers_read (pieces bytes) values are.numbers

read_to : (bytes : List ℕ) (count : ℕ) (values : List Decimal) → AreResults bytes values → length values ≡ count → results_of bytes count ≡ Some values
read_to bytes count values are long = subst (λ n. results_of bytes n ≡ Some values) long (so_read bytes values are)

no_values : (bytes : List ℕ) (count : ℕ) → AreNoResults bytes count → (o : Option (List Decimal)) → results_of bytes count ≡ o → results_of bytes count ≡ None
no_values bytes count fails None e = e
no_values bytes count fails (Some values) e = let r = read_so bytes count values e in absurd (fails values r.1 r.0)

pub one_reading : EachTextHasOneReading
one_reading bytes count (Some values) = (λ are. read_to bytes count values are.0 are.1, read_so bytes count values)
one_reading bytes count None = (
  λ fails. no_values bytes count fails (results_of bytes count) refl,
  λ e values long are. let k : Some values ≡ None = sym (read_to bytes count values are long) ∙ e in cc,
)

pub unique_values : ValuesAreUnique
unique_values bytes values others are also = one_list (pieces bytes) values others are.numbers also.numbers
