-- The grammar of results, by its rules, and what a reader may conclude from it.
-- After the sections on the format of results files and on failure capturing in Dakota's User's Manual.
use Rattle.std.specs.Prelude.{◌≡◌, ◌↔◌, ℕ, List, [], ◌∷◌, length, IsTrue, Option, Some, None, Ok}
use Rattle.dk_num.specs.Decimal.{Decimal}
use Rattle.dk_num.specs.Numbers.{read_of}
use Rattle.dk_results.specs.Pieces.{pieces}
use Rattle.dk_results.specs.Results.{says_fail, is_label, results_of}

-- the pieces are numbers with these values, each with a label behind it or none
pub data AreNumbers : List (List ℕ) → List Decimal → Type 0 where
  none : AreNumbers [] []
  bare : (piece : List ℕ) (rest : List (List ℕ)) (value : Decimal) (values : List Decimal) → read_of piece ≡ Ok value → AreNumbers rest values → AreNumbers (piece ∷ rest) (value ∷ values)
  labelled : (piece label : List ℕ) (rest : List (List ℕ)) (value : Decimal) (values : List Decimal) → read_of piece ≡ Ok value → IsTrue (is_label label) → AreNumbers rest values →
      AreNumbers (piece ∷ label ∷ rest) (value ∷ values)

-- the bytes are results with these values
pub record AreResults (bytes : List ℕ) (values : List Decimal) : Type 0 where
  pub no_failure : ¬ IsTrue (says_fail bytes)
  pub numbers : AreNumbers (pieces bytes) values

-- the bytes are no results for so many responses, whatever the values
abbrev pub AreNoResults : List ℕ → (count : ℕ) → Type 0
AreNoResults bytes count = (values : List Decimal) → length values ≡ count → ¬ AreResults bytes values

-- what the bytes come to for so many responses: these values, or a failure
abbrev pub ComesTo : List ℕ → (count : ℕ) → Option (List Decimal) → Type 0
ComesTo bytes count (Some values) = AreResults bytes values × (length values ≡ count)
ComesTo bytes count None = AreNoResults bytes count

-- each text comes to one of these, and to one alone, which is what it is read as
abbrev pub EachTextHasOneReading : Type 0
EachTextHasOneReading = (bytes : List ℕ) (count : ℕ) (reading : Option (List Decimal)) → ComesTo bytes count reading ↔ (results_of bytes count ≡ reading)

-- bytes are results with one list of values at most, whatever the count
abbrev pub ValuesAreUnique : Type 0
ValuesAreUnique = (bytes : List ℕ) (values others : List Decimal) → AreResults bytes values → AreResults bytes others → values ≡ others

-- bytes that begin with `fail` aren't numbers either
abbrev pub FailuresAreNoNumbers : Type 0
FailuresAreNoNumbers = (bytes : List ℕ) (values : List Decimal) → IsTrue (says_fail bytes) → ¬ AreNumbers (pieces bytes) values
