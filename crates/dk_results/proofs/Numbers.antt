-- Numbers with their labels, and their values.
use Rattle.std.proofs.Common.{◌≡◌, ℕ, zero, suc, Bool, true, false, cond, List, [], ◌∷◌, length, Option, Some, None, refl, sym, ap, ◌∙◌, subst}
use Rattle.std.specs.Prelude.{Result, Ok, Err, if◌then◌else◌}
use Rattle.std.proofs.lemmas.Bool.{false≢true}
use Rattle.dk_num.specs.Decimal.{Decimal}
use Rattle.dk_num.specs.Numbers.{read_of}
use Rattle.dk_num.specs.declared.read.NumFault.{NumFault}
use Rattle.dk_results.specs.Results.{is_label, behind_label, in_front, values_in}
use Rattle.dk_results.specs.Grammar.{AreNumbers, none, bare, labelled}
use Rattle.dk_results.proofs.Labels.{number_no_label}

-- Numbers are read

behind_a_label : (label : List ℕ) (rest : List (List ℕ)) → is_label label ≡ true → behind_label (label ∷ rest) ≡ rest
behind_a_label label rest e = ap (λ (t : Bool). cond t rest (label ∷ rest)) e

behind_a_number : (piece : List ℕ) (rest : List (List ℕ)) (v : Decimal) → read_of piece ≡ Ok v → behind_label (piece ∷ rest) ≡ piece ∷ rest
behind_a_number piece rest v h = ap (λ (t : Bool). cond t rest (piece ∷ rest)) (number_no_label piece v h)

no_label_first : (ps : List (List ℕ)) (values : List Decimal) → AreNumbers ps values → behind_label ps ≡ ps
no_label_first _ _ none = refl
no_label_first _ _ (bare piece rest v vs r are) = behind_a_number piece rest v r
no_label_first _ _ (labelled piece label rest v vs r is are) = behind_a_number piece (label ∷ rest) v r

in_front_of : (o : Result Decimal NumFault) (p : Option (List Decimal)) (v : Decimal) (vs : List Decimal) → o ≡ Ok v → p ≡ Some vs → in_front o p ≡ Some (v ∷ vs)
in_front_of o p v vs e f = rw (e, f) refl

pub numbers_read : (ps : List (List ℕ)) (values : List Decimal) → AreNumbers ps values → values_in (length values) ps ≡ Some values
numbers_read _ _ none = refl
numbers_read _ _ (bare piece rest v vs r are) = in_front_of _ _ v vs r (ap (values_in (length vs)) (no_label_first rest vs are) ∙ numbers_read rest vs are)
numbers_read _ _ (labelled piece label rest v vs r is are) = in_front_of _ _ v vs r (ap (values_in (length vs)) (behind_a_label label rest is) ∙ numbers_read rest vs are)

-- and what is read are numbers

record IsFront (o : Result Decimal NumFault) (p : Option (List Decimal)) (values : List Decimal) : Type 0 where
  value : Decimal
  others : List Decimal
  first : o ≡ Ok value
  behind : p ≡ Some others
  is : values ≡ value ∷ others

front_is : (o : Result Decimal NumFault) (p : Option (List Decimal)) (values : List Decimal) → in_front o p ≡ Some values → IsFront o p values
front_is (Ok v) (Some vs) values h = record { value = v; others = vs; first = refl; behind = refl; is = (let k : v ∷ vs ≡ values = cc in sym k) }
front_is (Ok v) None values h = absurd (cc)
front_is (Err e) p values h = absurd (cc)

behind_number : (piece : List ℕ) (rest : List (List ℕ)) (v : Decimal) (vs : List Decimal) → read_of piece ≡ Ok v → AreNumbers (behind_label rest) vs → AreNumbers (piece ∷ rest) (v ∷ vs)
behind_number piece [] v vs r are = bare piece [] v vs r are
behind_number piece (label ∷ rest) v vs r are = at (is_label label) refl are
  where
    at : (t : Bool) → is_label label ≡ t → AreNumbers (cond (is_label label) rest (label ∷ rest)) vs → AreNumbers (piece ∷ (label ∷ rest)) (v ∷ vs)
    at true e k = labelled piece label rest v vs r e (subst (λ (t : Bool). AreNumbers (cond t rest (label ∷ rest)) vs) e k)
    at false e k = bare piece (label ∷ rest) v vs r (subst (λ (t : Bool). AreNumbers (cond t rest (label ∷ rest)) vs) e k)

pub read_numbers : (count : ℕ) (ps : List (List ℕ)) (values : List Decimal) → values_in count ps ≡ Some values → AreNumbers ps values
read_numbers zero [] values h = subst (λ (l : List Decimal). AreNumbers [] l) (let k : [] ≡ values = cc in k) none
read_numbers zero (p ∷ ps) values h = absurd (cc)
read_numbers (suc count) [] values h = absurd (cc)
read_numbers (suc count) (p ∷ ps) values h =
    let f = front_is (read_of p) (values_in count (behind_label ps)) values h in
    subst (λ (l : List Decimal). AreNumbers (p ∷ ps) l) (sym f.is) (behind_number p ps f.value f.others f.first (read_numbers count (behind_label ps) f.others f.behind))

-- as many as were wanted
pub read_count : (count : ℕ) (ps : List (List ℕ)) (values : List Decimal) → values_in count ps ≡ Some values → length values ≡ count
read_count zero [] values h = let k : [] ≡ values = cc in ap length (sym k)
read_count zero (p ∷ ps) values h = absurd (cc)
read_count (suc count) [] values h = absurd (cc)
read_count (suc count) (p ∷ ps) values h =
    let f = front_is (read_of p) (values_in count (behind_label ps)) values h in
    ap length f.is ∙ ap suc (read_count count (behind_label ps) f.others f.behind)

-- How many values pieces have

count_number : (piece : List ℕ) (v : Decimal) (n : ℕ) → read_of piece ≡ Ok v → (if is_label piece then n else suc n) ≡ suc n
count_number piece v n h = ap (λ (t : Bool). cond t n (suc n)) (number_no_label piece v h)

-- how many of them are no labels
abbrev numbers_of : List (List ℕ) → ℕ
numbers_of [] = 0
numbers_of (piece ∷ rest) = if is_label piece then numbers_of rest else suc (numbers_of rest)

counted : (ps : List (List ℕ)) (values : List Decimal) → AreNumbers ps values → numbers_of ps ≡ length values
counted _ _ none = refl
counted _ _ (bare piece rest v vs r are) = count_number piece v (numbers_of rest) r ∙ ap suc (counted rest vs are)
counted _ _ (labelled piece label rest v vs r is are) =
    count_number piece v (if is_label label then numbers_of rest else suc (numbers_of rest)) r
    ∙ ap suc (ap (λ (t : Bool). cond t (numbers_of rest) (suc (numbers_of rest))) is ∙ counted rest vs are)

-- pieces are numbers with one list of values at most
pub one_list : (ps : List (List ℕ)) (values others : List Decimal) → AreNumbers ps values → AreNumbers ps others → values ≡ others
one_list ps values others are also =
    let long : length others ≡ length values = sym (counted ps others also) ∙ counted ps values are in
    let same : Some values ≡ Some others = sym (numbers_read ps values are) ∙ subst (λ n. values_in n ps ≡ Some others) long (numbers_read ps others also) in
    cc

-- what begins with a label is no list of numbers
pub label_first : (piece : List ℕ) (rest : List (List ℕ)) (values : List Decimal) → is_label piece ≡ true → AreNumbers (piece ∷ rest) values → ⊥
label_first piece rest values e are = at (piece ∷ rest) values are refl
  where
    at : (ps : List (List ℕ)) (vs : List Decimal) → AreNumbers ps vs → ps ≡ piece ∷ rest → ⊥
    at _ _ none same = absurd (cc)
    at _ _ (bare one more v vs r others) same = let k : one ≡ piece = cc in false≢true (sym (number_no_label one v r) ∙ ap is_label k ∙ e)
    at _ _ (labelled one label more v vs r is others) same = let k : one ≡ piece = cc in false≢true (sym (number_no_label one v r) ∙ ap is_label k ∙ e)
