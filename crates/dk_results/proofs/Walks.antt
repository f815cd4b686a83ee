-- Values that are read one behind the other.
use Rattle.std.proofs.Common.{◌≡◌, ℕ, suc, ◌+◌, ◌-◌, ◌<◌, Bool, true, false, cond, List, [], ◌∷◌, ◌++◌, length, take, set, Option, Some, None, refl, sym, ap, ◌∙◌, arith, append_assoc, append-nil}
use Rattle.std.specs.Prelude.{option_map}
use Rattle.std.proofs.lemmas.List.{length-set, take_more_set, take_all}
use Rattle.dk_num.specs.Decimal.{Decimal}
use Rattle.dk_results.specs.Pieces.{pieces}
use Rattle.dk_results.specs.Results.{begins_with_fail, behind_space, values_in, results_of}
use Rattle.dk_results.specs.Fronts.{BeginsValue, BeginsNoValue}
use Rattle.dk_results.proofs.Cuts.{spaces_first}

-- these values in front of others
abbrev pub behind : List Decimal → Option (List Decimal) → Option (List Decimal)
behind values others = option_map (λ more. values ++ more) others

-- the values so far, and what is read from what is left, are what is read from the whole
pub record IsUnderWay (text : List ℕ) (count : ℕ) (out : List Decimal) (place : ℕ) (rest : List ℕ) : Type 0 where
  pub long : length out ≡ count
  pub so_far : (more : ℕ) → place + more ≡ count → values_in count (pieces text) ≡ behind (take place out) (values_in more (pieces rest))

in_front_of_none : (o : Option (List Decimal)) → o ≡ behind [] o
in_front_of_none None = refl
in_front_of_none (Some values) = refl

pub starts : (bytes text : List ℕ) (out : List Decimal) → text ≡ behind_space bytes → IsUnderWay bytes (length out) out 0 text
starts bytes text out e = record {
  long = refl;
  so_far = λ more sum.
      let k : length out ≡ more = omega arith in
      ap (λ n. values_in n (pieces bytes)) k ∙ ap (values_in more) (sym (ap pieces e ∙ spaces_first bytes)) ∙ in_front_of_none _;
}

one_more : (values : List Decimal) (d : Decimal) (o : Option (List Decimal)) → behind values (option_map (λ others. d ∷ others) o) ≡ behind (values ++ d ∷ []) o
one_more values d None = refl
one_more values d (Some others) = ap Some (sym (append_assoc values (d ∷ []) others))

pub goes_on : (text : List ℕ) (count : ℕ) (out : List Decimal) (place : ℕ) (rest left : List ℕ) (d : Decimal) → place < count → IsUnderWay text count out place rest → BeginsValue rest d left →
    IsUnderWay text count (set out place d) (place + 1) left
goes_on text count out place rest left d within was begins =
    let long = was.long in
    record {
      long = length-set out place d ∙ long;
      so_far = λ more e.
          was.so_far (suc more) (omega arith) ∙ ap (behind (take place out)) (begins more) ∙ one_more (take place out) d (values_in more (pieces left))
          ∙ ap (λ values. behind values (values_in more (pieces left))) (sym (take_more_set out place d (omega arith)));
    }

-- where no number stands there is none of the whole
pub none_left : (text : List ℕ) (count : ℕ) (out : List Decimal) (place : ℕ) (rest : List ℕ) → place < count → IsUnderWay text count out place rest → BeginsNoValue rest → values_in count (pieces text) ≡ None
none_left text count out place rest within was begins =
    let more = count - (place + 1) in
    was.so_far (suc more) (omega arith) ∙ ap (behind (take place out)) (begins more)

-- and so where pieces are left over
pub some_left : (text : List ℕ) (count : ℕ) (out : List Decimal) (place : ℕ) (rest piece : List ℕ) (others : List (List ℕ)) → place ≡ count → IsUnderWay text count out place rest → pieces rest ≡ piece ∷ others →
    values_in count (pieces text) ≡ None
some_left text count out place rest piece others all was are = was.so_far 0 (omega arith) ∙ ap (λ l. behind (take place out) (values_in 0 l)) are

pub all_read : (text : List ℕ) (count : ℕ) (out : List Decimal) (place : ℕ) (rest : List ℕ) → place ≡ count → IsUnderWay text count out place rest → pieces rest ≡ [] → values_in count (pieces text) ≡ Some out
all_read text count out place rest all was are =
    let long = was.long in
    was.so_far 0 (omega arith) ∙ ap (λ l. behind (take place out) (values_in 0 l)) are ∙ ap Some (append-nil (take place out) ∙ take_all place out (omega arith))

-- What the whole is read as

pub fails_first : (bytes text : List ℕ) (count : ℕ) → text ≡ behind_space bytes → begins_with_fail text ≡ true → None ≡ results_of bytes count
unfolding results_of
fails_first bytes text count e says = sym (ap (λ (t : Bool). cond t None (values_in count (pieces bytes))) (sym (ap begins_with_fail e) ∙ says))

pub read_behind : (bytes text : List ℕ) (count : ℕ) (o : Option (List Decimal)) → text ≡ behind_space bytes → begins_with_fail text ≡ false → values_in count (pieces bytes) ≡ o → o ≡ results_of bytes count
unfolding results_of
read_behind bytes text count o e says are = sym (ap (λ (t : Bool). cond t None (values_in count (pieces bytes))) (sym (ap begins_with_fail e) ∙ says) ∙ are)
