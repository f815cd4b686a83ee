-- What stands at the front, for things that stand one behind the other.
use Rattle.std.proofs.Common.{◌≡◌, ℕ, ◌+◌, ◌<◌, ◌≤◌, List, [], ◌∷◌, ◌++◌, length, take, set, refl, sym, ◌∙◌, ap, arith, Result, Ok, Err, OnErr, length-append, append_assoc}
use Rattle.std.specs.List.{All, flat_map}
use Rattle.std.proofs.lemmas.List.{take-take, take_at, take_more_set, flat_map_more}
use Rattle.std.proofs.lemmas.List.Elements.{All-head, All-tail, All-push, All-same}
use Rattle.dk_record.specs.Readings.{Begins, NoneBegins, IsPrefixFree}

-- a fact of whatever went wrong
pub on_err : {T E : Type 0} {P : Type 0} → (r : Result T E) → P → OnErr r P
on_err (Ok x) p = tt
on_err (Err e) p = p

-- what a later list keeps of an earlier one
pub front_kept : (old more mid new : List ℕ) → mid ≡ old ++ more → take (length mid) new ≡ mid → take (length old) new ≡ old
front_kept old more mid new e keeps =
    let long : length old ≤ length mid = omega (arith, ap length e, length-append old more) in
    sym (take-take (length old) (length mid) new long) ∙ ap (take (length old)) (keeps ∙ e) ∙ take_at old more (length old) refl

-- where less is left than the piece takes, it doesn't stand there
pub too_short : (bytes piece rest : List ℕ) (n : ℕ) → bytes ≡ piece ++ rest → length piece ≡ n → length bytes < n → ⊥
too_short bytes piece rest n e long short = omega (arith, ap length e, length-append piece rest)

module _ {A : Type 0} (IsOne : A → Type 0) (bytes_of : A → List ℕ) (free : IsPrefixFree IsOne bytes_of) where
  -- what stands at the front is what was read there, and so is what follows it
  pub follows : (bytes : List ℕ) (one : A) (rest : List ℕ) (other : A) (others : List ℕ) → Begins IsOne bytes_of bytes one rest → IsOne other → bytes ≡ bytes_of other ++ others → (one ≡ other) × (rest ≡ others)
  follows bytes one rest other others begins is e = free one other rest others begins.is_one is (sym begins.split ∙ e)

  -- where nothing of a second kind stands behind what was read, no two of them stand at the front
  pub none_behind : {B : Type 0} (IsNext : B → Type 0) (next_bytes : B → List ℕ) (bytes : List ℕ) (one : A) (rest : List ℕ) → Begins IsOne bytes_of bytes one rest → NoneBegins IsNext next_bytes rest →
      (other : A) (next : B) (tail : List ℕ) → IsOne other → IsNext next → bytes ≡ bytes_of other ++ (next_bytes next ++ tail) → ⊥
  none_behind IsNext next_bytes bytes one rest begins none other next tail is is_next e =
      none next tail (record { is_one = is_next; split = (follows bytes one rest other (next_bytes next ++ tail) begins is e).1 })

  -- where none stands behind those that were read, no more of them stand at the front
  pub none_more : (done all : List A) (bytes rest tail : List ℕ) → All IsOne done → bytes ≡ flat_map bytes_of done ++ rest → NoneBegins IsOne bytes_of rest →
      All IsOne all → length done < length all → bytes ≡ flat_map bytes_of all ++ tail → ⊥
  none_more [] [] bytes rest tail each e none are more other = omega arith
  none_more [] (a ∷ others) bytes rest tail each e none are more other =
      none a (flat_map bytes_of others ++ tail) (record { is_one = All-head IsOne a others are; split = sym e ∙ other ∙ append_assoc (bytes_of a) (flat_map bytes_of others) tail })
  none_more (d ∷ ds) [] bytes rest tail each e none are more other = omega arith
  none_more (d ∷ ds) (a ∷ others) bytes rest tail each e none are more other =
      let same = free d a (flat_map bytes_of ds ++ rest) (flat_map bytes_of others ++ tail) (All-head IsOne d ds each) (All-head IsOne a others are)
      (sym (append_assoc (bytes_of d) (flat_map bytes_of ds) rest) ∙ sym e ∙ other ∙ append_assoc (bytes_of a) (flat_map bytes_of others) tail) in
      none_more ds others (flat_map bytes_of ds ++ rest) rest tail (All-tail IsOne d ds each) refl none (All-tail IsOne a others are) (omega arith) same.1

-- one more that was read
pub split_more : {A : Type 0} (bytes_of : A → List ℕ) (done : List A) (one : A) (now : List A) (bytes rest behind : List ℕ) → bytes ≡ flat_map bytes_of done ++ rest → rest ≡ bytes_of one ++ behind →
    now ≡ done ++ one ∷ [] → bytes ≡ flat_map bytes_of now ++ behind
split_more bytes_of done one now bytes rest behind e f g =
    e ∙ ap (λ (l : List ℕ). flat_map bytes_of done ++ l) f ∙ sym (append_assoc (flat_map bytes_of done) (bytes_of one) behind)
    ∙ ap (λ (l : List ℕ). l ++ behind) (flat_map_more bytes_of [] done one ∙ ap (flat_map bytes_of) (sym g))

-- one more that was read into its place
pub each_more : {A : Type 0} (IsOne : A → Type 0) (out : List A) (place : ℕ) (one : A) → place < length out → All IsOne (take place out) → IsOne one → All IsOne (take (place + 1) (set out place one))
each_more IsOne out place one within each is =
    All-same IsOne (take (place + 1) (set out place one)) (take place out ++ one ∷ []) (take_more_set out place one within) (All-push IsOne (take place out) one each is)

pub place_more : {A : Type 0} (bytes_of : A → List ℕ) (out : List A) (place : ℕ) (one : A) (bytes rest behind : List ℕ) → place < length out → bytes ≡ flat_map bytes_of (take place out) ++ rest → rest ≡ bytes_of one ++ behind →
    bytes ≡ flat_map bytes_of (take (place + 1) (set out place one)) ++ behind
place_more bytes_of out place one bytes rest behind within e f =
    split_more bytes_of (take place out) one (take (place + 1) (set out place one)) bytes rest behind e f (take_more_set out place one within)
