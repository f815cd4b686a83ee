-- Lists of faults that are empty, and elements that were found.
use Rattle.std.proofs.Common.{◌≡◌, ℕ, Bool, true, false, not, cond, List, [], ◌∷◌, ◌++◌, filter, length, refl, sym, subst, arith, Option, Some, None, true≢false, option_to_list}
use Rattle.std.specs.Prelude.{◌==◌, is_some, is_none}
use Rattle.std.specs.List.{All, flat_map}
use Rattle.std.proofs.lemmas.Grind.{common_steps}
use Rattle.std.proofs.lemmas.List.Elements.{All-nil, All-cons, All-head, All-tail, All-append}
use Rattle.dk_grammar.specs.Lists.{first, when}

-- a list of no elements has no parts with elements
pub empty_parts : {X : Type 0} (xs ys : List X) → xs ++ ys ≡ [] → (xs ≡ []) × (ys ≡ [])
empty_parts [] ys e = (refl, e)
empty_parts (x ∷ xs) ys e = absurd (cc)

-- where there is no fault of any element, each has none
pub each_empty : {X Y : Type 0} (f : X → List Y) (xs : List X) → flat_map f xs ≡ [] → All (λ x. f x ≡ []) xs
each_empty f [] e = All-nil (λ x. f x ≡ [])
each_empty f (x ∷ xs) e =
    let p = empty_parts (f x) (flat_map f xs) e in
    All-cons (λ x. f x ≡ []) x xs p.0 (each_empty f xs p.1)

-- where a test has no fault it is false
pub unless_when : {X : Type 0} (b : Bool) (x : X) → when b x ≡ [] → b ≡ false
unless_when true x e = absurd (cc)
unless_when false x e = refl

pub not_false : (b : Bool) → not b ≡ false → b ≡ true
not_false true e = refl
not_false false e = sym e

pub equal_from : (n m : ℕ) → (n == m) ≡ true → n ≡ m
equal_from n m e = grind (arith, common_steps)

-- what an optional element is checked for
pub empty_option : {X Y : Type 0} (f : X → List Y) (o : Option X) (x : X) → flat_map f (option_to_list o) ≡ [] → o ≡ Some x → f x ≡ []
empty_option f o x e some = (empty_parts (f x) [] (subst (λ p. flat_map f (option_to_list p) ≡ []) some e)).0

-- what holds of the elements of all lists holds of those of each list
pub each_part : {X Y : Type 0} (P : Y → Type 0) (f : X → List Y) (xs : List X) → All P (flat_map f xs) → All (λ x. All P (f x)) xs
each_part P f [] h = All-nil (λ x. All P (f x))
each_part {Y = Y} P f (x ∷ xs) h =
    let p = parts (f x) (flat_map f xs) h in
    All-cons (λ x. All P (f x)) x xs p.0 (each_part P f xs p.1)
  where
    parts : (ys zs : List Y) → All P (ys ++ zs) → All P ys × All P zs
    parts [] zs h = (All-nil P, h)
    parts (y ∷ ys) zs h =
        let rest = parts ys zs (All-tail P y (ys ++ zs) h) in
        (All-cons P y ys (All-head P y (ys ++ zs) h) rest.0, rest.1)

-- what holds of the elements of each list holds of those of all lists
pub all_parts : {X Y : Type 0} (P : Y → Type 0) (f : X → List Y) (xs : List X) → All (λ x. All P (f x)) xs → All P (flat_map f xs)
all_parts P f [] h = All-nil P
all_parts P f (x ∷ xs) h = All-append P (f x) (flat_map f xs) (All-head (λ x. All P (f x)) x xs h) (all_parts P f xs (All-tail (λ x. All P (f x)) x xs h))

-- the first element that passes a test passes it, and has what each element has
pub found : {X : Type 0} (P : X → Type 0) (p : X → Bool) (xs : List X) (x : X) → first (filter p xs) ≡ Some x → All P xs → P x × (p x ≡ true)
found P p [] x e h = absurd (cc)
found P p (y ∷ ys) x e h = by (p y) refl e (λ f. found P p ys x f (All-tail P y ys h))
  where
    by : (b : Bool) → p y ≡ b → first (cond b (y ∷ filter p ys) (filter p ys)) ≡ Some x → (first (filter p ys) ≡ Some x → P x × (p x ≡ true)) → P x × (p x ≡ true)
    by true t e rest = let same : y ≡ x = cc in (subst P same (All-head P y ys h), subst (λ z. p z ≡ true) same t)
    by false t e rest = rest e

-- the first of the elements of a list that isn't empty
pub first_some : {X : Type 0} (xs : List X) → (length xs ≡ 0 → ⊥) → (x : X) × (first xs ≡ Some x)
first_some [] h = absurd (h refl)
first_some (x ∷ xs) h = (x, refl)

-- the first element has what each element has
pub first_has : {X : Type 0} (P : X → Type 0) (xs : List X) (x : X) → first xs ≡ Some x → All P xs → P x
first_has P [] x e h = absurd (cc)
first_has P (y ∷ ys) x e h = let same : y ≡ x = cc in subst P same (All-head P y ys h)

-- an option that isn't none
pub some_value : {X : Type 0} (o : Option X) → is_none o ≡ false → (x : X) × (o ≡ Some x)
some_value None e = absurd (true≢false e)
some_value (Some x) e = (x, refl)

pub some_of : {X : Type 0} (o : Option X) → is_some o ≡ true → (x : X) × (o ≡ Some x)
some_of None e = absurd (true≢false (sym e))
some_of (Some x) e = (x, refl)

pub none_of : {X : Type 0} (o : Option X) → is_some o ≡ false → o ≡ None
none_of None e = refl
none_of (Some x) e = absurd (true≢false e)
