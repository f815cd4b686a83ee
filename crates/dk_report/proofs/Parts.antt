-- A text that is put in parts, one after another.
use Rattle.std.proofs.Common.{◌≡◌, ℕ, ◌+◌, ◌<◌, List, [], ◌∷◌, ◌++◌, length, drop, get_or, Option, refl, ap, sym, ◌∙◌, append_assoc}
use Rattle.std.proofs.lemmas.List.{append-nil, at_drop_more}
use Rattle.dk_outside.specs.Sinks.{Held}
use Rattle.dk_outside.specs.Flows.{Puts}
use Rattle.dk_outside.specs.declared.writer.Writer.{Writer}
use Rattle.dk_outside.proofs.Carrying.{then, same_bytes, puts_none}

-- a front of the text was put, and the rest is to come
pub record Part {T : Type 0} (held : T → Option Held) (faults : T → ℕ) (old new : Writer T) (rest whole : List ℕ) : Type 0 where
  pub front : List ℕ
  pub put : Puts held faults old new front
  pub is : front ++ rest ≡ whole

module _ {T : Type 0} {held : T → Option Held} {faults : T → ℕ} where
  pub part_none : (a : Writer T) (whole : List ℕ) → Part held faults a a whole whole
  part_none a whole = record { front = []; put = puts_none a; is = refl }

  pub part_next : {a b c : Writer T} {before whole : List ℕ} (x after : List ℕ) → Part held faults a b before whole → before ≡ x ++ after → Puts held faults b c x →
      Part held faults a c after whole
  part_next x after was e more = record {
    front = was.front ++ x;
    put = then was.put more;
    is = append_assoc was.front x after ∙ ap (λ t. was.front ++ t) (sym e) ∙ was.is;
  }

  pub part_all : {a b : Writer T} {rest whole : List ℕ} → Part held faults a b rest whole → rest ≡ [] → Puts held faults a b whole
  part_all was e = same_bytes (sym (append-nil was.front) ∙ ap (λ t. was.front ++ t) (sym e) ∙ was.is) was.put

-- the text of the items from i on, an item further
pub items_step : {A : Type 0} (F : List A → List ℕ) (f : A → List ℕ) (after : List ℕ) (items : List A) (i : ℕ) (x : A) → i < length items → x ≡ get_or items i x →
    ((y : A) → F (y ∷ drop (i + 1) items) ≡ f y ++ after) → F (drop i items) ≡ f x ++ after
items_step F f after items i x h is cons = at_drop_more F items i x h ∙ cons (get_or items i x) ∙ ap (λ y. f y ++ after) (sym is)

pub both : {A B C : Type 0} (f : A → B → C) {a a' : A} {b b' : B} → a ≡ a' → b ≡ b' → f a b ≡ f a' b'
both f {a} {a'} {b} {b'} p q = ap (λ x. f x b) p ∙ ap (λ y. f a' y) q
