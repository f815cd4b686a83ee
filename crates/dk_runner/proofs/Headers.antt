-- A header of a study's labels is small.
use Rattle.std.proofs.Common.{◌≡◌, ℕ, ◌+◌, ◌*◌, ◌≤◌, ◌&&◌, ◌||◌, ◌==◌, Bool, true, false, List, [], ◌∷◌, length, arith, nat_le, length-append}
use Rattle.std.specs.Prelude.{IsTrue}
use Rattle.std.specs.List.{All, flat_map, list_all}
use Rattle.std.specs.Char.{is_ascii_alphabetic}
use Rattle.std.proofs.lemmas.Grind.{common_steps}
use Rattle.std.proofs.lemmas.List.Elements.{All-head, All-tail}
use Rattle.dk_types.specs.declared.study.Shape.{Shape}
use Rattle.dk_types.specs.Labels.{is_label, is_visible, AreLabels}
use Rattle.dk_record.specs.Payloads.{label_bytes, labels_bytes, header_payload}

second_of : (x y : Bool) → (x && y) ≡ true → y ≡ true
second_of true y h = h
second_of false y h = absurd (cc)

label_few : (label : List ℕ) → is_label label ≡ true → length label ≤ 255
label_few [] h = absurd (cc)
label_few (b ∷ bs) h =
    let e = second_of ((is_ascii_alphabetic b || b == 95) && list_all is_visible (b ∷ bs)) (nat_le (length (b ∷ bs)) 255) h in
    grind (arith, common_steps)

labels_few : (labels : List (List ℕ)) → All (λ label. IsTrue (is_label label)) labels → length (flat_map label_bytes labels) ≤ 256 * length labels
labels_few [] all = omega arith
labels_few (label ∷ labels) all =
    let first = label_few label (All-head (λ (l : List ℕ). IsTrue (is_label l)) label labels all) in
    let rest = labels_few labels (All-tail (λ (l : List ℕ). IsTrue (is_label l)) label labels all) in
    omega (arith, first, rest, length-append (label_bytes label) (flat_map label_bytes labels))

pub header_few : (shape : Shape) → AreLabels shape.variables → AreLabels shape.responses → length (header_payload shape) + 2 ≤ 268435456
header_few shape v r =
    let a = labels_few shape.variables v.each in
    let b = labels_few shape.responses r.each in
    let n = v.few in
    let m = r.few in
    omega (arith, a, b, n, m, length-append (labels_bytes shape.variables) (labels_bytes shape.responses))
