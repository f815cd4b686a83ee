-- What a reader of headers has found, and why it has found none.
use Rattle.std.proofs.Common.{◌≡◌, ℕ, ◌-◌, false, List, ◌++◌, length, codes, sym, ◌∙◌, ap, arith, length-append, append_assoc}
use Rattle.std.specs.Int.{w16, to_le_bytes}
use Rattle.std.specs.List.{flat_map}
use Rattle.std.proofs.lemmas.Bool.{false≢true}
use Rattle.std.proofs.lemmas.List.{append_cancel_left}
use Rattle.dk_types.specs.declared.study.Shape.{Shape}
use Rattle.dk_types.specs.Labels.{AreLabels, are_distinct}
use Rattle.dk_record.specs.Payloads.{label_bytes, labels_bytes, header_payload, IsShape}
use Rattle.dk_record.specs.Readings.{Begins, NoneBegins, IsCount, IsLabel, HasLabels, HasHeader}
use Rattle.dk_record.proofs.Bytes.{many_same}
use Rattle.dk_record.proofs.Shapes.{label_same, count_same, labels_same}
use Rattle.dk_record.proofs.Fronts.{follows, none_behind}

-- a label that stands twice
pub twice : (bytes : List ℕ) (count : ℕ) (behind : List ℕ) (labels : List (List ℕ)) (rest : List ℕ) → Begins IsCount (to_le_bytes w16) bytes count behind →
    Begins (HasLabels count) (flat_map label_bytes) behind labels rest → are_distinct labels ≡ false → NoneBegins AreLabels labels_bytes bytes
twice bytes count behind labels rest counted many no_good other tail b =
    let counts = follows IsCount (to_le_bytes w16) count_same bytes count behind (length other) (flat_map label_bytes other ++ tail) counted (record { some = b.is_one.some; few = b.is_one.few }) b.split in
    let same = many_same IsLabel label_bytes label_same labels other rest tail (many.is_one.long ∙ counts.0) many.is_one.each b.is_one.each (sym many.split ∙ counts.1) in
    false≢true (sym no_good ∙ ap are_distinct same.0 ∙ b.is_one.distinct)

-- what stands behind the mark, for a header
opened : (bytes behind : List ℕ) (shape : Shape) (tail : List ℕ) → bytes ≡ codes "DKRSTv1\n" ++ behind → bytes ≡ header_payload shape ++ tail → behind ≡ labels_bytes shape.variables ++ (labels_bytes shape.responses ++ tail)
opened bytes behind shape tail e f =
    let both = labels_bytes shape.variables ++ labels_bytes shape.responses in
    append_cancel_left (codes "DKRSTv1\n") behind (both ++ tail) (sym e ∙ f ∙ append_assoc (codes "DKRSTv1\n") both tail) ∙ append_assoc (labels_bytes shape.variables) (labels_bytes shape.responses) tail

-- no labels of responses
pub no_responses : (bytes behind : List ℕ) (variables : List (List ℕ)) (next : List ℕ) → bytes ≡ codes "DKRSTv1\n" ++ behind → Begins AreLabels labels_bytes behind variables next →
    NoneBegins AreLabels labels_bytes next → NoneBegins IsShape header_payload bytes
no_responses bytes behind variables next e begins none shape tail b =
    none_behind AreLabels labels_bytes labels_same AreLabels labels_bytes behind variables next begins none shape.variables shape.responses tail b.is_one.variables b.is_one.responses (opened bytes behind shape tail e b.split)

-- the shape that was read
pub has_header : (bytes behind : List ℕ) (variables : List (List ℕ)) (next : List ℕ) (responses : List (List ℕ)) (rest : List ℕ) → bytes ≡ codes "DKRSTv1\n" ++ behind → Begins AreLabels labels_bytes behind variables next →
    Begins AreLabels labels_bytes next responses rest → HasHeader bytes (record { variables = variables; responses = responses }) (length bytes - length rest)
has_header bytes behind variables next responses rest e first second =
    let shape : Shape = record { variables = variables; responses = responses } in
    let both = labels_bytes variables ++ labels_bytes responses in
    let split : bytes ≡ header_payload shape ++ rest =
    e ∙ ap (λ (l : List ℕ). codes "DKRSTv1\n" ++ l) (first.split ∙ ap (λ (l : List ℕ). labels_bytes variables ++ l) second.split ∙ sym (append_assoc (labels_bytes variables) (labels_bytes responses) rest)) ∙ sym (append_assoc (codes "DKRSTv1\n") both rest) in
    record {
      rest = rest;
      begins = record { is_one = record { variables = first.is_one; responses = second.is_one }; split = split };
      size_is = omega (arith, ap length split, length-append (header_payload shape) rest);
    }
