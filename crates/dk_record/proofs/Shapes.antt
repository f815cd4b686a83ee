-- No header's payload begins another's, and a file is that of one shape.
use Rattle.std.proofs.Common.{◌≡◌, ℕ, List, ◌∷◌, ◌++◌, length, codes, drop, refl, sym, ◌∙◌, ap, arith, append_assoc}
use Rattle.std.specs.List.{flat_map}
use Rattle.std.specs.Int.{w16, to_le_bytes}
use Rattle.std.proofs.lemmas.List.{append_cancel_left}
use Rattle.dk_types.specs.declared.study.Shape.{Shape}
use Rattle.dk_types.specs.declared.entry.Entry.{Entry}
use Rattle.dk_types.specs.Labels.{AreLabels}
use Rattle.dk_record.specs.Payloads.{label_bytes, labels_bytes, header_payload, IsShape}
use Rattle.dk_record.specs.Readings.{IsPrefixFree, IsCount, IsLabel}
use Rattle.dk_record.specs.Files.{IsBorn}
use Rattle.dk_record.proofs.Bytes.{split_same, many_same, number_same}
use Rattle.dk_record.proofs.Once.{whole}

pub label_same : IsPrefixFree IsLabel label_bytes
label_same a b rest others one two e =
    let long : length a ≡ length b = cc in
    let tail : a ++ rest ≡ b ++ others = cc in
    let same = split_same a b rest others long tail in
    (same.front, same.back)

pub count_same : IsPrefixFree IsCount (to_le_bytes w16)
count_same n m rest others one two e =
    let numbers = split_same (to_le_bytes w16 n) (to_le_bytes w16 m) rest others refl e in
    (number_same 2 n m (omega (arith, one.few)) (omega (arith, two.few)) numbers.front, numbers.back)

pub labels_same : IsPrefixFree AreLabels labels_bytes
labels_same xs ys rest others one two e =
    let opened : to_le_bytes w16 (length xs) ++ (flat_map label_bytes xs ++ rest) ≡ to_le_bytes w16 (length ys) ++ (flat_map label_bytes ys ++ others) = e in
    let counts = count_same (length xs) (length ys) (flat_map label_bytes xs ++ rest) (flat_map label_bytes ys ++ others) (record { some = one.some; few = one.few }) (record { some = two.some; few = two.few }) opened in
    many_same IsLabel label_bytes label_same xs ys rest others counts.0 one.each two.each counts.1

shape_is : (a b : Shape) → a.variables ≡ b.variables → a.responses ≡ b.responses → a ≡ b
shape_is a b v r = λ i. record { variables = v i; responses = r i }

pub header_same : IsPrefixFree IsShape header_payload
header_same a b rest others one two e =
    let mark = codes "DKRSTv1\n" in
    let first = labels_bytes a.variables in
    let second = labels_bytes a.responses in
    let other_first = labels_bytes b.variables in
    let other_second = labels_bytes b.responses in
    let tail : (first ++ second) ++ rest ≡ (other_first ++ other_second) ++ others =
    append_cancel_left mark ((first ++ second) ++ rest) ((other_first ++ other_second) ++ others)
    (sym (append_assoc mark (first ++ second) rest) ∙ e ∙ append_assoc mark (other_first ++ other_second) others) in
    let opened = sym (append_assoc first second rest) ∙ tail ∙ append_assoc other_first other_second others in
    let variables = labels_same a.variables b.variables (second ++ rest) (other_second ++ others) one.variables two.variables opened in
    let responses = labels_same a.responses b.responses rest others one.responses two.responses variables.1 in
    (shape_is a b variables.0 responses.0, responses.1)

pub shape_same : (shape other : Shape) (bytes : List ℕ) (entries others : List Entry) → IsShape shape → IsShape other → IsBorn shape bytes entries → IsBorn other bytes others → shape ≡ other
shape_same shape other bytes entries others one two b o =
    let f = b.is_front in
    let g = o.is_front in
    let e = sym (whole shape f.gate f.records b.rest b.front bytes f.split b.split) ∙ whole other g.gate g.records o.rest o.front bytes g.split o.split in
    let tail : header_payload shape ++ (f.records ++ 0 ∷ b.rest) ≡ header_payload other ++ (g.records ++ 0 ∷ o.rest) = ap (drop 1) e in
    (header_same shape other (f.records ++ 0 ∷ b.rest) (g.records ++ 0 ∷ o.rest) one two tail).0
