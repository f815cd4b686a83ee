-- Bytes stand for one list of entries at most.
use Rattle.std.proofs.Common.{◌≡◌, ℕ, ◌+◌, ◌*◌, List, [], ◌∷◌, ◌++◌, length, refl, sym, ◌∙◌, ap, subst, arith, length-append, append_assoc, drop}
use Rattle.std.specs.List.{All, flat_map}
use Rattle.std.specs.Int.{w32, to_le_bytes}
use Rattle.std.proofs.lemmas.List.{append_cancel_left}
use Rattle.std.proofs.lemmas.List.Elements.{All-head, All-tail}
use Rattle.dk_num.specs.Decimal.{IsCanonical}
use Rattle.dk_types.specs.declared.study.Shape.{Shape}
use Rattle.dk_types.specs.declared.entry.Entry.{Entry}
use Rattle.dk_types.specs.declared.entry.Said.{Said}
use Rattle.dk_types.specs.declared.entry.Said.TheVariants.{Values, Failed}
use Rattle.dk_record.specs.Payloads.{decimal_bytes, said_bytes, payload, payload_size, header_payload, IsStored}
use Rattle.dk_record.specs.Files.{IsUnborn, AreRecords, none, more, IsBorn, Stands, unborn, born}
use Rattle.dk_record.specs.Readings.{IsPrefixFree, IsSaid, IsAttempt}
use Rattle.dk_record.proofs.Bytes.{split_same, many_same, decimal_same, attempt_same, length-decimals}

head_of : (a b : ℕ) (rest others : List ℕ) → a ∷ rest ≡ b ∷ others → (a + b ≡ 1) → ⊥
head_of a b rest others e odd = let same : a ≡ b = cc in omega (arith, same)

pub said_same : (responses : ℕ) → IsPrefixFree (IsSaid responses) said_bytes
said_same responses (Values vs) (Values ws) rest others one two e =
    let tail : flat_map decimal_bytes vs ++ rest ≡ flat_map decimal_bytes ws ++ others = cc in
    let same = many_same IsCanonical decimal_bytes decimal_same vs ws rest others (one.values_length ∙ sym two.values_length) one.values two.values tail in
    (ap Values same.0, same.1)
said_same responses (Values vs) Failed rest others one two e = absurd (head_of 1 0 (flat_map decimal_bytes vs ++ rest) others e refl)
said_same responses Failed (Values ws) rest others one two e = absurd (head_of 0 1 rest (flat_map decimal_bytes ws ++ others) e refl)
said_same responses Failed Failed rest others one two e = (refl, cc)

pub attempts_same : IsPrefixFree IsAttempt (to_le_bytes w32)
attempts_same n m rest others one two e =
    let numbers = split_same (to_le_bytes w32 n) (to_le_bytes w32 m) rest others refl e in
    (attempt_same n m one.last two.last numbers.front, numbers.back)

entry_is : (e other : Entry) → e.point ≡ other.point → e.attempt ≡ other.attempt → e.said ≡ other.said → e ≡ other
entry_is e other p a s = λ i. record { point = p i; attempt = a i; said = s i }

pub payload_same : (variables responses : ℕ) → IsPrefixFree (IsStored variables responses) payload
payload_same variables responses e other rest others one two same =
    let opened : flat_map decimal_bytes e.point ++ (to_le_bytes w32 e.attempt ++ (said_bytes e.said ++ rest)) ≡ flat_map decimal_bytes other.point ++ (to_le_bytes w32 other.attempt ++ (said_bytes other.said ++ others)) =
    sym (append_assoc (flat_map decimal_bytes e.point) (to_le_bytes w32 e.attempt ++ said_bytes e.said) rest) ∙ same ∙ append_assoc (flat_map decimal_bytes other.point) (to_le_bytes w32 other.attempt ++ said_bytes other.said) others in
    let points = many_same IsCanonical decimal_bytes decimal_same e.point other.point (to_le_bytes w32 e.attempt ++ (said_bytes e.said ++ rest)) (to_le_bytes w32 other.attempt ++ (said_bytes other.said ++ others)) (one.point_length ∙ sym two.point_length) one.point two.point opened in
    let numbers = split_same (to_le_bytes w32 e.attempt) (to_le_bytes w32 other.attempt) (said_bytes e.said ++ rest) (said_bytes other.said ++ others) refl points.1 in
    let attempt = attempt_same e.attempt other.attempt one.last two.last numbers.front in
    let said = said_same responses e.said other.said rest others (record { values_length = one.values_length; values = one.values }) (record { values_length = two.values_length; values = two.values }) numbers.back in
    (entry_is e other points.0 attempt said.0, said.1)

module _ (variables responses : ℕ) where
  records_same : (entries others : List Entry) (bytes other_bytes rest other_rest : List ℕ) → AreRecords entries bytes → AreRecords others other_bytes →
      All (IsStored variables responses) entries → All (IsStored variables responses) others → bytes ++ 0 ∷ rest ≡ other_bytes ++ 0 ∷ other_rest → entries ≡ others
  records_same [] [] bytes other_bytes rest other_rest none none one two e = refl
  records_same [] (o ∷ others) bytes other_bytes rest other_rest none (more gate _ _ behind is_open records) one two e =
      absurd (let no : 0 ≡ gate = cc in omega arith)
  records_same (e ∷ entries) [] bytes other_bytes rest other_rest (more gate _ _ behind is_open records) none one two same =
      absurd (let no : gate ≡ 0 = cc in omega arith)
  records_same (e ∷ entries) (o ∷ others) bytes other_bytes rest other_rest (more gate _ _ behind is_open records) (more other_gate _ _ other_behind other_open other_records) one two same =
      let tail : (payload e ++ behind) ++ 0 ∷ rest ≡ (payload o ++ other_behind) ++ 0 ∷ other_rest = cc in
      let opened = sym (append_assoc (payload e) behind (0 ∷ rest)) ∙ tail ∙ append_assoc (payload o) other_behind (0 ∷ other_rest) in
      let heads = payload_same variables responses e o (behind ++ 0 ∷ rest) (other_behind ++ 0 ∷ other_rest) (All-head (IsStored variables responses) e entries one) (All-head (IsStored variables responses) o others two) opened in
      let tails = records_same entries others behind other_behind rest other_rest records other_records (All-tail (IsStored variables responses) e entries one) (All-tail (IsStored variables responses) o others two) heads.1 in
      λ i. heads.0 i ∷ tails i

pub whole : (shape : Shape) (gate : ℕ) (records rest front bytes : List ℕ) → front ≡ gate ∷ (header_payload shape ++ records) → bytes ≡ front ++ 0 ∷ rest →
    bytes ≡ gate ∷ (header_payload shape ++ (records ++ 0 ∷ rest))
whole shape gate records rest front bytes is split =
    split ∙ ap (λ (f : List ℕ). f ++ 0 ∷ rest) is ∙ ap (λ (l : List ℕ). gate ∷ l) (append_assoc (header_payload shape) records (0 ∷ rest))

-- a file that was born isn't unborn
pub born_not_unborn : (shape : Shape) (bytes : List ℕ) (entries : List Entry) → IsBorn shape bytes entries → IsUnborn bytes → ⊥
born_not_unborn shape bytes entries b u =
    let f = b.is_front in
    let closed : f.gate ≡ 0 = subst IsUnborn (whole shape f.gate f.records b.rest b.front bytes f.split b.split) u in
    omega (arith, f.is_open, closed)

born_same : (shape : Shape) (bytes : List ℕ) (entries others : List Entry) → IsBorn shape bytes entries → IsBorn shape bytes others → entries ≡ others
born_same shape bytes entries others b o =
    let f = b.is_front in
    let g = o.is_front in
    let e : f.gate ∷ (header_payload shape ++ (f.records ++ 0 ∷ b.rest)) ≡ g.gate ∷ (header_payload shape ++ (g.records ++ 0 ∷ o.rest)) = sym (whole shape f.gate f.records b.rest b.front bytes f.split b.split) ∙ whole shape g.gate g.records o.rest o.front bytes g.split o.split in
    let tail : header_payload shape ++ (f.records ++ 0 ∷ b.rest) ≡ header_payload shape ++ (g.records ++ 0 ∷ o.rest) = ap (drop 1) e in
    let same = append_cancel_left (header_payload shape) (f.records ++ 0 ∷ b.rest) (g.records ++ 0 ∷ o.rest) tail in
    records_same (length shape.variables) (length shape.responses) entries others f.records g.records b.rest o.rest f.are_records g.are_records b.kept.stored o.kept.stored same

pub stands_same : (shape : Shape) (bytes : List ℕ) (entries others : List Entry) → Stands shape bytes entries → Stands shape bytes others → entries ≡ others
stands_same shape bytes _ _ (unborn u) (unborn v) = refl
stands_same shape bytes _ others (unborn u) (born _ b) = absurd (born_not_unborn shape bytes others b u)
stands_same shape bytes entries _ (born _ b) (unborn u) = absurd (born_not_unborn shape bytes entries b u)
stands_same shape bytes entries others (born _ b) (born _ o) = born_same shape bytes entries others b o

length-said : (said : Said) (variables : ℕ) → 18 * variables + (4 + length (said_bytes said)) ≡ payload_size variables said
length-said (Values values) variables = omega (arith, length-decimals values)
length-said Failed variables = omega arith

pub length-payload : (e : Entry) → length (payload e) ≡ payload_size (length e.point) e.said
length-payload e =
    omega (arith, length-append (flat_map decimal_bytes e.point) (to_le_bytes w32 e.attempt ++ said_bytes e.said), length-append (to_le_bytes w32 e.attempt) (said_bytes e.said), length-decimals e.point, length-said e.said (length e.point))
