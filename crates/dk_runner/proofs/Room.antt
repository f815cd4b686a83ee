-- How many bytes the entries of a study take at most.
use Rattle.std.proofs.Common.{◌≡◌, ℕ, ◌+◌, ◌*◌, ◌≤◌, suc, List, [], ◌∷◌, ◌++◌, length, sym, ap, subst, arith, append_assoc, length-append}
use Rattle.std.specs.Prelude.{IfSome}
use Rattle.std.proofs.Math.Nat.{mul-le-mul_right}
use Rattle.std.proofs.lemmas.List.{append-nil}
use Rattle.dk_types.specs.declared.study.Study.{Study}
use Rattle.dk_types.specs.declared.study.Shape.{Shape}
use Rattle.dk_types.specs.declared.entry.Entry.{Entry}
use Rattle.dk_types.specs.declared.entry.Said.{Said}
use Rattle.dk_types.specs.declared.entry.Said.TheVariants.{Values, Failed}
use Rattle.dk_types.specs.Entries.{values_of, IsNextEntry, AreNextEntries, AreEntries}
use Rattle.dk_types.specs.Answers.{retries}
use Rattle.dk_types.proofs.CardEntries.{next_append}
use Rattle.dk_record.specs.Payloads.{payload_size}
use Rattle.dk_record.specs.Files.{used}
use Rattle.dk_journal.specs.Sessions.{shape_of}
use Rattle.dk_journal.proofs.Appending.{used_more}
use Rattle.dk_runner.specs.Restarts.{HasRoom, most_bytes}

-- the most bytes that a record takes with its gate
abbrev most_record : Shape → ℕ
most_record shape = 18 * (length shape.variables + length shape.responses) + 6

few_bytes : (variables responses : ℕ) (said : Said) → IfSome (values_of said) (λ values. length values ≡ responses) → 1 + payload_size variables said ≤ 18 * (variables + responses) + 6
few_bytes variables responses (Values values) long = omega (arith, long)
few_bytes variables responses Failed long = omega arith

record_few : (shape : Shape) (before : List Entry) (e : Entry) → IsNextEntry (length shape.variables) (length shape.responses) before e → 1 + payload_size (length e.point) e.said ≤ most_record shape
record_few shape before e next = subst (λ (n : ℕ). 1 + payload_size n e.said ≤ most_record shape) (sym next.point) (few_bytes (length shape.variables) (length shape.responses) e.said next.values)

one_more : (a n : ℕ) → suc n * a ≡ a + n * a
one_more a n = omega arith

-- entries behind others take at most so many bytes each
used_few : (shape : Shape) (before added : List Entry) → AreNextEntries (length shape.variables) (length shape.responses) before added → used shape (before ++ added) ≤ used shape before + length added * most_record shape
used_few shape before [] next = let same = ap (used shape) (append-nil before) in omega (arith, same)
used_few shape before (e ∷ added) next =
    let rest = used_few shape (before ++ e ∷ []) added next.1 in
    let first = used_more shape before e in
    let few = record_few shape before e next.0 in
    let same = ap (used shape) (append_assoc before (e ∷ []) added) in
    let long : length (e ∷ added) * most_record shape ≡ most_record shape + length added * most_record shape = one_more (most_record shape) (length added) in
    omega (arith, rest, first, few, same, long)

pub behind : (n m : ℕ) (before xs ys : List Entry) → AreNextEntries n m before (xs ++ ys) → AreNextEntries n m (before ++ xs) ys
behind n m before [] ys next = subst (λ (l : List Entry). AreNextEntries n m l ys) (sym (append-nil before)) next
behind n m before (x ∷ xs) ys next = subst (λ (l : List Entry). AreNextEntries n m l ys) (append_assoc before (x ∷ []) xs) (behind n m (before ++ x ∷ []) xs ys next.1)

-- where there is room for all entries that the study can come to, there is room for the one that comes next
pub has_room : (study : Study) (before added : List Entry) (e : Entry) → HasRoom study before → AreEntries (length study.variables.labels) (length study.responses.labels) (before ++ added) →
    IsNextEntry (length study.variables.labels) (length study.responses.labels) (before ++ added) e → length added + 1 ≤ (retries study.interface.rule + 1) * study.limit →
    used (shape_of study) ((before ++ added) ++ e ∷ []) ≤ most_bytes
has_room study before added e room are next few =
    let n = length study.variables.labels in
    let m = length study.responses.labels in
    let all : AreNextEntries n m before (added ++ e ∷ []) = next_append n m before added (e ∷ []) (behind n m [] before added are) (next, tt) in
    let bytes = used_few (shape_of study) before (added ++ e ∷ []) all in
    let same = ap (used (shape_of study)) (append_assoc before added (e ∷ [])) in
    let count : length (added ++ e ∷ []) ≤ (retries study.interface.rule + 1) * study.limit = (let l = length-append added (e ∷ []) in omega (arith, l, few)) in
    let most = mul-le-mul_right (most_record (shape_of study)) count in
    omega (arith, bytes, same, most, room)
