-- What was written is read again, what unborn files stand for, and where the end gate stands.
use Rattle.std.proofs.Common.{◌≡◌, ℕ, ◌+◌, List, [], ◌∷◌, ◌++◌, length, Option, Some, None, refl, sym, ◌∙◌, ap, arith, length-append}
use Rattle.std.specs.List.{sum_by}
use Rattle.std.proofs.lemmas.List.Sums.{sum_by-cons}
use Rattle.dk_num.specs.Decimal.{Decimal}
use Rattle.dk_types.specs.declared.study.Shape.{Shape}
use Rattle.dk_types.specs.declared.entry.Entry.{Entry}
use Rattle.dk_record.specs.declared.headers.StoredShape.{StoredShape}
use Rattle.dk_record.specs.declared.record.Decoded.{Decoded}
use Rattle.dk_record.specs.Payloads.{payload, header_payload, IsShape, IsStored}
use Rattle.dk_record.specs.Readings.{ReadsHeader, ReadsRecord, said_by}
use Rattle.dk_record.specs.Files.{IsUnborn, AreRecords, none, more, IsFront, Stands, unborn, used}
use Rattle.dk_record.specs.Laws.{Tells, UnbornFilesStandForNone}
use Rattle.dk_record.proofs.Once.{payload_same, stands_same}
use Rattle.dk_record.proofs.Shapes.{header_same}

stored_is : (stored : StoredShape) (shape : Shape) (size : ℕ) → stored.shape ≡ shape → stored.length ≡ size → Some stored ≡ Some (record { shape = shape; length = size })
stored_is stored shape size e f = λ i. Some (record { shape = e i; length = f i })

pub header_again : (shape : Shape) (rest : List ℕ) (answer : Option StoredShape) → IsShape shape →
    ReadsHeader (header_payload shape ++ rest) answer → answer ≡ Some (record { shape = shape; length = length (header_payload shape) })
header_again shape rest None is reads = absurd (reads shape rest (record { is_one = is; split = refl }))
header_again shape rest (Some stored) is reads =
    let same = header_same shape stored.shape rest reads.rest is reads.begins.is_one reads.begins.split in
    stored_is stored shape (length (header_payload shape)) (sym same.0) (reads.size_is ∙ ap (λ (s : Shape). length (header_payload s)) (sym same.0))

pub record_again : (variables responses : ℕ) (e : Entry) (rest : List ℕ) (point values : List Decimal) (answer : Option Decoded) →
    IsStored variables responses e → ReadsRecord variables responses (payload e ++ rest) point values answer → Tells e point values answer
record_again variables responses e rest point values None is reads = absurd (reads e rest (record { is_one = is; split = refl }))
record_again variables responses e rest point values (Some decoded) is reads =
    let told : Entry = record { point = point; attempt = decoded.attempt; said = said_by decoded.values values } in
    let same = payload_same variables responses e told rest reads.rest is reads.begins.is_one reads.begins.split in
    record { decoded = decoded; is_some = refl; entry = sym same.0; size = reads.size_is ∙ ap (λ (x : Entry). length (payload x)) (sym same.0) }

pub closed_unborn : (rest : List ℕ) → IsUnborn (0 ∷ rest)
closed_unborn [] = tt
closed_unborn (byte ∷ bytes) = refl

pub unborn_files : UnbornFilesStandForNone
unborn_files shape =
    let one : (byte : ℕ) → Stands shape (byte ∷ []) [] = λ byte. unborn tt in
    let closed : (rest : List ℕ) → Stands shape (0 ∷ rest) [] = λ rest. unborn (closed_unborn rest) in
    (unborn tt, one, closed, (λ byte entries s. stands_same shape (byte ∷ []) entries [] s (one byte)), (λ rest entries s. stands_same shape (0 ∷ rest) entries [] s (closed rest)))

pub length-records : (entries : List Entry) (bytes : List ℕ) → AreRecords entries bytes → length bytes ≡ sum_by (λ e. 1 + length (payload e)) entries
length-records [] bytes none = refl
length-records (e ∷ entries) bytes (more gate _ _ behind is_open records) =
    omega (arith, length-append (payload e) behind, length-records entries behind records, sum_by-cons (λ (x : Entry). 1 + length (payload x)) e entries)

pub front_used : (shape : Shape) (entries : List Entry) (front : List ℕ) → IsFront shape entries front → length front + 1 ≡ used shape entries
front_used shape entries front f =
    omega (arith, ap length f.split, length-append (header_payload shape) f.records, length-records entries f.records f.are_records)
