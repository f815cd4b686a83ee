-- A text gives just one study, or is refused for just one fault.
use Rattle.std.proofs.Common.{◌≡◌, ◌⊎◌, inl, inr, ℕ, ◌<◌, ◌≤◌, Bool, true, false, List, length, Option, Some, None, [], refl, ap, sym, subst, ◌∙◌, arith, nat_le}
use Rattle.std.specs.Prelude.{IfSome, Result, Ok, Err}
use Rattle.std.proofs.lemmas.Grind.{common_steps}
use Rattle.dk_lex.proofs.Uniqueness.{each_text_lexes}
use Rattle.dk_types.specs.declared.study.Study.{Study}
use Rattle.dk_types.specs.declared.study.Driver.TheVariants.{Direct}
use Rattle.dk_types.specs.Sound.{IsSound}
use Rattle.dk_grammar.specs.Grammar.{tree_of}
use Rattle.dk_reader.specs.declared.document.Document.{Document}
use Rattle.dk_reader.specs.Steps.{study_faults}
use Rattle.dk_reader.specs.Study.{study_of}
use Rattle.dk_reader.proofs.TableEntries.{text_named}
use Rattle.dk_reader.proofs.Sound.{study_is_sound}
use Rattle.dk_reader.specs.declared.fault.StudyFault.{StudyFault}
use Rattle.dk_reader.specs.declared.fault.StudyKind.TheVariants.{TooLong}
use Rattle.dk_reader.specs.Reading.{Reads, HasFault, Says, EachTextSays}
use Rattle.dk_reader.proofs.Says.{each_says}
use Rattle.dk_runner.specs.Accepted.{Accepts, Refused, too_long, faulty, at_beginning}
use Rattle.dk_runner.specs.Headline.{WithoutTable, WithoutDriver}

-- what the reader's definitions say of a text
abbrev Outcome : Type 0
Outcome = Result Study StudyFault

abbrev of_study : Study → Outcome
of_study study = Ok study

abbrev of_fault : StudyFault → Outcome
of_fault fault = Err fault

law : EachTextSays
law = each_says each_text_lexes

one_outcome : (text : List ℕ) (a b : Outcome) → Says text a → Says text b → a ≡ b
one_outcome text a b p q = (law text).2 a p ∙ sym ((law text).2 b q)

one_study : (text : List ℕ) (a b : Study) → Reads text a → Reads text b → a ≡ b
one_study text a b p q = let e : of_study a ≡ of_study b = one_outcome text (Ok a) (Ok b) p q in cc

one_fault : (text : List ℕ) (a b : StudyFault) → HasFault text a → HasFault text b → a ≡ b
one_fault text a b p q = let e : of_fault a ≡ of_fault b = one_outcome text (Err a) (Err b) p q in cc

one_of_both : (text : List ℕ) (study : Study) (fault : StudyFault) → Reads text study → HasFault text fault → ⊥
one_of_both text study fault p q = let e : of_study study ≡ of_fault fault = one_outcome text (Ok study) (Err fault) p q in absurd (cc)

-- a text gives at most one study
pub one_accepted : (text : List ℕ) (a b : Study) → Accepts text a → Accepts text b → a ≡ b
one_accepted text a b p q = one_study text a b p.reads q.reads

-- and isn't refused then
pub not_both : (text : List ℕ) (study : Study) (fault : StudyFault) → Accepts text study → Refused text fault → ⊥
not_both text study _ a (too_long long) = let short = a.short in omega arith
not_both text study _ a (faulty fault short has) = one_of_both text study fault a.reads has

-- a text is refused for at most one fault
pub one_refusal : (text : List ℕ) (a b : StudyFault) → Refused text a → Refused text b → a ≡ b
one_refusal text _ _ (too_long long) (too_long again) = refl
one_refusal text _ _ (too_long long) (faulty fault short has) = absurd (omega arith)
one_refusal text _ _ (faulty fault short has) (too_long long) = absurd (omega arith)
one_refusal text _ _ (faulty fault short has) (faulty other again too) = one_fault text fault other has too

-- a study, or a fault
abbrev pub Decided : List ℕ → Type 0
Decided text = ((study : Study) × Accepts text study) ⊎ ((fault : StudyFault) × Refused text fault)

-- each text gives a study or is refused
pub each_decided : (text : List ℕ) → Decided text
each_decided text = by_length (nat_le (length text) 1048576) refl
  where
    by_outcome : length text ≤ 1048576 → (outcome : Outcome) → Says text outcome → Decided text
    by_outcome short (Ok study) reads = inl (study, record { short = short; reads = reads })
    by_outcome short (Err fault) has = inr (fault, faulty fault short has)

    by_length : (b : Bool) → nat_le (length text) 1048576 ≡ b → Decided text
    by_length true e = by_outcome (grind (arith, common_steps)) (law text).0 (law text).1
    by_length false e = inr (at_beginning TooLong, too_long (grind (arith, common_steps)))

-- a text that is too long is refused so, where the source tells
pub refuses_long : (left : Option (List ℕ)) → IfSome left (λ bytes. 1048576 < length bytes) → IfSome left (λ text. Refused text (at_beginning TooLong))
refuses_long None h = tt
refuses_long (Some text) h = too_long h

-- a table that stays as it is where its study asks for none stays so where the text says such a study
pub without_table : {untouched : Type 0} (left : Option (List ℕ)) (study : Study) → IfSome left (λ text. Accepts text study) → (study.table ≡ None → untouched) →
    IfSome left (λ text. WithoutTable text untouched)
without_table None study accepts leaves = tt
without_table (Some text) study accepts leaves = λ other reads none.
    leaves (ap (λ (s : Study). s.table) (one_study text study other accepts.reads reads) ∙ none)

-- a table that stays as it is in any case stays so
pub untouched_table : {untouched : Type 0} (left : Option (List ℕ)) → untouched → IfSome left (λ text. WithoutTable text untouched)
untouched_table None is = tt
untouched_table (Some text) is = λ study reads none. is

-- benches that stay as they are without a driver stay so where the text says such a study
pub without_driver : {untouched : Type 0} (left : Option (List ℕ)) (study : Study) → IfSome left (λ text. Accepts text study) → (study.interface.driver ≡ Direct → untouched) →
    IfSome left (λ text. WithoutDriver text untouched)
without_driver None study accepts leaves = tt
without_driver (Some text) study accepts leaves = λ other takes direct.
    leaves (ap (λ (s : Study). s.interface.driver) (one_study text study other accepts.reads takes.reads) ∙ direct)

-- benches that stay as they are in any case stay so
pub untouched_benches : {untouched : Type 0} (left : Option (List ℕ)) → untouched → IfSome left (λ text. WithoutDriver text untouched)
untouched_benches None is = tt
untouched_benches (Some text) is = λ study accepts direct. is

-- what stays without a driver stays in what follows from it
pub benches_without : {first all : Type 0} (left : Option (List ℕ)) → (first → all) → IfSome left (λ text. WithoutDriver text first) → IfSome left (λ text. WithoutDriver text all)
benches_without None f is = tt
benches_without (Some text) f is = λ study accepts direct. f (is study accepts direct)

-- a study that a text says is sound
pub reads_sound : (text : List ℕ) (study : Study) → Reads text study → IsSound study
reads_sound text study reads =
    let tree = tree_of text reads.has.tokens in
    subst IsSound (sym (reads.study_is ∙ ap study_of reads.has.says))
    (study_is_sound text tree (text_named text reads.has.tokens) (subst (λ (d : Document). study_faults d ≡ []) reads.has.says reads.faultless))
