use Rattle.std.proofs.Common.{◌≡◌, ℕ, List, [], ◌∷◌, length, Some, refl, sym, ◌∙◌, ap, subst, rules, tests}
use Rattle.dk_num.specs.Decimal.{Decimal}
use Rattle.dk_outside.specs.declared.course.Course.{Course}
use Rattle.dk_outside.specs.declared.disk.Mode.{Mode}
use Rattle.dk_types.specs.declared.study.Shape.{Shape}
use Rattle.dk_types.specs.declared.entry.Said.TheVariants.{Values}
use Rattle.dk_types.specs.Entries.{next_attempt}
use Rattle.dk_book.specs.Books.{BookState}
use Rattle.dk_record.specs.Files.{IsUnborn, Stands, unborn}
use Rattle.dk_record.proofs.Once.{stands_same}
use Rattle.dk_memory.specs.DiskStates.{disk_state}
use Rattle.dk_journal.specs.Journals.{JournalState, IsReadyFor}
use Rattle.dk_journal.specs.Openings.{Opens}
use Rattle.dk_journal.proofs.tests.try_append.Goals as goal

-- the first attempt comes next in a file in which no entry was ever kept
ready_first : (mode : Mode) (shape : Shape) (limit cards : ℕ) (course : Course) (journal : JournalState) (book : BookState) (bytes : List ℕ) (a b v : Decimal) → Opens mode shape limit cards (Some course) journal book →
    course.now.bytes ≡ bytes → IsUnborn bytes → length shape.variables ≡ 2 → length shape.responses ≡ 1 → IsReadyFor journal (record { point = a ∷ b ∷ []; attempt = 1; said = Values (v ∷ []) })
ready_first mode shape limit cards course journal book bytes a b v opens same is two one =
    let none : [] ≡ opens.entries = stands_same shape bytes [] opens.entries (unborn is) (subst (λ c. Stands shape c opens.entries) same opens.stood.stands) in
    record {
      entries = opens.entries;
      holds = opens.holds;
      next = record {
        point = sym two ∙ ap (λ (s : Shape). length s.variables) (sym opens.shape_is);
        values = sym one ∙ ap (λ (s : Shape). length s.responses) (sym opens.shape_is);
        next = subst (λ l. next_attempt l (a ∷ b ∷ []) ≡ Some 1) none refl;
      };
    }

pub append-requires : goal.append-requires
append-requires c =
    let stored = c.in-Some.stored in
    let widths = c.labels.ensures in
    record {
      ready = ready_first _ stored.shape c.args.limit 2 (disk_state c.in_ok-disk.disk).course c.in-Ok.opened.journal c.in-Ok.opened.book c.args.bytes.now c.whole.result c.whole-2.result c.whole-3.result
          c.in-Ok.ensures.opened (ap (λ s. s.course.now.bytes) c.in_ok-disk.ensures) (search (rules, tests)) (search rules) (search rules);
    }
