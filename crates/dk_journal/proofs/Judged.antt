-- How the steps of an opening go together.
use Rattle.std.proofs.Common.{◌≡◌, ℕ, suc, ◌+◌, ◌<◌, ◌≤◌, true, List, [], ◌∷◌, ◌++◌, length, Option, Some, None, option_map, IfSome, Result, Ok, Err, IfOk, refl, sym, ◌∙◌, ap, subst, arith, length-append}
use Rattle.std.specs.List.{sum_by}
use Rattle.std.proofs.lemmas.List.Sums.{sum_by-cons}
use Rattle.dk_outside.specs.declared.course.Course.{Course}
use Rattle.dk_outside.specs.declared.course.Standing.{Standing}
use Rattle.dk_outside.specs.Disks.{settled, all_synced}
use Rattle.dk_types.specs.declared.study.Shape.{Shape}
use Rattle.dk_types.specs.declared.entry.Entry.{Entry}
use Rattle.dk_book.specs.Books.{BookState}
use Rattle.dk_book.specs.Told.{StandsFor}
use Rattle.dk_record.specs.Payloads.{payload, header_payload}
use Rattle.dk_record.specs.Files.{IsUnborn, IsBorn, unborn, born, used}
use Rattle.dk_record.proofs.Again.{front_used}
use Rattle.dk_outside.specs.declared.disk.Mode.{Mode}
use Rattle.dk_outside.specs.declared.disk.Mode.TheVariants.{Fresh}
use Rattle.dk_journal.specs.declared.fault.OpenFault.TheVariants.{NotEmpty, TooLarge}
use Rattle.dk_journal.specs.declared.opening.Found.{Found}
use Rattle.dk_journal.specs.Rests.{IsAtRest}
use Rattle.dk_journal.specs.Births.{BeginsTold, IsUnbornAtRest}
use Rattle.dk_journal.specs.Damages.{HasEntries}
use Rattle.dk_journal.specs.Openings.{Refuses, too_large, not_empty, RefusesTold}
use Rattle.dk_journal.specs.Judging.{IsFound}

-- a file that is too large, by the length that its disk told once it was synced
pub too_large_told : (mode : Mode) (shape : Shape) (limit size : ℕ) (old mid new : Option Course) → mid ≡ option_map all_synced old → new ≡ mid →
    IfSome mid (λ course. size ≡ length course.now.bytes) → limit < size → RefusesTold mode shape limit old new (TooLarge size)
too_large_told mode shape limit size None mid new synced told long more = record { refuses = tt; unwritten = told ∙ synced }
too_large_told mode shape limit size (Some course) mid new synced told long more =
    let size_is : size ≡ length course.now.bytes = subst (λ t. IfSome t (λ c. size ≡ length c.now.bytes)) synced long in
    record {
      refuses = subst (λ n. Refuses mode shape limit course.now.bytes (TooLarge n)) (sym size_is) (too_large (omega (arith, size_is, more)));
      unwritten = told ∙ synced;
    }

-- and one that isn't empty
pub not_empty_told : (mode : Mode) (shape : Shape) (limit size : ℕ) (old mid new : Option Course) → mid ≡ option_map all_synced old → new ≡ mid →
    IfSome mid (λ course. size ≡ length course.now.bytes) → mode ≡ Fresh → size ≤ limit → 0 < size → RefusesTold mode shape limit old new (NotEmpty size)
not_empty_told mode shape limit size None mid new synced told long fresh fits some = record { refuses = tt; unwritten = told ∙ synced }
not_empty_told mode shape limit size (Some course) mid new synced told long fresh fits some =
    let size_is : size ≡ length course.now.bytes = subst (λ t. IfSome t (λ c. size ≡ length c.now.bytes)) synced long in
    record {
      refuses = subst (λ n. Refuses mode shape limit course.now.bytes (NotEmpty n)) (sym size_is) (not_empty fresh (omega (arith, size_is, fits)) (omega (arith, size_is, some)));
      unwritten = told ∙ synced;
    }

-- a book without cards stands for no entries
no_cards : (book : BookState) (variables responses cards : ℕ) → book ≡ record { cards = []; variables = variables; responses = responses; spare = cards; room = cards } → StandsFor book []
no_cards book variables responses cards is = subst (λ b. StandsFor b []) (sym is) (record { well_formed = tt; sum_up = record { each = λ p. refl } })

begun_rests : (shape : Shape) (old new : Option Course) (size : ℕ) (header : List ℕ) → IfSome old (λ course. IsUnbornAtRest course size) → header ≡ header_payload shape ++ 0 ∷ [] →
    BeginsTold old new size header true → IfSome new (λ course. IsAtRest shape (length header) [] course.now)
begun_rests shape None new size header rests are begins = subst (λ t. IfSome t (λ course. IsAtRest shape (length header) [] course.now)) (sym begins) tt
begun_rests shape (Some course) new size header rests are begins =
    subst (λ t. IfSome t (λ c. IsAtRest shape (length header) [] c.now)) (sym begins.1) ((begins.2 rests shape are).rests refl)

unborn_rests : (told : Option Course) (bytes : List ℕ) → IsUnborn bytes → IfSome told (λ course. course.now ≡ settled bytes) → IfSome told (λ course. IsUnbornAtRest course (length bytes))
unborn_rests None bytes is rests = tt
unborn_rests (Some course) bytes is rests = record { bytes = bytes; synced = rests; unborn = is; long = refl }

-- a file that was begun
pub found_begun : (shape : Shape) (cards : ℕ) (bytes header : List ℕ) (end : ℕ) (old new : Option Course) (book : BookState) → end ≡ length header → IsUnborn bytes → IfSome old (λ course. course.now ≡ settled bytes) →
    header ≡ header_payload shape ++ 0 ∷ [] → BeginsTold old new (length bytes) header true →
    book ≡ record { cards = []; variables = length shape.variables; responses = length shape.responses; spare = cards; room = cards } → IsFound shape cards bytes new book 0 end
found_begun shape cards bytes header end old new book end_is is rests are begins book_is =
    let long : length header ≡ length (header_payload shape) + 1 = omega (arith, ap length are, length-append (header_payload shape) (0 ∷ [])) in
    record {
      entries = [];
      stands = unborn is;
      rests = subst (λ n. IfSome new (λ course. IsAtRest shape n [] course.now)) (sym end_is) (begun_rests shape old new (length bytes) header (unborn_rests old bytes is rests) are begins);
      count_is = refl;
      place = omega (arith, long, end_is);
      fits = λ limit below room. omega (arith, long, room, end_is);
      few = omega arith;
      stands_for = no_cards book (length shape.variables) (length shape.responses) cards book_is;
      variables = ap (λ (b : BookState). b.variables) book_is;
      responses = ap (λ (b : BookState). b.responses) book_is;
      spare = omega (arith, ap (λ (b : BookState). b.spare) book_is);
      room = omega (arith, ap (λ (b : BookState). b.room) book_is);
    }

-- each record takes a byte at least
few_entries : (entries : List Entry) → length entries ≤ sum_by (λ e. 1 + length (payload e)) entries
few_entries [] = omega arith
few_entries (e ∷ entries) = (let rest = few_entries entries in let sum = sum_by-cons (λ (x : Entry). 1 + length (payload x)) e entries in omega (arith, rest, sum))

born_rests : (shape : Shape) (bytes : List ℕ) (entries : List Entry) (end : ℕ) (told : Option Course) → (b : IsBorn shape bytes entries) → end + 1 ≡ used shape entries →
    IfSome told (λ course. course.now ≡ settled bytes) → IfSome told (λ course. IsAtRest shape end entries course.now)
born_rests shape bytes entries end None b place rests = tt
born_rests shape bytes entries end (Some course) b place rests =
    let same : course.now.bytes ≡ bytes = ap (λ (s : Standing). s.bytes) rests in
    record {
      born = record { front = b.front; rest = b.rest; is_front = b.is_front; split = same ∙ b.split; kept = b.kept };
      ends = omega (arith, front_used shape entries b.front b.is_front, place);
      synced = rests ∙ ap settled (sym same);
    }

-- a file that had entries
pub found_born : (shape : Shape) (cards : ℕ) (bytes : List ℕ) (told : Option Course) (book : BookState) (count end : ℕ) → IfSome told (λ course. course.now ≡ settled bytes) →
    HasEntries shape bytes cards book count end → IsFound shape cards bytes told book count end
found_born shape cards bytes told book count end rests has =
    let b = has.is_born in
    let place = has.ends in
    let front = front_used shape has.entries b.front b.is_front in
    let long : length bytes ≡ length b.front + suc (length b.rest) = ap length b.split ∙ length-append b.front (0 ∷ b.rest) in
    let few = few_entries has.entries in
    let count_is = has.count_is in
    record {
      entries = has.entries;
      stands = born has.entries b;
      rests = born_rests shape bytes has.entries end told b place rests;
      count_is = count_is;
      place = place;
      fits = λ limit below room. omega (arith, place, front, long, below);
      few = omega (arith, place, few, count_is);
      stands_for = has.stands;
      variables = has.variables;
      responses = has.responses;
      spare = has.spare;
      room = has.room;
    }

-- the same of an answer
pub found_ok : {E : Type 0} → (shape : Shape) (cards : ℕ) (bytes : List ℕ) (told : Option Course) (result : Result Found E) → IfSome told (λ course. course.now ≡ settled bytes) →
    IfOk result (λ found. HasEntries shape bytes cards found.book found.count found.end) → IfOk result (λ found. IsFound shape cards bytes told found.book found.count found.end)
found_ok shape cards bytes told (Ok found) rests has = found_born shape cards bytes told found.book found.count found.end rests has
found_ok shape cards bytes told (Err fault) rests has = tt
