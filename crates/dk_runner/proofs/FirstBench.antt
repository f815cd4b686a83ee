-- A run over its benches is one over the first of them.
use Rattle.std.proofs.Common.{◌≡◌, ℕ, List, [], ◌∷◌, Option, sym, ap, ◌∙◌, subst}
use Rattle.std.specs.Prelude.{drop}
use Rattle.std.specs.List.{All}
use Rattle.std.proofs.lemmas.List.Elements.{All-head, All-nil, All-cons}
use Rattle.dk_outside.specs.declared.course.Course.{Course}
use Rattle.dk_outside.specs.declared.disk.Mode.{Mode}
use Rattle.dk_outside.specs.Benches.{Contents}
use Rattle.dk_book.specs.Books.{BookState}
use Rattle.dk_runner.specs.Outsides.{outside_of, AllGoTogether, AreAfter}

pub outside_first : {K B : Type 0} (told : K → Option Course) (disk_faults : K → ℕ) (held : B → Option Contents) (bench_faults : B → ℕ) (mode : Mode) (old new : K) (book : Option BookState) (olds news : List B) (first last : B) (rest : List B) →
    olds ≡ first ∷ rest → news ≡ last ∷ rest →
    outside_of told disk_faults held bench_faults mode old new book (first ∷ []) (last ∷ []) ≡ outside_of told disk_faults held bench_faults mode old new book olds news
outside_first told disk_faults held bench_faults mode old new book olds news first last rest from to =
    sym (ap (λ l. outside_of told disk_faults held bench_faults mode old new book l news) from ∙ ap (λ l. outside_of told disk_faults held bench_faults mode old new book (first ∷ rest) l) to)

-- the names go together on the first
pub first_together : {B : Type 0} (together : B → List ℕ → List ℕ → Type 0) (olds : List B) (first : B) (rest : List B) → olds ≡ first ∷ rest → All (λ bench. AllGoTogether (together bench)) olds → AllGoTogether (together first)
first_together together olds first rest from all =
    All-head (λ bench. AllGoTogether (together bench)) first rest (subst (All (λ bench. AllGoTogether (together bench))) from all)

pub others_stay : {B : Type 0} (olds news : List B) (first last : B) (rest : List B) → olds ≡ first ∷ rest → news ≡ last ∷ rest → drop 1 news ≡ drop 1 olds
others_stay olds news first last rest from to = ap (drop 1) to ∙ sym (ap (drop 1) from)

pub first_stays : {B : Type 0} (olds news : List B) (first last : B) (rest : List B) → olds ≡ first ∷ rest → news ≡ last ∷ rest → last ≡ first → news ≡ olds
first_stays olds news first last rest from to same = to ∙ ap (λ b. b ∷ rest) same ∙ sym from

pub each_after : {B : Type 0} (after : B → B → Type 0) (itself : (b : B) → after b b) (rest : List B) → AreAfter after rest rest
each_after after itself [] = tt
each_after after itself (b ∷ rest) = (itself b, each_after after itself rest)

pub are_after : {B : Type 0} (after : B → B → Type 0) (itself : (b : B) → after b b) (olds news : List B) (first last : B) (rest : List B) → olds ≡ first ∷ rest → news ≡ last ∷ rest → after first last → AreAfter after olds news
are_after after itself olds news first last rest from to is =
    subst (λ l. AreAfter after l news) (sym from) (subst (AreAfter after (first ∷ rest)) (sym to) (is, each_after after itself rest))

-- benches on which any names go together
pub all_together : {B : Type 0} (together : B → List ℕ → List ℕ → Type 0) (benches : List B) → ((bench : B) → AllGoTogether (together bench)) → All (λ bench. AllGoTogether (together bench)) benches
all_together together [] each = All-nil (λ bench. AllGoTogether (together bench))
all_together together (bench ∷ benches) each = All-cons (λ b. AllGoTogether (together b)) bench benches (each bench) (all_together together benches each)
