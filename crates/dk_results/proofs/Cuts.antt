-- What stands at the front of a text, and its pieces.
use Rattle.std.proofs.Common.{◌≡◌, ℕ, suc, ◌+◌, Bool, true, false, not, List, [], ◌∷◌, ◌++◌, drop, refl, sym, ap, ◌∙◌, arith}
use Rattle.std.specs.List.{filter, flat_map, take_while, prefix_len}
use Rattle.std.proofs.lemmas.Grind.{common_steps}
use Rattle.std.proofs.lemmas.Bool.Decides.{nat_tests}
use Rattle.dk_results.specs.Pieces.{is_space, is_line_feed, begins_comment, onto, parts_between, without_comment, has_bytes, pieces_of_line, pieces}
use Rattle.dk_results.specs.Fronts.{is_piece_byte, is_in_line}

-- a byte before a comment
abbrev pub is_before_comment : ℕ → Bool
is_before_comment b = not (begins_comment b)

-- Which bytes are which

space_no_comment : (b : ℕ) → is_space b ≡ true → is_before_comment b ≡ true
space_no_comment b e = grind (arith, nat_tests, common_steps)

pub comment_no_space : (b : ℕ) → begins_comment b ≡ true → is_space b ≡ false
comment_no_space b e = grind (arith, nat_tests, common_steps)

feed_is_space : (b : ℕ) → is_line_feed b ≡ true → is_space b ≡ true
feed_is_space b e = grind (arith, nat_tests, common_steps)

comment_in_line : (b : ℕ) → begins_comment b ≡ true → is_line_feed b ≡ false
comment_in_line b e = grind (arith, nat_tests, common_steps)

no_space_in_line : (b : ℕ) → is_space b ≡ false → is_line_feed b ≡ false
no_space_in_line b e = grind (arith, nat_tests, common_steps)

piece_no_space : (b : ℕ) → is_piece_byte b ≡ true → is_space b ≡ false
piece_no_space b e = grind (arith, nat_tests, common_steps)

piece_before_comment : (b : ℕ) → is_piece_byte b ≡ true → is_before_comment b ≡ true
piece_before_comment b e = grind (arith, nat_tests, common_steps)

-- Fronts of lists

pub while_more : (p : ℕ → Bool) (b : ℕ) (bs : List ℕ) → p b ≡ true → take_while p (b ∷ bs) ≡ b ∷ take_while p bs
while_more p b bs e = let one : 1 + prefix_len p bs ≡ suc (prefix_len p bs) = omega arith in rw (e, one) refl

pub while_none : (p : ℕ → Bool) (b : ℕ) (bs : List ℕ) → p b ≡ false → take_while p (b ∷ bs) ≡ []
while_none p b bs e = rw e refl

pub behind_more : (p : ℕ → Bool) (b : ℕ) (bs : List ℕ) → p b ≡ true → drop (prefix_len p (b ∷ bs)) (b ∷ bs) ≡ drop (prefix_len p bs) bs
behind_more p b bs e = let one : 1 + prefix_len p bs ≡ suc (prefix_len p bs) = omega arith in rw (e, one) refl

pub behind_none : (p : ℕ → Bool) (b : ℕ) (bs : List ℕ) → p b ≡ false → drop (prefix_len p (b ∷ bs)) (b ∷ bs) ≡ b ∷ bs
behind_none p b bs e = rw e refl

-- Parts

part_ends : (ends : ℕ → Bool) (b : ℕ) (bs : List ℕ) → ends b ≡ true → parts_between ends (b ∷ bs) ≡ [] ∷ parts_between ends bs
part_ends ends b bs e = rw e refl

part_grows : (ends : ℕ → Bool) (b : ℕ) (bs : List ℕ) → ends b ≡ false → parts_between ends (b ∷ bs) ≡ onto b (parts_between ends bs)
part_grows ends b bs e = rw e refl

-- there is a first part
record HasParts (parts : List (List ℕ)) : Type 0 where
  first : List ℕ
  others : List (List ℕ)
  are : parts ≡ first ∷ others

onto_parts : (b : ℕ) (parts : List (List ℕ)) → HasParts parts → HasParts (onto b parts)
onto_parts b parts h = record { first = b ∷ h.first; others = h.others; are = ap (onto b) h.are }

has_parts : (ends : ℕ → Bool) (bs : List ℕ) → HasParts (parts_between ends bs)
has_parts ends [] = record { first = []; others = []; are = refl }
has_parts ends (b ∷ bs) = by (ends b) refl (has_parts ends bs)
  where
    by : (t : Bool) → ends b ≡ t → HasParts (parts_between ends bs) → HasParts (parts_between ends (b ∷ bs))
    by true e h = record { first = []; others = parts_between ends bs; are = part_ends ends b bs e }
    by false e h = let k = onto_parts b (parts_between ends bs) h in record { first = k.first; others = k.others; are = part_grows ends b bs e ∙ k.are }

-- Pieces of a line

line_space : (b : ℕ) (line : List ℕ) → is_space b ≡ true → pieces_of_line (b ∷ line) ≡ pieces_of_line line
line_space b line e =
    ap (λ w. filter has_bytes (parts_between is_space w)) (while_more is_before_comment b line (space_no_comment b e))
    ∙ ap (filter has_bytes) (part_ends is_space b (without_comment line) e)

line_comment : (b : ℕ) (line : List ℕ) → is_before_comment b ≡ false → pieces_of_line (b ∷ line) ≡ []
line_comment b line e = ap (λ w. filter has_bytes (parts_between is_space w)) (while_none is_before_comment b line e)

line_byte : (b : ℕ) (line : List ℕ) → is_piece_byte b ≡ true → pieces_of_line (b ∷ line) ≡ filter has_bytes (onto b (parts_between is_space (without_comment line)))
line_byte b line e =
    ap (λ w. filter has_bytes (parts_between is_space w)) (while_more is_before_comment b line (piece_before_comment b e))
    ∙ ap (filter has_bytes) (part_grows is_space b (without_comment line) (piece_no_space b e))

-- Pieces of a text

-- the pieces of some lines
abbrev pieces_of : List (List ℕ) → List (List ℕ)
pieces_of lines = flat_map pieces_of_line lines

pub none_in_none : pieces [] ≡ []
unfolding pieces
none_in_none = refl

-- the lines of a text with a byte more, and its pieces
grown : (b : ℕ) (bs : List ℕ) → is_line_feed b ≡ false → (h : HasParts (parts_between is_line_feed bs)) → pieces (b ∷ bs) ≡ pieces_of_line (b ∷ h.first) ++ pieces_of h.others
unfolding pieces
grown b bs e h = ap pieces_of (part_grows is_line_feed b bs e ∙ ap (onto b) h.are)

as_lines : (bs : List ℕ) → (h : HasParts (parts_between is_line_feed bs)) → pieces bs ≡ pieces_of_line h.first ++ pieces_of h.others
unfolding pieces
as_lines bs h = ap pieces_of h.are

all_lines : (bs : List ℕ) → pieces bs ≡ pieces_of (parts_between is_line_feed bs)
unfolding pieces
all_lines bs = refl

next_line : (b : ℕ) (bs : List ℕ) → is_line_feed b ≡ true → pieces (b ∷ bs) ≡ pieces bs
unfolding pieces
next_line b bs e = ap pieces_of (part_ends is_line_feed b bs e)

-- white space at the front
pub space_first : (b : ℕ) (bs : List ℕ) → is_space b ≡ true → pieces (b ∷ bs) ≡ pieces bs
space_first b bs e = by (is_line_feed b) refl
  where
    by : (t : Bool) → is_line_feed b ≡ t → pieces (b ∷ bs) ≡ pieces bs
    by true f = next_line b bs f
    by false f = let h = has_parts is_line_feed bs in grown b bs f h ∙ ap (λ l. l ++ pieces_of h.others) (line_space b h.first e) ∙ sym (as_lines bs h)

pub spaces_first : (bs : List ℕ) → pieces (drop (prefix_len is_space bs) bs) ≡ pieces bs
spaces_first [] = refl
spaces_first (b ∷ bs) = by (spaces_first bs) (is_space b) refl
  where
    by : pieces (drop (prefix_len is_space bs) bs) ≡ pieces bs → (t : Bool) → is_space b ≡ t → pieces (drop (prefix_len is_space (b ∷ bs)) (b ∷ bs)) ≡ pieces (b ∷ bs)
    by again true e = ap pieces (behind_more is_space b bs e) ∙ again ∙ sym (space_first b bs e)
    by again false e = ap pieces (behind_none is_space b bs e)

-- the lines behind the first
abbrev later : List (List ℕ) → List (List ℕ)
later [] = []
later (line ∷ lines) = lines

later_onto : (b : ℕ) (lines : List (List ℕ)) → HasParts lines → later (onto b lines) ≡ later lines
later_onto b [] h = refl
later_onto b (line ∷ lines) h = refl

-- what follows the first line has the pieces of the others
behind_line : (bs : List ℕ) → pieces (drop (prefix_len is_in_line bs) bs) ≡ pieces_of (later (parts_between is_line_feed bs))
behind_line [] = none_in_none
behind_line (b ∷ bs) = by (behind_line bs) (is_line_feed b) refl
  where
    by : pieces (drop (prefix_len is_in_line bs) bs) ≡ pieces_of (later (parts_between is_line_feed bs)) → (t : Bool) → is_line_feed b ≡ t →
        pieces (drop (prefix_len is_in_line (b ∷ bs)) (b ∷ bs)) ≡ pieces_of (later (parts_between is_line_feed (b ∷ bs)))
    by again true e = ap pieces (behind_none is_in_line b bs (ap not e)) ∙ next_line b bs e ∙ all_lines bs ∙ ap (λ l. pieces_of (later l)) (sym (part_ends is_line_feed b bs e))
    by again false e =
        ap pieces (behind_more is_in_line b bs (ap not e)) ∙ again
        ∙ sym (ap pieces_of (later_onto b (parts_between is_line_feed bs) (has_parts is_line_feed bs)))
        ∙ ap (λ l. pieces_of (later l)) (sym (part_grows is_line_feed b bs e))

-- a comment at the front
pub comment_first : (b : ℕ) (bs : List ℕ) → begins_comment b ≡ true → pieces (drop (prefix_len is_in_line (b ∷ bs)) (b ∷ bs)) ≡ pieces (b ∷ bs)
comment_first b bs e =
    let h = has_parts is_line_feed bs in
    let f = comment_in_line b e in
    ap pieces (behind_more is_in_line b bs (ap not f)) ∙ behind_line bs ∙ ap (λ l. pieces_of (later l)) h.are
    ∙ sym (grown b bs f h ∙ ap (λ l. l ++ pieces_of h.others) (line_comment b h.first (ap not e)))

-- A piece at the front

-- it ends before white space and comments
line_single : (b c : ℕ) (line : List ℕ) → is_piece_byte b ≡ true → is_piece_byte c ≡ false → pieces_of_line (b ∷ c ∷ line) ≡ (b ∷ []) ∷ pieces_of_line (c ∷ line)
line_single b c line e f = line_byte b (c ∷ line) e ∙ by (is_space c) refl
  where
    by : (t : Bool) → is_space c ≡ t → filter has_bytes (onto b (parts_between is_space (without_comment (c ∷ line)))) ≡ (b ∷ []) ∷ pieces_of_line (c ∷ line)
    by true s =
        ap (λ w. filter has_bytes (onto b (parts_between is_space w))) (while_more is_before_comment c line (space_no_comment c s))
        ∙ ap (λ l. filter has_bytes (onto b l)) (part_ends is_space c (without_comment line) s)
        ∙ ap (λ l. (b ∷ []) ∷ l) (sym (line_space c line s))
    by false s =
        let k : is_before_comment c ≡ false = grind (arith, nat_tests, common_steps) in
        ap (λ w. filter has_bytes (onto b (parts_between is_space w))) (while_none is_before_comment c line k)
        ∙ ap (λ l. (b ∷ []) ∷ l) (sym (line_comment c line k))

-- and else goes on
record GoesOn (b c : ℕ) (line : List ℕ) : Type 0 where
  front : List ℕ
  others : List (List ℕ)
  one : pieces_of_line (c ∷ line) ≡ (c ∷ front) ∷ others
  more : pieces_of_line (b ∷ c ∷ line) ≡ (b ∷ c ∷ front) ∷ others

line_goes_on : (b c : ℕ) (line : List ℕ) → is_piece_byte b ≡ true → is_piece_byte c ≡ true → GoesOn b c line
line_goes_on b c line e f =
    let h = has_parts is_space (without_comment line) in
    record {
      front = h.first;
      others = filter has_bytes h.others;
      one = line_byte c line f ∙ ap (λ l. filter has_bytes (onto c l)) h.are;
      more = line_byte b (c ∷ line) e
          ∙ ap (λ w. filter has_bytes (onto b (parts_between is_space w))) (while_more is_before_comment c line (piece_before_comment c f))
          ∙ ap (λ l. filter has_bytes (onto b l)) (part_grows is_space c (without_comment line) (piece_no_space c f))
          ∙ ap (λ l. filter has_bytes (onto b (onto c l))) h.are;
    }

-- the lines of a text whose first byte is in a line
more_parts : (c : ℕ) (cs : List ℕ) → is_line_feed c ≡ false → (h : HasParts (parts_between is_line_feed cs)) → parts_between is_line_feed (c ∷ cs) ≡ (c ∷ h.first) ∷ h.others
more_parts c cs f h = part_grows is_line_feed c cs f ∙ ap (onto c) h.are

abbrev parts_are : (bs : List ℕ) (first : List ℕ) (others : List (List ℕ)) → parts_between is_line_feed bs ≡ first ∷ others → HasParts (parts_between is_line_feed bs)
parts_are bs first others e = record { first = first; others = others; are = e }

single_end : (b : ℕ) → is_piece_byte b ≡ true → pieces (b ∷ []) ≡ (b ∷ []) ∷ pieces []
single_end b e = grown b [] (no_space_in_line b (piece_no_space b e)) (parts_are [] [] [] refl) ∙ ap (λ l. l ++ []) (line_byte b [] e) ∙ ap (λ l. (b ∷ []) ∷ l) (sym none_in_none)

single : (b c : ℕ) (cs : List ℕ) → is_piece_byte b ≡ true → is_piece_byte c ≡ false → pieces (b ∷ c ∷ cs) ≡ (b ∷ []) ∷ pieces (c ∷ cs)
single b c cs e f = by (is_line_feed c) refl
  where
    in_line : is_line_feed b ≡ false
    in_line = no_space_in_line b (piece_no_space b e)

    by : (t : Bool) → is_line_feed c ≡ t → pieces (b ∷ c ∷ cs) ≡ (b ∷ []) ∷ pieces (c ∷ cs)
    by true g =
        grown b (c ∷ cs) in_line (parts_are (c ∷ cs) [] (parts_between is_line_feed cs) (part_ends is_line_feed c cs g))
        ∙ ap (λ l. l ++ pieces_of (parts_between is_line_feed cs)) (line_byte b [] e)
        ∙ ap (λ l. (b ∷ []) ∷ l) (sym (next_line c cs g ∙ all_lines cs))
    by false g =
        let h = has_parts is_line_feed cs in
        let k = parts_are (c ∷ cs) (c ∷ h.first) h.others (more_parts c cs g h) in
        grown b (c ∷ cs) in_line k
        ∙ ap (λ l. l ++ pieces_of h.others) (line_single b c h.first e f)
        ∙ ap (λ l. (b ∷ []) ∷ l) (sym (as_lines (c ∷ cs) k))

joined : (b c : ℕ) (cs : List ℕ) → is_piece_byte b ≡ true → is_piece_byte c ≡ true → pieces (b ∷ c ∷ cs) ≡ onto b (pieces (c ∷ cs))
joined b c cs e f =
    let h = has_parts is_line_feed cs in
    let k = parts_are (c ∷ cs) (c ∷ h.first) h.others (more_parts c cs (no_space_in_line c (piece_no_space c f)) h) in
    let g = line_goes_on b c h.first e f in
    grown b (c ∷ cs) (no_space_in_line b (piece_no_space b e)) k
    ∙ ap (λ l. l ++ pieces_of h.others) g.more
    ∙ ap (λ l. onto b (l ++ pieces_of h.others)) (sym g.one)
    ∙ ap (onto b) (sym (as_lines (c ∷ cs) k))

piece_first : (bs : List ℕ) (b : ℕ) → is_piece_byte b ≡ true → pieces (b ∷ bs) ≡ (b ∷ take_while is_piece_byte bs) ∷ pieces (drop (prefix_len is_piece_byte bs) bs)
piece_first [] b e = single_end b e
piece_first (c ∷ cs) b e = by (piece_first cs c) (is_piece_byte c) refl
  where
    by : (is_piece_byte c ≡ true → pieces (c ∷ cs) ≡ (c ∷ take_while is_piece_byte cs) ∷ pieces (drop (prefix_len is_piece_byte cs) cs)) → (t : Bool) → is_piece_byte c ≡ t →
        pieces (b ∷ c ∷ cs) ≡ (b ∷ take_while is_piece_byte (c ∷ cs)) ∷ pieces (drop (prefix_len is_piece_byte (c ∷ cs)) (c ∷ cs))
    by again true f =
        joined b c cs e f ∙ ap (onto b) (again f)
        ∙ ap (λ l. (b ∷ l) ∷ pieces (drop (prefix_len is_piece_byte cs) cs)) (sym (while_more is_piece_byte c cs f))
        ∙ ap (λ l. (b ∷ take_while is_piece_byte (c ∷ cs)) ∷ pieces l) (sym (behind_more is_piece_byte c cs f))
    by again false f =
        single b c cs e f
        ∙ ap (λ l. (b ∷ l) ∷ pieces (c ∷ cs)) (sym (while_none is_piece_byte c cs f))
        ∙ ap (λ l. (b ∷ take_while is_piece_byte (c ∷ cs)) ∷ pieces l) (sym (behind_none is_piece_byte c cs f))

-- the piece at the front is the run of its bytes
pub piece_at : (b : ℕ) (bs : List ℕ) → is_piece_byte b ≡ true → pieces (b ∷ bs) ≡ take_while is_piece_byte (b ∷ bs) ∷ pieces (drop (prefix_len is_piece_byte (b ∷ bs)) (b ∷ bs))
piece_at b bs e =
    piece_first bs b e
    ∙ ap (λ l. l ∷ pieces (drop (prefix_len is_piece_byte bs) bs)) (sym (while_more is_piece_byte b bs e))
    ∙ ap (λ l. take_while is_piece_byte (b ∷ bs) ∷ pieces l) (sym (behind_more is_piece_byte b bs e))
