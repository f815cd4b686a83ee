-- The words of the command line, one piece further.
use Rattle.std.proofs.Common.{◌≡◌, ℕ, zero, suc, ◌+◌, ◌<◌, ◌≤◌, Bool, true, false, not, List, [], ◌∷◌, ◌++◌, length, drop, get_or, refl, sym, ap, ◌∙◌, subst, arith, append_assoc, append-nil, rules}
use Rattle.std.specs.Prelude.{Option, Some, None, IfSome, is_some, is_none, option_and_then, ◌||◌, if◌then◌else◌}
use Rattle.std.specs.List.{flat_map, slice_get}
use Rattle.std.specs.Option.{option_map, option_map_or, option_or}
use Rattle.std.proofs.Math.Seq.{drop-cons}
use Rattle.std.proofs.lemmas.List.{drop_all}
use Rattle.std.proofs.lemmas.List.Folds.{find-append}
use Rattle.std.proofs.lemmas.Option.{slice_get_within, slice_get-get_or, get_or_from_slice_get}
use Rattle.dk_words.specs.Lists.{first, when, IsFirst, Place, places, places_after}
use Rattle.dk_words.proofs.Firsts.{some_first, first_of_front}
use Rattle.dk_words.specs.Words.{is_file, option_of, takes_file, same_option, needs_file, Piece, piece, pieces_from, pieces, is_of, piece_of, stands, is_stray, is_second, is_other_restart, is_checked_restart, is_cut_off, has_no_file, piece_faults, place_of, file_of, faults, commanded, command_of, HasFault}
use Rattle.dk_words.specs.Sorting.{place_in, with_place, is_barred, words_of, extent, HasFile, IsSorted, file_at, AreOptions}
use Rattle.dk_words.specs.declared.words.OptionName.{OptionName}
use Rattle.dk_words.specs.declared.words.OptionName.TheVariants.{Input, ReadRestart, WriteRestart, Check}
use Rattle.dk_words.specs.declared.words.Found.{Found}
use Rattle.dk_words.specs.declared.words.Options.{Options}

drop_at : {X : Type 0} (xs : List X) (i : ℕ) (x : X) → slice_get xs i ≡ Some x → drop i xs ≡ x ∷ drop (i + 1) xs
drop_at xs i x e =
    let within : i < length xs = slice_get_within xs i x e in
    let at : get_or xs i x ≡ x = get_or_from_slice_get xs i x x e in
    let one : i + 1 ≡ suc i = omega arith in
    rw one (drop-cons xs i x within ∙ ap (λ y. y ∷ drop (suc i) xs) at)

past : {X : Type 0} (xs : List X) (i : ℕ) → slice_get xs i ≡ None → length xs ≤ i
past [] i e = omega arith
past (x ∷ xs) zero e = absurd (cc)
past (x ∷ xs) (suc i) e = let h : length xs ≤ i = past xs i e in omega arith

none_of : {X Y : Type 0} (f : X → Y) (o : Option X) → option_map f o ≡ None → o ≡ None
none_of f None e = refl
none_of f (Some x) e = absurd (cc)

or_nothing : {X : Type 0} (o : Option X) → option_or o None ≡ o
or_nothing None = refl
or_nothing (Some x) = refl

is_there : {X : Type 0} (xs : List X) (i : ℕ) (d : X) → i < length xs → is_some (slice_get xs i) ≡ true
is_there xs i d h = ap is_some (slice_get-get_or xs i d h)

is_within : {X : Type 0} (xs : List X) (i : ℕ) → is_some (slice_get xs i) ≡ true → i < length xs
is_within xs i h = by (slice_get xs i) refl h
  where
    by : (o : Option _) → slice_get xs i ≡ o → is_some o ≡ true → i < length xs
    by None e t = absurd (cc)
    by (Some x) e t = slice_get_within xs i x e

-- a word behind which no FILE stands is a piece of its own
plain_piece : (at : ℕ) (word : List ℕ) (words : List (List ℕ)) → needs_file word ≡ false → pieces_from at (word ∷ words) ≡ piece at word None ∷ pieces_from (at + 1) words
plain_piece at word [] e = refl
plain_piece at word (next ∷ words) e = rw e refl

file_piece : (at : ℕ) (word next : List ℕ) (words : List (List ℕ)) → needs_file word ≡ true → pieces_from at (word ∷ (next ∷ words)) ≡ piece at word (Some next) ∷ pieces_from (at + 2) words
file_piece at word next words e = rw e refl

few_words : (count : ℕ) (o : Option ℕ) → words_of count o ≤ count
few_words count None = omega arith
few_words count (Some at) = omega arith

-- whether a FILE stands behind it or not
head_piece : (at : ℕ) (word : List ℕ) (words : List (List ℕ)) → (file : Option (List ℕ)) × (rest : List Piece) × (pieces_from at (word ∷ words) ≡ piece at word file ∷ rest)
head_piece at word [] = (None, [], refl)
head_piece at word (next ∷ words) = by (needs_file word) refl
  where
    by : (b : Bool) → needs_file word ≡ b → (file : Option (List ℕ)) × (rest : List Piece) × (pieces_from at (word ∷ (next ∷ words)) ≡ piece at word file ∷ rest)
    by true e = (Some next, pieces_from (at + 2) words, rw e refl)
    by false e = (None, pieces_from (at + 1) (next ∷ words), rw e refl)

none_is : {X : Type 0} (o : Option X) → is_some o ≡ false → o ≡ None
none_is None e = refl
none_is (Some x) e = absurd (cc)

pub extent_small : (found : Found) → extent found ≤ 7
extent_small found = omega (arith, few_words 2 found.input, few_words 2 found.read, few_words 2 found.write, few_words 1 found.check)

pub is_some-map : {X Y : Type 0} (f : X → Y) (o : Option X) → is_some o ≡ is_some (option_map f o)
is_some-map f None = refl
is_some-map f (Some x) = refl

-- one option more
others_kept : (found : Found) (name other : OptionName) (at count : ℕ) → same_option other name ≡ false → place_in (with_place found name at count) other ≡ place_in found other
others_kept found Input Input at count e = absurd (cc)
others_kept found Input ReadRestart at count e = refl
others_kept found Input WriteRestart at count e = refl
others_kept found Input Check at count e = refl
others_kept found ReadRestart Input at count e = refl
others_kept found ReadRestart ReadRestart at count e = absurd (cc)
others_kept found ReadRestart WriteRestart at count e = refl
others_kept found ReadRestart Check at count e = refl
others_kept found WriteRestart Input at count e = refl
others_kept found WriteRestart ReadRestart at count e = refl
others_kept found WriteRestart WriteRestart at count e = absurd (cc)
others_kept found WriteRestart Check at count e = refl
others_kept found Check Input at count e = refl
others_kept found Check ReadRestart at count e = refl
others_kept found Check WriteRestart at count e = refl
others_kept found Check Check at count e = absurd (cc)

is_same : (one other : OptionName) → same_option one other ≡ true → one ≡ other
is_same Input Input e = refl
is_same ReadRestart ReadRestart e = refl
is_same WriteRestart WriteRestart e = refl
is_same Check Check e = refl
is_same _ _ e = absurd (cc)

place_put : (found : Found) (name : OptionName) (at count : ℕ) → place_in (with_place found name at count) name ≡ Some at
place_put found Input at count = refl
place_put found ReadRestart at count = refl
place_put found WriteRestart at count = refl
place_put found Check at count = refl

count_put : (found : Found) (name : OptionName) (at count : ℕ) → (with_place found name at count).count ≡ count
count_put found Input at count = refl
count_put found ReadRestart at count = refl
count_put found WriteRestart at count = refl
count_put found Check at count = refl

same_self : (name : OptionName) → same_option name name ≡ true
same_self Input = refl
same_self ReadRestart = refl
same_self WriteRestart = refl
same_self Check = refl

-- the words of an option
abbrev pub size : OptionName → ℕ
size Check = 1
size _ = 2

with_input : (i r w c : ℕ) → i ≡ 0 → 2 + r + w + c ≡ i + r + w + c + 2
with_input i r w c e = omega (arith, e)

with_read : (i r w c : ℕ) → r ≡ 0 → i + 2 + w + c ≡ i + r + w + c + 2
with_read i r w c e = omega (arith, e)

with_write : (i r w c : ℕ) → w ≡ 0 → i + r + 2 + c ≡ i + r + w + c + 2
with_write i r w c e = omega (arith, e)

with_check : (i r w c : ℕ) → c ≡ 0 → i + r + w + 1 ≡ i + r + w + c + 1
with_check i r w c e = omega (arith, e)

extent_put : (found : Found) (name : OptionName) (at count : ℕ) → place_in found name ≡ None → extent (with_place found name at count) ≡ extent found + size name
extent_put found Input at count unseen = with_input (words_of 2 found.input) (words_of 2 found.read) (words_of 2 found.write) (words_of 1 found.check) (ap (words_of 2) unseen)
extent_put found ReadRestart at count unseen = with_read (words_of 2 found.input) (words_of 2 found.read) (words_of 2 found.write) (words_of 1 found.check) (ap (words_of 2) unseen)
extent_put found WriteRestart at count unseen = with_write (words_of 2 found.input) (words_of 2 found.read) (words_of 2 found.write) (words_of 1 found.check) (ap (words_of 2) unseen)
extent_put found Check at count unseen = with_check (words_of 2 found.input) (words_of 2 found.read) (words_of 2 found.write) (words_of 1 found.check) (ap (words_of 1) unseen)

is_one : (a b c : Bool) → (a || ((b || false) || (c || false))) ≡ (a || (b || c))
is_one true b c = refl
is_one false true c = refl
is_one false false true = refl
is_one false false false = refl

-- before the first word
pub none_sorted : (words : List (List ℕ)) → IsSorted words (record { count = 0; input = None; read = None; write = None; check = None })
none_sorted words = record { done = []; whole = refl; clean = refl; found_at = none; has_file = λ name t. search rules; few = omega arith; within = omega arith }
  where
    none : (name : OptionName) → place_in (record { count = 0; input = None; read = None; write = None; check = None }) name ≡ None
    none Input = refl
    none ReadRestart = refl
    none WriteRestart = refl
    none Check = refl

module _ (words : List (List ℕ)) (found : Found) (sorted : IsSorted words found) where
  stood : (name : OptionName) → stands name sorted.done ≡ is_some (place_in found name)
  stood name = is_some-map (λ p. p.at) (piece_of name sorted.done) ∙ ap is_some (sym (sorted.found_at name))

  abbrev is_wrong_behind_done : OptionName → ℕ → Option (List ℕ) → Bool
  is_wrong_behind_done name at file =
      let p : Place Piece = record { before = sorted.done; here = record { at = at; option = Some name; file = file } } in
      is_stray p || (is_second p || (is_other_restart p || is_checked_restart p))

  -- what is wrong with an option at its word
  judged : (name : OptionName) (at : ℕ) (file : Option (List ℕ)) → is_wrong_behind_done name at file ≡ (is_some (place_in found name) || is_barred found name)
  judged Input at file = ap (λ b. b || false) (stood Input)
  judged ReadRestart at file = is_one _ _ _ ∙ rw (stood ReadRestart, stood WriteRestart, stood Check) refl
  judged WriteRestart at file = rw (stood ReadRestart, stood WriteRestart, stood Check) refl
  judged Check at file = is_one _ _ _ ∙ rw (stood ReadRestart, stood WriteRestart, stood Check) refl

  -- the first piece that is left has a fault
  pub fault_at : (p : Piece) (rest : List Piece) (at : ℕ) → pieces_from (found.count + 1) (drop found.count words) ≡ p ∷ rest →
      first (piece_faults (record { before = sorted.done; here = p })) ≡ Some at → HasFault words at
  unfolding faults
  fault_at p rest at e h =
      let here : List ℕ = piece_faults (record { before = sorted.done; here = p }) in
      let others : List ℕ = flat_map piece_faults (places_after (sorted.done ++ p ∷ []) rest) in
      let all : flat_map piece_faults (places (pieces words)) ≡ here ++ others = sorted.clean ∙ ap (λ l. flat_map piece_faults (places_after sorted.done l)) e in
      first_of_front at (flat_map piece_faults (places (pieces words))) (when (not (stands Input (pieces words))) (length words + 1))
      (subst (IsFirst at) (sym all) (first_of_front at here others (some_first here at h)))

  -- one option more stands behind the words
  module _ (name : OptionName) (file : Option (List ℕ)) (count : ℕ) (unseen : place_in found name ≡ None) (right : is_barred found name ≡ false)
      (behind : (is_cut_off (record { at = found.count + 1; option = Some name; file = file }) || option_map_or (λ word. not (is_file word)) file false) ≡ false)
      (further : found.count + 1 ≤ count) (within : count ≤ length words) (few : count ≤ found.count + size name) where
    abbrev at : ℕ
    at = found.count + 1

    abbrev p : Piece
    p = record { at = at; option = Some name; file = file }

    abbrev onward : List Piece
    onward = pieces_from (count + 1) (drop count words)

    faultless : piece_faults (record { before = sorted.done; here = p }) ≡ []
    faultless =
        let here : is_wrong_behind_done name at file ≡ false = judged name at file ∙ rw (unseen, right) refl in
        rw (here, behind) refl

    named : (other : OptionName) → piece_of other (sorted.done ++ p ∷ []) ≡ option_or (piece_of other sorted.done) (if same_option other name then Some p else None)
    named other = find-append (is_of other) sorted.done (p ∷ [])

    found_more : (other : OptionName) → place_in (with_place found name at count) other ≡ option_map (λ q. q.at) (piece_of other (sorted.done ++ p ∷ []))
    found_more other = by (same_option other name) refl
      where
        by : (b : Bool) → same_option other name ≡ b → place_in (with_place found name at count) other ≡ option_map (λ q. q.at) (piece_of other (sorted.done ++ p ∷ []))
        by true e =
            let same : other ≡ name = is_same other name e in
            let none : piece_of name sorted.done ≡ None = none_of (λ q. q.at) (piece_of name sorted.done) (sym (sorted.found_at name) ∙ unseen) in
            let there : piece_of name (sorted.done ++ p ∷ []) ≡ Some p = named name ∙ rw (none, same_self name) refl in
            rw same (place_put found name at count ∙ ap (option_map (λ q. q.at)) (sym there))
        by false e =
            let kept : piece_of other (sorted.done ++ p ∷ []) ≡ piece_of other sorted.done = named other ∙ rw e (or_nothing (piece_of other sorted.done)) in
            others_kept found name other at count e ∙ sorted.found_at other ∙ ap (option_map (λ q. q.at)) (sym kept)

    pub more : pieces_from at (drop found.count words) ≡ p ∷ onward → (takes_file name ≡ true → HasFile words p) → IsSorted words (with_place found name at count)
    more e has = record {
      done = sorted.done ++ p ∷ [];
      whole = rw (count_put found name at count) (sorted.whole ∙ ap (λ l. sorted.done ++ l) e ∙ sym (append_assoc sorted.done (p ∷ []) onward));
      clean = rw (count_put found name at count) (sorted.clean ∙ ap (λ l. flat_map piece_faults (places_after sorted.done l)) e ∙ ap (λ l. l ++ flat_map piece_faults (places_after (sorted.done ++ p ∷ []) onward)) faultless);
      found_at = found_more;
      has_file = has_more;
      few = omega (arith, sorted.few, few, count_put found name at count, extent_put found name at count unseen);
      within = omega (arith, within, count_put found name at count);
    }
      where
        has_more : (other : OptionName) → takes_file other ≡ true → IfSome (piece_of other (sorted.done ++ p ∷ [])) (HasFile words)
        has_more other takes = subst (λ o. IfSome o (HasFile words)) (sym (named other)) (by (piece_of other sorted.done) (sorted.has_file other takes) (same_option other name) refl)
          where
            by : (o : Option Piece) → IfSome o (HasFile words) → (b : Bool) → same_option other name ≡ b → IfSome (option_or o (if b then Some p else None)) (HasFile words)
            by (Some q) h b s = h
            by None h true s = has (subst (λ n. takes_file n ≡ true) (is_same other name s) takes)
            by None h false s = h

-- the word behind these is no option, or one that doesn't stand there, or one more
module _ (words : List (List ℕ)) (found : Found) (sorted : IsSorted words found) (word : List ℕ) (here : slice_get words found.count ≡ Some word) where
  abbrev place : ℕ
  place = found.count + 1

  left : drop found.count words ≡ word ∷ drop place words
  left = drop_at words found.count word here

  inside : place ≤ length words
  inside = let h = slice_get_within words found.count word here in omega (arith, h)

  -- a fault at the word
  at_word : (h : (file : Option (List ℕ)) → first (piece_faults (record { before = sorted.done; here = piece place word file })) ≡ Some place) → HasFault words place
  at_word h =
      let head = head_piece place word (drop place words) in
      fault_at words found sorted (piece place word head.0) head.1 place (ap (pieces_from place) left ∙ head.2) (h head.0)

  pub stray : option_of word ≡ None → HasFault words place
  stray e = at_word (λ file. rw e refl)

  module _ (name : OptionName) (e : option_of word ≡ Some name) where
    wrong : (is_some (place_in found name) || is_barred found name) ≡ true → HasFault words place
    wrong h = at_word (λ file. let bad : is_wrong_behind_done words found sorted name place file ≡ true = judged words found sorted name place file ∙ h in rw (e, bad) refl)

    pub second : is_some (place_in found name) ≡ true → HasFault words place
    second h = wrong (rw h refl)

    pub barred : is_some (place_in found name) ≡ false → is_barred found name ≡ true → HasFault words place
    barred unseen h = wrong (rw (unseen, h) refl)

    module _ (unseen : is_some (place_in found name) ≡ false) (right : is_barred found name ≡ false) where
      right_here : (file : Option (List ℕ)) → is_wrong_behind_done words found sorted name place file ≡ false
      right_here file = judged words found sorted name place file ∙ rw (unseen, right) refl

      gone : place_in found name ≡ None
      gone = none_is (place_in found name) unseen

      pub plain_more : takes_file name ≡ false → IsSorted words (with_place found name place place) × (found.count < (with_place found name place place).count)
      plain_more takes =
          let needs : needs_file word ≡ false = ap (λ o. option_map_or takes_file o false) e ∙ takes in
          let cut : pieces_from place (drop found.count words) ≡ record { at = place; option = Some name; file = None } ∷ pieces_from (place + 1) (drop place words) =
          ap (pieces_from place) left ∙ plain_piece place word (drop place words) needs ∙ ap (λ o. record { at = place; option = o; file = None } ∷ pieces_from (place + 1) (drop place words)) e in
          (more words found sorted name None place gone right (rw takes refl) (omega arith) inside (at_least name) cut (λ t. absurd (cc)), omega (arith, count_put found name place place))
        where
          at_least : (n : OptionName) → place ≤ found.count + size n
          at_least Input = omega arith
          at_least ReadRestart = omega arith
          at_least WriteRestart = omega arith
          at_least Check = omega arith

      pub file_more : (file : List ℕ) → takes_file name ≡ true → slice_get words place ≡ Some file → is_file file ≡ true →
          IsSorted words (with_place found name place (place + 1)) × (found.count < (with_place found name place (place + 1)).count)
      file_more file takes behind good =
          let needs : needs_file word ≡ true = ap (λ o. option_map_or takes_file o false) e ∙ takes in
          let within : place < length words = slice_get_within words place file behind in
          let two : place + 2 ≡ place + 1 + 1 = omega arith in
          let cut : pieces_from place (drop found.count words) ≡ record { at = place; option = Some name; file = Some file } ∷ pieces_from (place + 1 + 1) (drop (place + 1) words) =
          ap (pieces_from place) (left ∙ ap (λ l. word ∷ l) (drop_at words place file behind)) ∙ file_piece place word file (drop (place + 1) words) needs
          ∙ ap (λ o. record { at = place; option = o; file = Some file } ∷ pieces_from (place + 2) (drop (place + 1) words)) e
          ∙ ap (λ n. record { at = place; option = Some name; file = Some file } ∷ pieces_from n (drop (place + 1) words)) two in (
            more words found sorted name (Some file) (place + 1) gone right (rw (takes, good) refl) (omega arith) (omega (arith, within)) (two_words name takes) cut (λ t. record { within = within; file = sym behind }),
            omega (arith, count_put found name place (place + 1)),
          )
        where
          two_words : (n : OptionName) → takes_file n ≡ true → place + 1 ≤ found.count + size n
          two_words Input t = omega arith
          two_words ReadRestart t = omega arith
          two_words WriteRestart t = omega arith
          two_words Check t = absurd (cc)

      pub no_file : takes_file name ≡ true → slice_get words place ≡ None → HasFault words (place + 1)
      no_file takes behind =
          fault_at words found sorted (piece place word None) [] (place + 1)
          (ap (pieces_from place) (left ∙ ap (λ l. word ∷ l) (drop_all place words (past words place behind)))) (rw (e, right_here None, takes) refl)

      pub bad_file : (file : List ℕ) → takes_file name ≡ true → slice_get words place ≡ Some file → is_file file ≡ false → HasFault words (place + 1)
      bad_file file takes behind bad =
          fault_at words found sorted (piece place word (Some file)) (pieces_from (place + 2) (drop (place + 1) words)) (place + 1)
          (ap (pieces_from place) (left ∙ ap (λ l. word ∷ l) (drop_at words place file behind)) ∙ file_piece place word file (drop (place + 1) words) (ap (λ o. option_map_or takes_file o false) e ∙ takes))
          (rw (e, right_here (Some file), takes, bad) refl)

-- behind the last word
module _ (words : List (List ℕ)) (found : Found) (sorted : IsSorted words found) (end : slice_get words found.count ≡ None) where
  all : found.count ≡ length words
  all = let past_all = past words found.count end in omega (arith, sorted.within)

  done_all : pieces words ≡ sorted.done
  done_all = sorted.whole ∙ ap (λ l. sorted.done ++ pieces_from (found.count + 1) l) (drop_all found.count words (past words found.count end)) ∙ append-nil sorted.done

  no_faults : flat_map piece_faults (places (pieces words)) ≡ []
  no_faults = sorted.clean ∙ ap (λ l. flat_map piece_faults (places_after sorted.done (pieces_from (found.count + 1) l))) (drop_all found.count words (past words found.count end))

  placed : (name : OptionName) → place_of name words ≡ place_in found name
  unfolding place_of
  placed name = ap (λ l. option_map (λ p. p.at) (piece_of name l)) done_all ∙ sym (sorted.found_at name)

  stands_all : (name : OptionName) → stands name (pieces words) ≡ is_some (place_in found name)
  stands_all name = ap (stands name) done_all ∙ stood words found sorted name

  -- where no study is named
  pub none_named : found.input ≡ None → HasFault words (found.count + 1)
  unfolding faults
  none_named e =
      let none : stands Input (pieces words) ≡ false = stands_all Input ∙ ap is_some e in
      ([], rw (no_faults, none, all) refl)

  -- the FILE of an option is the word behind its place
  filed : (name : OptionName) → takes_file name ≡ true → file_of name (pieces words) ≡ file_at words (place_in found name)
  filed name takes = ap (file_of name) done_all ∙ by (piece_of name sorted.done) (sorted.has_file name takes) ∙ ap (file_at words) (sym (sorted.found_at name))
    where
      by : (o : Option Piece) → IfSome o (HasFile words) → option_and_then (λ p. p.file) o ≡ file_at words (option_map (λ p. p.at) o)
      by None h = refl
      by (Some p) h = h.file

  -- it is there
  is_filed : (name : OptionName) → takes_file name ≡ true → is_some (file_at words (place_in found name)) ≡ is_some (place_in found name)
  is_filed name takes = subst (λ o. is_some (file_at words o) ≡ is_some o) (sym (sorted.found_at name)) (by (piece_of name sorted.done) (sorted.has_file name takes))
    where
      by : (o : Option Piece) → IfSome o (HasFile words) → is_some (file_at words (option_map (λ p. p.at) o)) ≡ is_some (option_map (λ p. p.at) o)
      by None h = refl
      by (Some p) h = is_there words p.at [] h.within

  -- where one is
  pub all_sorted : (o : Options) → found.input ≡ Some o.input → found.read ≡ o.read → found.write ≡ o.write → found.check ≡ o.check → AreOptions words o
  unfolding faults command_of
  all_sorted o input read write check =
      let named : stands Input (pieces words) ≡ true = stands_all Input ∙ ap is_some input in
      let checks : stands Check (pieces words) ≡ is_some o.check = stands_all Check ∙ ap is_some check in
      record {
        faultless = rw (no_faults, named) refl;
        input = placed Input ∙ input;
        check = placed Check ∙ check;
        within = is_within words o.input (subst (λ q. is_some (file_at words q) ≡ is_some q) input (is_filed Input refl));
        read = subst (λ q. is_some (file_at words q) ≡ is_some q) read (is_filed ReadRestart refl);
        commands = ap (λ q. option_map (commanded (stands Check (pieces words)) (file_of ReadRestart (pieces words)) (file_of WriteRestart (pieces words))) q) (filed Input refl ∙ ap (file_at words) input)
            ∙ ap (λ b. option_map (commanded b (file_of ReadRestart (pieces words)) (file_of WriteRestart (pieces words))) (slice_get words o.input)) checks
            ∙ ap (λ q. option_map (commanded (is_some o.check) q (file_of WriteRestart (pieces words))) (slice_get words o.input)) (filed ReadRestart refl ∙ ap (file_at words) read)
            ∙ ap (λ q. option_map (commanded (is_some o.check) (file_at words o.read) q) (slice_get words o.input)) (filed WriteRestart refl ∙ ap (file_at words) write);
      }
