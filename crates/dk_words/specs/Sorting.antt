-- What is known of the words before a place.
use Rattle.std.specs.Prelude.{◌≡◌, ℕ, ◌+◌, ◌<◌, ◌≤◌, Bool, true, false, List, [], ◌++◌, length, drop, Option, Some, None, IfSome, is_some, option_and_then, Result, Ok, Err, ◌||◌, if◌then◌else◌}
use Rattle.std.specs.List.{flat_map, slice_get}
use Rattle.std.specs.Option.{option_map}
use Rattle.dk_outside.specs.declared.disk.Mode.{Mode}
use Rattle.dk_outside.specs.declared.disk.Mode.TheVariants.{Fresh, Resume}
use Rattle.dk_words.specs.Lists.{places, places_after}
use Rattle.dk_words.specs.Words.{takes_file, Piece, pieces, pieces_from, piece_of, piece_faults, faults, place_of, commanded, command_of, HasFault}
use Rattle.dk_words.specs.declared.words.OptionName.{OptionName}
use Rattle.dk_words.specs.declared.words.OptionName.TheVariants.{Input, ReadRestart, WriteRestart, Check}
use Rattle.dk_words.specs.declared.words.Found.{Found}
use Rattle.dk_words.specs.declared.words.Options.{Options}

abbrev pub place_in : Found → OptionName → Option ℕ
place_in found Input = found.input
place_in found ReadRestart = found.read
place_in found WriteRestart = found.write
place_in found Check = found.check

abbrev pub with_place : Found → OptionName → (at count : ℕ) → Found
with_place found Input at count = record { count = count; input = Some at; read = found.read; write = found.write; check = found.check }
with_place found ReadRestart at count = record { count = count; input = found.input; read = Some at; write = found.write; check = found.check }
with_place found WriteRestart at count = record { count = count; input = found.input; read = found.read; write = Some at; check = found.check }
with_place found Check at count = record { count = count; input = found.input; read = found.read; write = found.write; check = Some at }

-- an option stands there that doesn't go with this one
abbrev pub is_barred : Found → OptionName → Bool
is_barred found Input = false
is_barred found ReadRestart = is_some found.write || is_some found.check
is_barred found WriteRestart = is_some found.read || is_some found.check
is_barred found Check = is_some found.read || is_some found.write

-- so many words, where the option stands
abbrev pub words_of : ℕ → Option ℕ → ℕ
words_of count None = 0
words_of count (Some at) = count

-- the words of pieces without a fault
abbrev pub extent : Found → ℕ
extent found = words_of 2 found.input + words_of 2 found.read + words_of 2 found.write + words_of 1 found.check

-- the file of a piece is the word behind it
pub record HasFile (words : List (List ℕ)) (p : Piece) : Type 0 where
  pub within : p.at < length words
  pub file : p.file ≡ slice_get words p.at

-- the words before a place are these pieces, none of them has a fault, and these options stand among them
pub record IsSorted (words : List (List ℕ)) (found : Found) : Type 0 where
  pub done : List Piece
  pub whole : pieces words ≡ done ++ pieces_from (found.count + 1) (drop found.count words)
  pub clean : flat_map piece_faults (places (pieces words)) ≡ flat_map piece_faults (places_after done (pieces_from (found.count + 1) (drop found.count words)))
  pub found_at : (name : OptionName) → place_in found name ≡ option_map (λ p. p.at) (piece_of name done)
  pub has_file : (name : OptionName) → takes_file name ≡ true → IfSome (piece_of name done) (HasFile words)
  pub few : found.count ≤ extent found
  pub within : found.count ≤ length words

-- one piece more, or the first fault of all
abbrev pub HasSorted : List (List ℕ) → Found → Result Found ℕ → Type 0
HasSorted words found (Ok next) = IsSorted words next × (found.count < next.count)
HasSorted words found (Err at) = HasFault words at

-- the mode of a run, and `Fresh` for a check
abbrev pub mode_in : Options → Mode
mode_in o = if is_some o.check then Fresh else (if is_some o.read then Resume else Fresh)

-- the word behind a place, where there is one
abbrev pub file_at : List (List ℕ) → Option ℕ → Option (List ℕ)
file_at words place = option_and_then (slice_get words) place

-- the words have no fault, and their options stand at these places
pub record AreOptions (words : List (List ℕ)) (o : Options) : Type 0 where
  pub faultless : faults words ≡ []
  pub input : place_of Input words ≡ Some o.input
  pub check : place_of Check words ≡ o.check
  pub within : o.input < length words
  pub read : is_some (file_at words o.read) ≡ is_some o.read
  pub commands : command_of words ≡ option_map (commanded (is_some o.check) (file_at words o.read) (file_at words o.write)) (slice_get words o.input)

abbrev pub HasOptions : List (List ℕ) → Result Options ℕ → Type 0
HasOptions words (Ok o) = AreOptions words o
HasOptions words (Err at) = HasFault words at
