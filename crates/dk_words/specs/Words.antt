-- The words of the command line: their pieces, their first fault, and what they command.
use Rattle.std.specs.Prelude.{◌≡◌, ◌↔◌, ℕ, ◌+◌, ◌≤◌, Bool, true, false, not, List, [], ◌∷◌, ◌++◌, codes, length, Option, Some, None, is_some, is_none, option_and_then, Result, Ok, Err, ◌==◌, ◌&&◌, ◌||◌, if◌then◌else◌}
use Rattle.std.specs.List.{find, flat_map}
use Rattle.std.specs.Option.{option_map, option_map_or, option_or}
use Rattle.std.specs.Str.{bytes_eq}
use Rattle.dk_outside.specs.declared.disk.Mode.{Mode}
use Rattle.dk_outside.specs.declared.disk.Mode.TheVariants.{Fresh, Resume}
use Rattle.dk_words.specs.Lists.{first, when, IsFirst, Place, places}
use Rattle.dk_words.specs.declared.words.OptionName.{OptionName}
use Rattle.dk_words.specs.declared.words.OptionName.TheVariants.{Input, ReadRestart, WriteRestart, Check}
use Rattle.dk_words.specs.declared.commands.Command.{Command}
use Rattle.dk_words.specs.declared.commands.Command.TheVariants as command
use Rattle.dk_words.specs.declared.commands.CommandFault.{CommandFault}
use Rattle.dk_words.specs.declared.commands.CommandFault.TheVariants.{Usage, NoMemory}
use Rattle.dk_words.specs.declared.purpose.Purpose.{Purpose}
use Rattle.dk_words.specs.declared.purpose.Purpose.TheVariants as purposes

-- a file's name isn't empty, and doesn't begin with a dash
abbrev pub is_file : List ℕ → Bool
is_file [] = false
is_file (c ∷ cs) = not (c == 45)

-- the option that a word is
abbrev pub option_of : List ℕ → Option OptionName
option_of word =
    if bytes_eq word (codes "-i") || bytes_eq word (codes "-input") then Some Input
    else (if bytes_eq word (codes "-r") || bytes_eq word (codes "-read_restart") then Some ReadRestart
    else (if bytes_eq word (codes "-w") || bytes_eq word (codes "-write_restart") then Some WriteRestart
    else (if bytes_eq word (codes "-check") then Some Check else None)))

-- the options that need a FILE
abbrev pub takes_file : OptionName → Bool
takes_file Check = false
takes_file _ = true

abbrev pub same_option : OptionName → OptionName → Bool
same_option Input Input = true
same_option ReadRestart ReadRestart = true
same_option WriteRestart WriteRestart = true
same_option Check Check = true
same_option _ _ = false

-- a word that stands where an option is due, at its place, with the word behind it where it stands for a FILE
pub record Piece : Type 0 where
  pub at : ℕ
  pub option : Option OptionName
  pub file : Option (List ℕ)

-- the word is an option that needs a FILE
abbrev pub needs_file : List ℕ → Bool
needs_file word = option_map_or takes_file (option_of word) false

abbrev pub piece : ℕ → List ℕ → Option (List ℕ) → Piece
piece at word file = record { at = at; option = option_of word; file = file }

-- words cut into pieces, where the first word stands at this place
abbrev pub pieces_from : ℕ → List (List ℕ) → List Piece
pieces_from at [] = []
pieces_from at (word ∷ []) = piece at word None ∷ []
pieces_from at (word ∷ (next ∷ words)) =
    if needs_file word then piece at word (Some next) ∷ pieces_from (at + 2) words
    else piece at word None ∷ pieces_from (at + 1) (next ∷ words)

-- places are counted from 1
abbrev pub pieces : List (List ℕ) → List Piece
pieces words = pieces_from 1 words

-- a piece of this option
abbrev pub is_of : OptionName → Piece → Bool
is_of name p = option_map_or (same_option name) p.option false

-- the first piece of an option
abbrev pub piece_of : OptionName → List Piece → Option Piece
piece_of name ps = find (is_of name) ps

-- the option stands among these pieces, in either spelling
abbrev pub stands : OptionName → List Piece → Bool
stands name ps = is_some (piece_of name ps)

-- 1. A word that stands where an option is due and is none: at the word.
abbrev pub is_stray : Place Piece → Bool
is_stray p = is_none p.here.option

-- 2. An option that stands a second time, in either spelling: at its second place.
abbrev pub is_second : Place Piece → Bool
is_second p = option_map_or (λ name. stands name p.before) p.here.option false

-- one of two options stands here, and the other one before it
abbrev pub is_later_of : OptionName → OptionName → Place Piece → Bool
is_later_of one other p = (is_of one p.here && stands other p.before) || (is_of other p.here && stands one p.before)

-- 3. `-r` and `-w` both: at the later one.
abbrev pub is_other_restart : Place Piece → Bool
is_other_restart p = is_later_of ReadRestart WriteRestart p

-- 4. `-check` together with `-r` or `-w`: at the later one of the two.
abbrev pub is_checked_restart : Place Piece → Bool
is_checked_restart p = is_later_of Check ReadRestart p || is_later_of Check WriteRestart p

-- 5. An option that needs a FILE and is the last word: one past the last word.
abbrev pub is_cut_off : Piece → Bool
is_cut_off p = option_map_or takes_file p.option false && is_none p.file

-- 6. A word that stands in the place of a FILE and isn't one: at that word.
abbrev pub has_no_file : Piece → Bool
has_no_file p = option_map_or (λ word. not (is_file word)) p.file false

-- the places of what is wrong with a piece: at its word, or one place further
abbrev pub piece_faults : Place Piece → List ℕ
piece_faults p =
    when (is_stray p || (is_second p || (is_other_restart p || is_checked_restart p))) p.here.at ++ when (is_cut_off p.here || has_no_file p.here) (p.here.at + 1)

-- The places of all faults, in order. 7. Where there is no other one and `-i` doesn't stand there: one past the last
-- word.
unfoldable pub faults : List (List ℕ) → List ℕ
faults words = flat_map piece_faults (places (pieces words)) ++ when (not (stands Input (pieces words))) (length words + 1)

-- the place of an option, where it stands
unfoldable pub place_of : OptionName → List (List ℕ) → Option ℕ
place_of name words = option_map (λ p. p.at) (piece_of name (pieces words))

-- the FILE of an option, where it stands
abbrev pub file_of : OptionName → List Piece → Option (List ℕ)
file_of name ps = option_and_then (λ p. p.file) (piece_of name ps)

-- the restart file is the one behind `-r`, or behind `-w`, or else `dakota.rst`
abbrev pub restart_of : (read write : Option (List ℕ)) → List ℕ
restart_of (Some file) write = file
restart_of None (Some file) = file
restart_of None None = codes "dakota.rst"

-- it is gone on with where `-r` stands, and else begun
abbrev pub mode_of : (read : Option (List ℕ)) → Mode
mode_of (Some file) = Resume
mode_of None = Fresh

-- a check of a FILE, or a run of it
abbrev pub commanded : (checks : Bool) (read write : Option (List ℕ)) → List ℕ → Command
commanded checks read write input = if checks then command.Check input else command.Run input (restart_of read write) (mode_of read)

-- words without a fault command a run of their FILE, or a check of it where `-check` stands
unfoldable pub command_of : List (List ℕ) → Option Command
command_of words =
    option_map (commanded (stands Check (pieces words)) (file_of ReadRestart (pieces words)) (file_of WriteRestart (pieces words))) (file_of Input (pieces words))

-- the words have no fault, and this is what they command
pub record Words (words : List (List ℕ)) (c : Command) : Type 0 where
  pub faultless : faults words ≡ []
  pub commands : command_of words ≡ Some c

-- the first fault of the words stands at this place
abbrev pub HasFault : List (List ℕ) → ℕ → Type 0
HasFault words at = IsFirst at (faults words)

abbrev pub CommandRead : List (List ℕ) → Result Command CommandFault → Type 0
CommandRead words (Ok c) = Words words c
CommandRead words (Err (Usage at)) = HasFault words at
CommandRead words (Err NoMemory) = Unit {0}

-- a command, or the place of the first fault
abbrev pub Tells : List (List ℕ) → Result Command ℕ → Type 0
Tells words (Ok c) = Words words c
Tells words (Err at) = HasFault words at

-- each list of words has just one command or just one first fault
abbrev pub EachCommandOrPlace : Type 0
EachCommandOrPlace = (words : List (List ℕ)) → (outcome : Result Command ℕ) × Tells words outcome × ((other : Result Command ℕ) → Tells words other → other ≡ outcome)

-- places in order, none before the first bound nor behind the last
abbrev pub AreInOrder : (low high : ℕ) → List ℕ → Type 0
AreInOrder low high [] = low ≤ high
AreInOrder low high (place ∷ places) = (low ≤ place) × AreInOrder place high places

-- the faults of words stand in order, so that the first has the least place, and one past the last word at most
abbrev pub EachFaultInOrder : Type 0
EachFaultInOrder = (words : List (List ℕ)) → AreInOrder 1 (length words + 1) (faults words)

-- where words aren't those of a run: at their first fault, or else at `-check`
unfoldable pub run_fault : List (List ℕ) → Option ℕ
run_fault words = option_or (first (faults words)) (place_of Check words)

-- where words aren't those of a check: at their first fault, or else at `-i` or `-input` where no `-check` stands
unfoldable pub check_fault : List (List ℕ) → Option ℕ
check_fault words = option_or (first (faults words)) (if is_some (place_of Check words) then None else place_of Input words)

-- where words aren't those of a run, or of a check
abbrev pub fault_for : Purpose → List (List ℕ) → Option ℕ
fault_for purposes.Run words = run_fault words
fault_for purposes.Check words = check_fault words

abbrev pub Misused : Purpose → List (List ℕ) → ℕ → Type 0
Misused purpose words at = fault_for purpose words ≡ Some at

abbrev pub IsFor : Purpose → List (List ℕ) → Type 0
IsFor purpose words = fault_for purpose words ≡ None

-- words command a run in this mode
pub record RunsIn (words : List (List ℕ)) (mode : Mode) : Type 0 where
  pub input : List ℕ
  pub restart : List ℕ
  pub commands : Words words (command.Run input restart mode)

-- words command a check
pub record Checks (words : List (List ℕ)) : Type 0 where
  pub input : List ℕ
  pub commands : Words words (command.Check input)

-- words are a run's where they command one, and a check's where they command that
abbrev pub EachCallIsCommanded : Type 0
EachCallIsCommanded =
    (words : List (List ℕ)) → (IsFor purposes.Run words ↔ ((mode : Mode) × RunsIn words mode)) × (IsFor purposes.Check words ↔ Checks words)
