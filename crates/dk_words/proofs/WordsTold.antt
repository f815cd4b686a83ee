-- What the words of the command line tell.
use Rattle.std.proofs.Common.{◌≡◌, ℕ, ◌+◌, Bool, true, false, not, List, [], ◌∷◌, ◌++◌, length, refl, sym, ap, ◌∙◌}
use Rattle.std.specs.Prelude.{if◌then◌else◌, Option, Some, None, Result, Ok, Err, is_some, is_none, option_and_then, ◌&&◌, ◌||◌}
use Rattle.std.specs.List.{flat_map, slice_get}
use Rattle.std.specs.Option.{option_map, option_map_or, option_or}
use Rattle.dk_outside.specs.declared.disk.Mode.{Mode}
use Rattle.dk_outside.specs.declared.disk.Mode.TheVariants.{Fresh, Resume}
use Rattle.dk_words.specs.Lists.{first, when, Place, places, places_after}
use Rattle.dk_words.specs.declared.purpose.Purpose.TheVariants as purposes
use Rattle.dk_words.specs.Words.{takes_file, same_option, Piece, pieces, is_of, piece_of, stands, is_stray, is_second, is_other_restart, is_checked_restart, is_cut_off, has_no_file, piece_faults, place_of, file_of, faults, restart_of, mode_of, commanded, command_of, Words, HasFault, Tells, EachCommandOrPlace, run_fault, check_fault, IsFor, RunsIn, Checks, EachCallIsCommanded}
use Rattle.dk_words.proofs.Firsts.{no_first}
use Rattle.dk_words.specs.Sorting.{file_at, mode_in, AreOptions}
use Rattle.dk_words.proofs.WordsSorted.{is_some-map}
use Rattle.dk_words.specs.declared.commands.Command.TheVariants as command
use Rattle.dk_words.specs.declared.words.OptionName.{OptionName}
use Rattle.dk_words.specs.declared.words.OptionName.TheVariants.{Input, ReadRestart, WriteRestart, Check}
use Rattle.dk_words.specs.declared.words.Options.{Options}
use Rattle.dk_words.specs.declared.commands.Command.{Command}

module _ (words : List (List ℕ)) where
  pub is_run : (o : Options) → AreOptions words o → o.check ≡ run_fault words
  unfolding run_fault
  is_run o h = rw (h.faultless, h.check) refl

  pub no_run : (at : ℕ) → HasFault words at → Some at ≡ run_fault words
  unfolding run_fault
  no_run at (others, e) = rw e refl

  pub is_check : (o : Options) (at : ℕ) → AreOptions words o → o.check ≡ Some at → None ≡ check_fault words
  unfolding check_fault
  is_check o at h e = rw (h.faultless, h.check, e) refl

  pub only_run : (o : Options) → AreOptions words o → o.check ≡ None → Some o.input ≡ check_fault words
  unfolding check_fault
  only_run o h e = rw (h.faultless, h.check, e, h.input) refl

  pub no_check : (at : ℕ) → HasFault words at → Some at ≡ check_fault words
  unfolding check_fault
  no_check at (others, e) = rw e refl

both_empty : {X : Type 0} (xs ys : List X) → xs ++ ys ≡ [] → (xs ≡ []) × (ys ≡ [])
both_empty [] ys e = (refl, e)
both_empty (x ∷ xs) ys e = absurd (cc)

when_false : {X : Type 0} (b : Bool) (x : X) → when b x ≡ [] → b ≡ false
when_false true x e = absurd (cc)
when_false false x e = refl

-- an option that needs a FILE has one, where it isn't cut off
file_by : (o : Option OptionName) (f : Option (List ℕ)) (others : Bool) → option_map_or (same_option Input) o false ≡ true →
    ((option_map_or takes_file o false && is_none f) || others) ≡ false → (file : List ℕ) × (f ≡ Some file)
file_by None f others e h = absurd (cc)
file_by (Some Input) None others e h = absurd (cc)
file_by (Some Input) (Some file) others e h = (file, refl)
file_by (Some ReadRestart) f others e h = absurd (cc)
file_by (Some WriteRestart) f others e h = absurd (cc)
file_by (Some Check) f others e h = absurd (cc)

-- among pieces without a fault the FILE stands
has_input : (before ps : List Piece) (p : Piece) → flat_map piece_faults (places_after before ps) ≡ [] → piece_of Input ps ≡ Some p → (file : List ℕ) × (p.file ≡ Some file)
has_input before [] p clean e = absurd (cc)
has_input before (q ∷ qs) p clean e = by (is_of Input q) refl (has_input (before ++ q ∷ []) qs p rest)
  where
    here : List ℕ
    here = piece_faults (record { before = before; here = q })

    split : (here ≡ []) × (flat_map piece_faults (places_after (before ++ q ∷ []) qs) ≡ [])
    split = both_empty here (flat_map piece_faults (places_after (before ++ q ∷ []) qs)) clean

    rest : flat_map piece_faults (places_after (before ++ q ∷ []) qs) ≡ []
    rest = split.1

    behind : (is_cut_off q || has_no_file q) ≡ false
    behind =
        let at : Place Piece = record { before = before; here = q } in
        when_false (is_cut_off q || has_no_file q) (q.at + 1)
        (both_empty (when (is_stray at || (is_second at || (is_other_restart at || is_checked_restart at))) q.at) (when (is_cut_off q || has_no_file q) (q.at + 1)) split.0).1

    by : (b : Bool) → is_of Input q ≡ b → (piece_of Input qs ≡ Some p → (file : List ℕ) × (p.file ≡ Some file)) → (file : List ℕ) × (p.file ≡ Some file)
    by true h more =
        let same : Some q ≡ Some p = sym (rw h refl) ∙ e in
        let is : q ≡ p = cc in
        let found = file_by q.option q.file (has_no_file q) h behind in
        (found.0, ap (λ r. r.file) (sym is) ∙ found.1)
    by false h more = more (sym (rw h refl) ∙ e)

-- what words with this FILE command
abbrev told : List (List ℕ) → List ℕ → Command
told words file = commanded (stands Check (pieces words)) (file_of ReadRestart (pieces words)) (file_of WriteRestart (pieces words)) file

-- words without a fault name a study, and command a run or a check of its FILE
module _ (words : List (List ℕ)) (faultless : faults words ≡ []) where
  split : (flat_map piece_faults (places (pieces words)) ≡ []) × (when (not (stands Input (pieces words))) (length words + 1) ≡ [])
  unfolding faults
  split = both_empty (flat_map piece_faults (places (pieces words))) (when (not (stands Input (pieces words))) (length words + 1)) faultless

  named : (p : Piece) × (piece_of Input (pieces words) ≡ Some p)
  named = by (piece_of Input (pieces words)) refl
    where
      by : (o : Option Piece) → piece_of Input (pieces words) ≡ o → (p : Piece) × (piece_of Input (pieces words) ≡ Some p)
      by None h = let no : true ≡ false = sym (ap (λ o. not (is_some o)) h) ∙ when_false (not (stands Input (pieces words))) (length words + 1) split.1 in absurd (cc)
      by (Some p) h = (p, h)

  commands : (file : List ℕ) × (command_of words ≡ Some (told words file))
  unfolding command_of
  commands =
      let file = has_input [] (pieces words) named.0 split.0 named.1 in
      (file.0, ap (λ o. option_map (told words) (option_and_then (λ q. q.file) o)) named.1 ∙ ap (option_map (told words)) file.1)

pub each : EachCommandOrPlace
each words = by (faults words) refl
  where
    by : (fs : List ℕ) → faults words ≡ fs → (outcome : Result Command ℕ) × Tells words outcome × ((other : Result Command ℕ) → Tells words other → other ≡ outcome)
    by [] e = let c = commands words e in (Ok _, record { faultless = e; commands = c.1 }, one _ c.1)
      where
        one : (c : Command) → command_of words ≡ Some c → (other : Result Command ℕ) → Tells words other → other ≡ Ok c
        one c h (Ok d) told = let same : Some d ≡ Some c = sym told.commands ∙ h in let is : d ≡ c = cc in ap Ok is
        one c h (Err at) (others, f) = absurd (cc)
    by (at ∷ others) e = (Err at, (others, e), one)
      where
        one : (other : Result Command ℕ) → Tells words other → other ≡ Err at
        one (Ok d) told = let none : at ∷ others ≡ [] = sym e ∙ told.faultless in absurd (cc)
        one (Err b) (more, f) = let same : b ∷ more ≡ at ∷ others = sym f ∙ e in let is : b ≡ at = cc in ap Err is

none_first : {X : Type 0} (a b : Option X) → option_or a b ≡ None → (a ≡ None) × (b ≡ None)
none_first None b e = (refl, e)
none_first (Some x) b e = absurd (cc)

none_mapped : {X Y : Type 0} (f : X → Y) (o : Option X) → option_map f o ≡ None → is_some o ≡ false
none_mapped f None e = refl
none_mapped f (Some x) e = absurd (cc)

mapped_none : {X Y : Type 0} (f : X → Y) (o : Option X) → is_some o ≡ false → option_map f o ≡ None
mapped_none f None e = refl
mapped_none f (Some x) e = absurd (cc)

runs : (b : Bool) (read write : Option (List ℕ)) (file input restart : List ℕ) (mode : Mode) → commanded b read write file ≡ command.Run input restart mode → (b ≡ false) × (mode_of read ≡ mode)
runs true read write file input restart mode e = absurd (cc)
runs false read write file input restart mode e = (refl, cc)

checks : (b : Bool) (read write : Option (List ℕ)) (file input : List ℕ) → commanded b read write file ≡ command.Check input → b ≡ true
checks true read write file input e = refl
checks false read write file input e = absurd (cc)

module _ (words : List (List ℕ)) where
  abbrev is_check_named : Bool
  is_check_named = stands Check (pieces words)

  abbrev read : Option (List ℕ)
  read = file_of ReadRestart (pieces words)

  abbrev write : Option (List ℕ)
  write = file_of WriteRestart (pieces words)

  run_commanded : IsFor purposes.Run words → (mode : Mode) × RunsIn words mode
  unfolding run_fault place_of
  run_commanded e =
      let none = none_first (first (faults words)) (option_map (λ p. p.at) (piece_of Check (pieces words))) e in
      let faultless : faults words ≡ [] = no_first (faults words) none.0 in
      let c = commands words faultless in
      let unchecked : is_check_named ≡ false = none_mapped (λ p. p.at) (piece_of Check (pieces words)) none.1 in (
        mode_of read,
        record {
          input = c.0;
          restart = restart_of read write;
          commands = record { faultless = faultless; commands = c.1 ∙ ap (λ b. Some (commanded b read write c.0)) unchecked };
        },
      )

  commanded_run : (mode : Mode) → RunsIn words mode → IsFor purposes.Run words
  unfolding run_fault place_of
  commanded_run mode h =
      let c = commands words h.commands.faultless in
      let same : Some (commanded is_check_named read write c.0) ≡ Some (command.Run h.input h.restart mode) = sym c.1 ∙ h.commands.commands in
      let is : commanded is_check_named read write c.0 ≡ command.Run h.input h.restart mode = cc in
      rw h.commands.faultless (mapped_none (λ p. p.at) (piece_of Check (pieces words)) (runs is_check_named read write c.0 h.input h.restart mode is).0)

  check_commanded : IsFor purposes.Check words → Checks words
  unfolding check_fault place_of
  check_commanded e = by is_check_named refl
    where
      none : (first (faults words) ≡ None) × ((if is_some (option_map (λ p. p.at) (piece_of Check (pieces words))) then None else option_map (λ p. p.at) (piece_of Input (pieces words))) ≡ None)
      none = none_first (first (faults words)) (if is_some (option_map (λ p. p.at) (piece_of Check (pieces words))) then None else option_map (λ p. p.at) (piece_of Input (pieces words))) e

      faultless : faults words ≡ []
      faultless = no_first (faults words) none.0

      by : (b : Bool) → is_check_named ≡ b → Checks words
      by true h = let c = commands words faultless in record { input = c.0; commands = record { faultless = faultless; commands = c.1 ∙ ap (λ b. Some (commanded b read write c.0)) h } }
      by false h =
          let name = named words faultless in
          let there : is_some (option_map (λ p. p.at) (piece_of Check (pieces words))) ≡ false = sym (is_some-map (λ p. p.at) (piece_of Check (pieces words))) ∙ h in
          let some : Some name.0.at ≡ None = ap (option_map (λ p. p.at)) (sym name.1) ∙ ap (λ b. if b then None else option_map (λ p. p.at) (piece_of Input (pieces words))) (sym there) ∙ none.1 in
          absurd (cc)

  commanded_check : Checks words → IsFor purposes.Check words
  unfolding check_fault place_of
  commanded_check h =
      let c = commands words h.commands.faultless in
      let same : Some (commanded is_check_named read write c.0) ≡ Some (command.Check h.input) = sym c.1 ∙ h.commands.commands in
      let is : commanded is_check_named read write c.0 ≡ command.Check h.input = cc in
      let there : is_some (option_map (λ p. p.at) (piece_of Check (pieces words))) ≡ true = sym (is_some-map (λ p. p.at) (piece_of Check (pieces words))) ∙ checks is_check_named read write c.0 h.input is in
      rw (h.commands.faultless, there) refl

pub each_commanded : EachCallIsCommanded
each_commanded words = ((run_commanded words, λ h. commanded_run words h.0 h.1), (check_commanded words, commanded_check words))

-- the mode that is answered is the run's
module _ (words : List (List ℕ)) where
  pub in_mode : (o : Options) (mode : Mode) → AreOptions words o → RunsIn words mode → mode_in o ≡ mode
  in_mode o mode h run = by (slice_get words o.input) (is_some o.check) (file_at words o.read) (is_some o.read) h.read (sym h.commands ∙ run.commands.commands)
    where
      by : (input : Option (List ℕ)) (b : Bool) (read : Option (List ℕ)) (r : Bool) → is_some read ≡ r →
          option_map (commanded b read (file_at words o.write)) input ≡ Some (command.Run run.input run.restart mode) → (if b then Fresh else (if r then Resume else Fresh)) ≡ mode
      by None b read r s e = absurd (cc)
      by (Some input) true read r s e = absurd (cc)
      by (Some input) false None false s e = cc
      by (Some input) false None true s e = absurd (cc)
      by (Some input) false (Some file) true s e = cc
      by (Some input) false (Some file) false s e = absurd (cc)

  pub no_mode : (at : ℕ) (mode : Mode) → HasFault words at → RunsIn words mode → Fresh ≡ mode
  no_mode at mode (others, e) run = let none : at ∷ others ≡ [] = sym e ∙ run.commands.faultless in absurd (cc)

  -- words without a fault and without `-check` are a run's
  pub other_mode : (o : Options) → AreOptions words o → ¬ IsFor purposes.Run words → mode_in o ≡ Fresh
  unfolding run_fault
  other_mode o h not_run = by o.check refl
    where
      by : (q : Option ℕ) → o.check ≡ q → mode_in o ≡ Fresh
      by None e = absurd (not_run (rw (h.faultless, h.check, e) refl))
      by (Some at) e = rw e refl
