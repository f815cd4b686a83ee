-- Attempts that were made, what each of them gave, and which lists of them can come about.
use Rattle.std.specs.Prelude.{◌≡◌, ℕ, ◌+◌, List, [], ◌∷◌, ◌++◌, length, map, Option, Some, None, option_map, is_some, IfSome, ◌==◌, ◌&&◌, if◌then◌else◌}
use Rattle.std.specs.List.{filter, find}
use Rattle.dk_num.specs.Decimal.{Decimal}
use Rattle.dk_types.specs.declared.entry.Entry.{Entry}
use Rattle.dk_types.specs.declared.entry.Outcome.{Outcome}
use Rattle.dk_types.specs.declared.entry.Outcome.TheVariants as outcome
use Rattle.dk_types.specs.declared.entry.Said.{Said}
use Rattle.dk_types.specs.declared.entry.Said.TheVariants.{Values, Failed}
use Rattle.dk_types.specs.Best.{same_point}

-- an outcome, kept
abbrev pub kept : Outcome → Said
kept (outcome.Values values) = Values values.now
kept outcome.Failed = Failed

-- the values that an attempt gave, where it gave some
abbrev pub values_of : Said → Option (List Decimal)
values_of (Values values) = Some values
values_of Failed = None

-- what the attempts of a point gave, in order
abbrev pub attempts : List Entry → List Decimal → List Said
attempts entries p = map (λ e. e.said) (filter (λ e. same_point e.point p) entries)

-- the values of the first attempt that gave some
abbrev pub first_values : List Said → Option (List Decimal)
first_values [] = None
first_values (Values values ∷ rest) = Some values
first_values (Failed ∷ rest) = first_values rest

-- how many attempts gave none
abbrev pub failures : List Said → ℕ
failures [] = 0
failures (Values values ∷ rest) = failures rest
failures (Failed ∷ rest) = failures rest + 1

-- what this attempt of a point gave, where it was made
abbrev pub said : List Entry → List Decimal → (attempt : ℕ) → Option Said
said entries p attempt = option_map (λ e. e.said) (find (λ e. same_point e.point p && (e.attempt == attempt)) entries)

-- the next attempt of a point: the one behind all that were made; none where one of them gave values
abbrev pub next_attempt : List Entry → List Decimal → Option ℕ
next_attempt entries p = if is_some (first_values (attempts entries p)) then None else Some (length (attempts entries p) + 1)

-- the entry is the next attempt of its point behind those before it, with as many decimals as there are variables and
-- as many values as there are responses
pub record IsNextEntry (variables responses : ℕ) (before : List Entry) (e : Entry) : Type 0 where
  pub point : length e.point ≡ variables
  pub values : IfSome (values_of e.said) (λ values. length values ≡ responses)
  pub next : next_attempt before e.point ≡ Some e.attempt

-- each is the next attempt of its point behind those before it
abbrev pub AreNextEntries : (variables responses : ℕ) → (before : List Entry) → List Entry → Type 0
AreNextEntries variables responses before [] = Unit {0}
AreNextEntries variables responses before (e ∷ entries) =
    IsNextEntry variables responses before e × AreNextEntries variables responses (before ++ e ∷ []) entries

-- a well-formed list of entries
abbrev pub AreEntries : (variables responses : ℕ) → List Entry → Type 0
AreEntries variables responses entries = AreNextEntries variables responses [] entries
