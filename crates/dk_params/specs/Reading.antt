-- What is read from a parameters file by its tags.
use Rattle.std.specs.Prelude.{◌≡◌, ℕ, ◌^◌, ◌<◌, ◌==◌, List, [], ◌∷◌, length, drop, map, nat_lt, option_map, Option, Some, None, Result, Ok}
use Rattle.std.specs.List.{All, filter, filter_map, find, slice_split}
use Rattle.std.specs.Str.{bytes_eq}
use Rattle.dk_num.specs.Decimal.{Decimal, IsCanonical}
use Rattle.dk_num.specs.Numbers.{read_of}
use Rattle.dk_num.specs.declared.read.NumFault.{NumFault}
use Rattle.dk_types.specs.Labels.{AreLabels}
use Rattle.dk_types.specs.declared.study.ParamForm.{ParamForm}
use Rattle.dk_types.specs.declared.study.ParamForm.TheVariants.{Standard, Aprepro}
use Rattle.dk_params.specs.Params.{Line, line, tags, lines_with, params_with}

-- the words of a line: what stands between its blanks
abbrev pub words : List ℕ → List (List ℕ)
words text = filter (λ word. nat_lt 0 (length word)) (slice_split (λ b. b == 32) text)

-- what words say: a value and a tag, or { TAG = VALUE }
abbrev pub line_of : ParamForm → (words : List (List ℕ)) → Option Line
line_of Standard (value ∷ tag ∷ []) = Some (line value tag)
line_of Aprepro (brace ∷ tag ∷ equals ∷ value ∷ end ∷ []) = Some (line value tag)
line_of _ _ = None

-- what the lines of a text say
abbrev pub lines_in : ParamForm → (text : List ℕ) → List Line
lines_in form text = filter_map (λ l. line_of form (words l)) (slice_split (λ b. b == 10) text)

-- the value of the first line with this tag
abbrev pub value_of : (tag : List ℕ) → List Line → Option (List ℕ)
value_of tag lines = option_map (λ l. l.value) (find (λ l. bytes_eq l.tag tag) lines)

-- the number of a variable: its line is one of those behind the first, which says how many variables there are
abbrev pub variable_in : ParamForm → (text label : List ℕ) → Option (Result Decimal NumFault)
variable_in form text label = option_map read_of (value_of label (drop 1 (lines_in form text)))

-- each file has just its lines, each with its value and its tag
abbrev pub EachLineIsRead : Type 0
EachLineIsRead =
    (form : ParamForm) (variables responses : List (List ℕ)) (evaluation : ℕ) (point : List Decimal) →
    AreLabels variables → AreLabels responses → evaluation < 2 ^ 32 → length point ≡ length variables → All IsCanonical point →
    lines_in form (params_with form variables responses evaluation point) ≡ lines_with (tags form) variables responses evaluation point

-- read by their labels, the variables have the numbers of the point
abbrev pub EachPointIsRead : Type 0
EachPointIsRead =
    (form : ParamForm) (variables responses : List (List ℕ)) (evaluation : ℕ) (point : List Decimal) →
    AreLabels variables → AreLabels responses → evaluation < 2 ^ 32 → length point ≡ length variables → All IsCanonical point →
    map (variable_in form (params_with form variables responses evaluation point)) variables ≡ map (λ x. Some (Ok x)) point
