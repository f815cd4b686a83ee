-- The table and the summary.
use Rattle.std.specs.Prelude.{ℕ, ◌+◌, ◌-◌, List, [], ◌∷◌, ◌++◌, length, flat_map, codes, decimal, slice_get, Option, Some, None}
use Rattle.dk_num.specs.Decimal.{Decimal}
use Rattle.dk_num.specs.Texts.{table_text}
use Rattle.dk_types.specs.declared.study.Study.{Study}
use Rattle.dk_types.specs.declared.study.Ending.{Ending}
use Rattle.dk_types.specs.declared.study.Ending.TheVariants.{Finished, Aborted}
use Rattle.dk_types.specs.declared.study.Why.{Why}
use Rattle.dk_types.specs.declared.study.Why.TheVariants.{Complete, Threshold, Iterations, Evaluations}
use Rattle.dk_types.specs.declared.rows.Row.{Row}
use Rattle.dk_types.specs.Best.{best, duplicates}

-- each word after a blank
abbrev pub words_text : List (List ℕ) → List ℕ
words_text words = flat_map (λ word. codes " " ++ word) words

-- each decimal after a blank
abbrev pub decimals_text : List Decimal → List ℕ
decimals_text decimals = flat_map (λ d. codes " " ++ table_text d) decimals

-- the columns' names: of the number, the interface, the variables and the responses
abbrev pub header : Study → List ℕ
header study = codes "%eval_id interface" ++ (words_text study.variables.labels ++ (words_text study.responses.labels ++ codes "\n"))

-- a row's number, its interface, its point and its values
abbrev pub row_line : ℕ → Row → List ℕ
row_line number row = decimal number ++ (codes " NO_ID" ++ (decimals_text row.point ++ (decimals_text row.values ++ codes "\n")))

-- the lines of rows that are numbered from here on
abbrev pub row_lines : ℕ → List Row → List ℕ
row_lines number [] = []
row_lines number (row ∷ rows) = row_line number row ++ row_lines (number + 1) rows

abbrev pub table : Study → List Row → List ℕ
table study rows = header study ++ row_lines 1 rows

abbrev pub why_text : Why → List ℕ
why_text Complete = codes "complete"
why_text Threshold = codes "threshold_delta"
why_text Iterations = codes "max_iterations"
why_text Evaluations = codes "max_function_evaluations"

abbrev pub ending_line : Ending → List ℕ
ending_line (Finished why) = codes "<<<<< Study finished: " ++ (why_text why ++ codes "\n")
ending_line (Aborted evaluation attempts) =
    codes "<<<<< Study aborted: evaluation " ++ (decimal evaluation ++ (codes " failed, attempts " ++ (decimal attempts ++ codes "\n")))

-- how many rows there are, and how many of them are duplicates
abbrev pub counts_line : (total repeated : ℕ) → List ℕ
counts_line total repeated =
    codes "<<<<< Function evaluation summary: " ++ (decimal total ++ (codes " total (" ++ (decimal (total - repeated) ++
    (codes " new, " ++ (decimal repeated ++ codes " duplicate)\n")))))

-- LABEL = VALUE
abbrev pub setting : List ℕ → Decimal → List ℕ
setting label value = label ++ (codes " = " ++ table_text value)

-- a setting for each label, the first after this text and each of the others after a comma
abbrev pub settings_after : List ℕ → List (List ℕ) → List Decimal → List ℕ
settings_after before (label ∷ labels) (value ∷ values) = before ++ (setting label value ++ settings_after (codes ", ") labels values)
settings_after before _ _ = []

abbrev pub settings : List (List ℕ) → List Decimal → List ℕ
settings labels values = settings_after [] labels values

abbrev pub best_lines : Study → ℕ → Row → List ℕ
best_lines study number row =
    codes "<<<<< Best evaluation: " ++ (decimal number ++ (codes "\n<<<<< Best parameters: " ++ (settings study.variables.labels row.point ++
    (codes "\n<<<<< Best objective function: " ++ (settings study.responses.labels row.values ++ codes "\n")))))

abbrev pub best_lines_if : Study → ℕ → Option Row → List ℕ
best_lines_if study number None = []
best_lines_if study number (Some row) = best_lines study number row

-- the lines of the best row, where there is one
abbrev pub best_text : Study → List Row → Option ℕ → List ℕ
best_text study rows None = []
best_text study rows (Some i) = best_lines_if study (i + 1) (slice_get rows i)

abbrev pub summary : Study → List Row → Ending → List ℕ
summary study rows ending = ending_line ending ++ (counts_line (length rows) (duplicates rows) ++ best_text study rows (best study rows))
