-- The parameters file of an evaluation, after the Dakota User's Manual, "Parameters file format (standard)" and
-- "Parameters file format (APREPRO)".
use Rattle.std.specs.Prelude.{ℕ, ◌-◌, List, [], ◌∷◌, ◌++◌, length, map, replicate, flat_map, codes, decimal}
use Rattle.std.specs.List.{zip, enumerate_from}
use Rattle.dk_num.specs.Decimal.{Decimal}
use Rattle.dk_num.specs.Texts.{sci_text}
use Rattle.dk_types.specs.declared.study.Study.{Study}
use Rattle.dk_types.specs.declared.study.ParamForm.{ParamForm}
use Rattle.dk_types.specs.declared.study.ParamForm.TheVariants.{Standard, Aprepro}
use Rattle.dk_params.specs.declared.task.Task.{Task}

-- what the files of a study's evaluations depend on
abbrev pub task_of : Study → Task
task_of study = record { variables = study.variables.labels; responses = study.responses.labels; interface = study.interface }

-- a value and the tag that says what it is
pub record Line : Type 0 where
  pub value : List ℕ
  pub tag : List ℕ

abbrev pub line : (value tag : List ℕ) → Line
line value tag = record { value = value; tag = tag }

-- the value at the right of 22 places, a blank and the tag; or { TAG = VALUE }
abbrev pub line_text : ParamForm → Line → List ℕ
line_text Standard l = replicate (22 - length l.value) 32 ++ (l.value ++ (codes " " ++ (l.tag ++ codes "\n")))
line_text Aprepro l = codes "{ " ++ (l.tag ++ (codes " = " ++ (l.value ++ codes " }\n")))

-- the tags of the numbers of variables, functions, derivative variables and analysis components, and of the evaluation
pub record Tags : Type 0 where
  pub variables : List ℕ
  pub functions : List ℕ
  pub derivatives : List ℕ
  pub components : List ℕ
  pub evaluation : List ℕ

abbrev pub tags : ParamForm → Tags
tags Standard = record {
  variables = codes "variables";
  functions = codes "functions";
  derivatives = codes "derivative_variables";
  components = codes "analysis_components";
  evaluation = codes "eval_id";
}
tags Aprepro = record {
  variables = codes "DAKOTA_VARS";
  functions = codes "DAKOTA_FNS";
  derivatives = codes "DAKOTA_DER_VARS";
  components = codes "DAKOTA_AN_COMPS";
  evaluation = codes "DAKOTA_EVAL_ID";
}

abbrev pub count_line : ℕ → (tag : List ℕ) → Line
count_line n tag = line (decimal n) tag

-- PREFIX and a number, a colon and a label
abbrev pub numbered : (prefix : List ℕ) → (number : ℕ) → (label : List ℕ) → List ℕ
numbered prefix number label = prefix ++ (decimal number ++ (codes ":" ++ label))

-- each variable with its value
abbrev pub variable_lines : (labels : List (List ℕ)) → (point : List Decimal) → List Line
variable_lines labels point = map (λ (label, x). line (sci_text x) label) (zip labels point)

-- the active set: of each response, by its number from 1, the value is asked for (1), and no derivative
abbrev pub asked_lines : (labels : List (List ℕ)) → List Line
asked_lines labels = map (λ (number, label). line (codes "1") (numbered (codes "ASV_") number label)) (enumerate_from 1 labels)

-- the variables that derivatives would be taken by: each, by its number from 1
abbrev pub derivative_lines : (labels : List (List ℕ)) → List Line
derivative_lines labels = map (λ (number, label). line (decimal number) (numbered (codes "DVV_") number label)) (enumerate_from 1 labels)

abbrev pub lines_with : Tags → (variables responses : List (List ℕ)) → (evaluation : ℕ) → (point : List Decimal) → List Line
lines_with t variables responses evaluation point =
    count_line (length variables) t.variables ∷ (variable_lines variables point
    ++ (count_line (length responses) t.functions ∷ (asked_lines responses
    ++ (count_line (length variables) t.derivatives ∷ (derivative_lines variables
    ++ (count_line 0 t.components ∷ (count_line evaluation t.evaluation ∷ [])))))))

-- the bytes of the parameters file of an evaluation at a point, for labels
abbrev pub params_with : ParamForm → (variables responses : List (List ℕ)) → (evaluation : ℕ) → (point : List Decimal) → List ℕ
params_with form variables responses evaluation point = flat_map (line_text form) (lines_with (tags form) variables responses evaluation point)

abbrev pub params_of : Task → (evaluation : ℕ) → (point : List Decimal) → List ℕ
params_of task evaluation point = params_with task.interface.form task.variables task.responses evaluation point

-- for a study
abbrev pub params : Study → (evaluation : ℕ) → (point : List Decimal) → List ℕ
params study evaluation point = params_of (task_of study) evaluation point
