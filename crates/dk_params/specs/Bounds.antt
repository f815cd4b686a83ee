-- How many bytes a parameters file takes.
use Rattle.std.specs.Prelude.{◌≡◌, ℕ, ◌+◌, ◌*◌, ◌^◌, ◌<◌, ◌≤◌, List, length}
use Rattle.std.specs.List.{All}
use Rattle.dk_num.specs.Decimal.{Decimal, IsCanonical}
use Rattle.dk_types.specs.declared.study.Study.{Study}
use Rattle.dk_params.specs.Params.{task_of, params_of}
use Rattle.dk_params.specs.declared.task.Task.{Task}

-- 320 bytes for each line, of which there are two for a variable, one for a response and five others
abbrev pub bound_with : (variables responses : ℕ) → ℕ
bound_with variables responses = (2 * variables + responses + 5) * 320

abbrev pub bound_of : Task → ℕ
bound_of task = bound_with (length task.variables) (length task.responses)

-- for a study
abbrev pub bound : Study → ℕ
bound study = bound_of (task_of study)

-- no file of any evaluation and point has more bytes
abbrev pub CoversEach : Task → ℕ → Type 0
CoversEach task most =
    (evaluation : ℕ) (point : List Decimal) → evaluation < 2 ^ 32 → length point ≡ length task.variables → All IsCanonical point → length (params_of task evaluation point) ≤ most
