use Rattle.std.proofs.Common.{drop}
use Rattle.std.specs.List.{flat_map}
use Rattle.dk_params.specs.Params.{line_text, variable_lines}
use Rattle.dk_params.proofs.Parts.{Part}
use Rattle.dk_params.proofs.file.write_variables.Given as goal

abbrev pub invariant-loop-place : goal.invariant-loop-place
invariant-loop-place l =
    Part l.fn.page l.page l.place
    (flat_map (line_text l.fn.page.form) (variable_lines (drop l.place l.labels) (drop l.place l.point)))
    (flat_map (line_text l.fn.page.form) (variable_lines l.labels l.point))
