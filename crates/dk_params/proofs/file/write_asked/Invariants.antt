use Rattle.std.proofs.Common.{◌+◌, drop, map}
use Rattle.std.specs.Prelude.{codes}
use Rattle.std.specs.List.{flat_map, enumerate_from}
use Rattle.dk_params.specs.Params.{line, line_text, numbered, asked_lines}
use Rattle.dk_params.proofs.Parts.{Part}
use Rattle.dk_params.proofs.file.write_asked.Given as goal

abbrev pub invariant-loop-place : goal.invariant-loop-place
invariant-loop-place l =
    Part l.fn.page l.page l.place
    (flat_map (line_text l.fn.page.form) (map (λ (number, label). line (codes "1") (numbered (codes "ASV_") number label)) (enumerate_from (l.place + 1) (drop l.place l.labels))))
    (flat_map (line_text l.fn.page.form) (asked_lines l.labels))
