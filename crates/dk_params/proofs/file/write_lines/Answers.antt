use Rattle.std.proofs.Common.{length, refl, append_assoc, arith}
use Rattle.dk_params.specs.Params.{count_line, variable_lines, asked_lines, derivative_lines, lines_with}
use Rattle.dk_params.specs.Pages.{told}
use Rattle.dk_params.proofs.Parts.{written_none, written_line, written_lines, written_all}
use Rattle.dk_params.proofs.file.write_lines.Goals as goal

pub returns : goal.returns
returns c =
    let n = length c.args.variables.now in
    let w1 = written_line (count_line n c.args.tags.variables.now) (written_none c.args.page.now) c.count_line.ensures in
    let w2 = written_lines (variable_lines c.args.variables.now c.args.point.now) w1 c.write_variables.ensures in
    let w3 = written_line (count_line (length c.args.responses.now) c.args.tags.functions.now) w2 c.count_line-2.ensures in
    let w4 = written_lines (asked_lines c.args.responses.now) w3 c.write_asked.ensures in
    let w5 = written_line (count_line n c.args.tags.derivatives.now) w4 c.count_line-3.ensures in
    let w6 = written_lines (derivative_lines c.args.variables.now) w5 c.write_derivatives.ensures in
    let w7 = written_line (count_line 0 c.args.tags.components.now) w6 c.count_line-4.ensures in
    let w8 = written_line (count_line c.args.evaluation c.args.tags.evaluation.now) w7 c.count_line-5.ensures in
    written_all (lines_with (told c.args.tags) c.args.variables.now c.args.responses.now c.args.evaluation c.args.point.now) w8 (simp append_assoc refl) (omega arith)
