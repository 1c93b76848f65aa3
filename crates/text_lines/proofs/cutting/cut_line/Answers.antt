use Rattle.std.proofs.Common.{◌≡◌, ◌<◌, length, arith}
use Rattle.std.proofs.lemmas.Bool.Decides.{nat_tests}
use Rattle.text_lines.proofs.Cuts.{lines_of_empty, lines_of_one, lines_of_cut}
use Rattle.text_lines.proofs.cutting.cut_line.Goals as goal

pub returns-then-is_empty-clause-none : goal.returns-then-is_empty-clause-none
returns-then-is_empty-clause-none c =
    let none : length c.args.text.now ≡ 0 = grind (arith, nat_tests, c.if-is_empty.ensures) in
    lines_of_empty c.args.text.now none

pub returns-in_default-clause-lines : goal.returns-in_default-clause-lines
returns-in_default-clause-lines c =
    let some : 0 < length c.args.text.now = grind (arith, nat_tests, c.if-is_empty.ensures) in
    lines_of_one c.args.text.now some c.in_default.ensures.none

pub returns-clause-lines : goal.returns-clause-lines
returns-clause-lines c = lines_of_cut c.args.text.now c.in-Some.line.now c.in-Some.rest.now c.in-Some.ensures.parts
