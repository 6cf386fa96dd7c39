use Rattle.std.proofs.Common.{◌≤◌, List, length, sym, subst, arith}
use Rattle.tq_syntax.specs.{declared.script.Line.Line, Scripts.said_lines}
use Rattle.tq_shell.proofs.ReportLaws.{bad_line, few_scripts}
use Rattle.tq_shell.proofs.running.run_text.Goals as goal

pub run_scripts-requires-clause-few : goal.run_scripts-requires-clause-few
run_scripts-requires-clause-few g c κs within =
    let scripts = c.in-Ok.scripts in
    let read = c.in-Ok.ensures in
    let few : length scripts.items ≤ 16 = subst (λ (l : List (List Line)). length l ≤ 16) (sym read.1) (few_scripts (said_lines c.args.text.now) read.0) in
    omega (arith, scripts.ok.0, few)

pub returns-in-Err-Bad : goal.returns-in-Err-Bad
returns-in-Err-Bad g c = bad_line (said_lines c.args.text.now) c.in-Err-Bad.field-0 c.in-Err-Bad.line _ c.in-Err-Bad.field-0-is c.in-Err-Bad.line-is c.in-Err-Bad.ensures
