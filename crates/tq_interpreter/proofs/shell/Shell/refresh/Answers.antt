use Rattle.std.proofs.Common.{◌∙◌, ◌++◌, ap}
use Rattle.tq_interpreter.{specs.{Answer.{World, answer}, Known.Known}, proofs.ShellLines.{refresh_answered, shell_on}}
use Rattle.tq_syntax.specs.declared.line.Line.TheVariants.{Refresh}
use Rattle.tq_interpreter.proofs.shell.Shell.refresh.Goals as goal

pub invariant_of-self : goal.invariant_of-self
invariant_of-self c =
    shell_on c.self.inside.recorder c.refresh_all.new.recorder c.self.inside.levels c.self.inside.txns.items c.refresh_all.ensures.later c.self.invariant

pub invariant_of-self-2 : goal.invariant_of-self-2
invariant_of-self-2 c =
    shell_on c.self.inside.recorder c.refresh_all.new.recorder c.self.inside.levels c.self.inside.txns.items c.refresh_all.ensures.later c.self.invariant

pub returns : goal.returns
returns c =
    let known : Known = record { levels = c.self.inside.levels; limits = c.self.inside.limits; others = c.self.inside.others; txns = c.self.inside.txns.items } in
    let said = refresh_answered c.self.inside.recorder.journals known in
    record {
      text = c.in_ok-refresh_all.ensures.text ∙ ap (λ t. c.args.text.now.items ++ t) (said.0 ∙ ap (λ (w : World). (answer w Refresh).text) c.self.view_is);
      after = (λ i. record { journals = c.in_ok-refresh_all.ensures.after i; known = known }) ∙ said.1 ∙ ap (λ (w : World). (answer w Refresh).after) c.self.view_is;
      kept = tt;
    }
