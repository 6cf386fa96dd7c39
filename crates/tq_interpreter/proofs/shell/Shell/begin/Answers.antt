use Rattle.std.{proofs.Common.{◌≡◌, ◌∙◌, ◌++◌, Result, Ok, Err, ap, subst, sym}, specs.Prelude.OnErr}
use Rattle.tq_desk.specs.declared.ask.DeskAsk.TheVariants.{Begin}
use Rattle.tq_syntax.specs.declared.line.Line.TheVariants as lines
use Rattle.tq_txn.{specs.Dialogue.{line_result, desk_line}, proofs.LineLaws.asked_desk}
use Rattle.tq_interpreter.specs.{Answer.{World, IsWhole, answer_of_run, begin_end, begin_asked}, Recorded.run_line}
use Rattle.tq_interpreter.specs.Known.{AreKept, Known}
use Rattle.tq_interpreter.proofs.ShellLines.{answered_by, are_kept_on, begun_kept, begun_whole, later_by}
use Rattle.tq_interpreter.proofs.shell.Shell.begin.Goals as goal

-- what holds holds after an error
on_err : {A E : Type 0} (result : Result A E) (P : Type 0) → P → OnErr result P
on_err (Ok a) P is = tt
on_err (Err fault) P is = is

pub invariant_of-self-in_err-begin_end : goal.invariant_of-self-in_err-begin_end
invariant_of-self-in_err-begin_end c =
    let now = c.desk-answer.new.self in
    let tree = c.desk-answer.ensures.tree ∙ c.self.invariant.0 in
    let later = later_by c.self.inside.recorder now _ c.desk-answer.ensures.tree c.desk-answer.ensures.exchanges in
    let each = are_kept_on c.self.inside.recorder now c.reserve.new.self.items later (subst (AreKept c.self.inside.recorder) (sym c.reserve.ensures.items) c.self.invariant.1) in
    (tree, begun_kept c.self.inside.levels c.self.inside.limits c.self.inside.others now c.reserve.new.self c.begin_end.new.txns (line_result c.desk-answer.result) (sym tree) (c.begin_end.ensures.known c.self.inside.others) each)

pub invariant_of-self-2 : goal.invariant_of-self-2
invariant_of-self-2 c =
    let now = c.desk-answer.new.self in
    let tree = c.desk-answer.ensures.tree ∙ c.self.invariant.0 in
    let later = later_by c.self.inside.recorder now _ c.desk-answer.ensures.tree c.desk-answer.ensures.exchanges in
    let each = are_kept_on c.self.inside.recorder now c.reserve.new.self.items later (subst (AreKept c.self.inside.recorder) (sym c.reserve.ensures.items) c.self.invariant.1) in
    (tree, begun_kept c.self.inside.levels c.self.inside.limits c.self.inside.others now c.reserve.new.self c.begin_end.new.txns (line_result c.desk-answer.result) (sym tree) (c.begin_end.ensures.known c.self.inside.others) each)

pub returns : goal.returns
returns c =
    let known : Known = record { levels = c.self.inside.levels; limits = c.self.inside.limits; others = c.self.inside.others; txns = c.reserve.new.self.items } in
    let old : record { journals = c.self.inside.recorder.journals; known = known } ≡ c.args.self.now =
    (λ i. record { journals = c.self.inside.recorder.journals; known = record { levels = c.self.inside.levels; limits = c.self.inside.limits; others = c.self.inside.others; txns = c.reserve.ensures.items i } }) ∙ c.self.view_is in
    let ran = answered_by (desk_line Begin) (λ end. begin_end known end.answer) c.self.inside.recorder c.desk-answer.new.self (line_result c.desk-answer.result) tt c.show_replayed.ensures c.show_replayed-2.ensures c.desk-answer.ensures.tree (asked_desk Begin c.desk-answer.result c.self.inside.recorder.told c.desk-answer.new.self.told c.desk-answer.ensures.exchanges c.desk-answer.ensures.same) c.in_ok-begin_end.ensures.memory in
    let journals = c.desk-answer.new.self.journals in
    let is : record { journals = journals; known = record { levels = c.self.inside.levels; limits = c.self.inside.limits; others = c.self.inside.others; txns = c.begin_end.new.txns.items } } ≡ record { journals = journals; known = (begin_end known (line_result c.desk-answer.result)).known } =
    λ i. record { journals = journals; known = sym (c.begin_end.ensures.known c.self.inside.others) i } in
    record {
      text = c.in_ok-begin_end.ensures.text c.self.inside.others ∙ ap (λ t. c.args.text.now.items ++ t) (ran.0 ∙ ap (λ (w : World). (answer_of_run (run_line w.journals (begin_asked w.known))).text) old);
      after = is ∙ ran.1 ∙ ap (λ (w : World). (answer_of_run (run_line w.journals (begin_asked w.known))).after) old;
      whole = tt;
      kept = tt;
    }

pub returns-in_err-begin_end-clause-whole : goal.returns-in_err-begin_end-clause-whole
returns-in_err-begin_end-clause-whole c =
    let known : Known = record { levels = c.self.inside.levels; limits = c.self.inside.limits; others = c.self.inside.others; txns = c.reserve.new.self.items } in
    let after : Known = record { levels = c.self.inside.levels; limits = c.self.inside.limits; others = c.self.inside.others; txns = c.begin_end.new.txns.items } in
    let old : record { journals = c.self.inside.recorder.journals; known = known } ≡ c.args.self.now =
    (λ i. record { journals = c.self.inside.recorder.journals; known = record { levels = c.self.inside.levels; limits = c.self.inside.limits; others = c.self.inside.others; txns = c.reserve.ensures.items i } }) ∙ c.self.view_is in
    let P : World → Type 0 = λ w. IsWhole w lines.Begin (record { journals = c.desk-answer.new.self.journals; known = after }) in
    on_err c.from_residual-in_err-begin_end.result (P c.args.self.now)
    (subst P old
    (begun_whole c.self.inside.recorder c.desk-answer.new.self known after c.desk-answer.result c.show_replayed.ensures c.show_replayed-2.ensures c.desk-answer.ensures.tree c.desk-answer.ensures.exchanges c.desk-answer.ensures.same (c.begin_end.ensures.known c.self.inside.others)))
