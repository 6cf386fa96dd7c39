use Rattle.std.proofs.{Common.{◌≡◌, ◌∙◌, ◌<◌, ◌+◌, ◌++◌, length, ap, sym, subst}, lemmas.List.Elements.All-set}
use Rattle.tq_syntax.specs.declared.line.Line.TheVariants as lines
use Rattle.tq_interpreter.specs.{declared.txn_slot.TxnSlot.TxnSlot, Answer.{World, answer}, Known.IsKept}
use Rattle.tq_interpreter.proofs.ShellLines.{are_kept_on, txn_answered}
use Rattle.tq_interpreter.proofs.shell.Shell.answer.Goals as goal

pub answer_txn-requires-clause-txn : goal.answer_txn-requires-clause-txn
answer_txn-requires-clause-txn c =
    let less : c.in-Some.place < length c.self.inside.txns.items = subst (λ (v : World). c.in-Some.place < length v.known.txns) (sym c.self.view_is) c.in-Some.ensures.some.1 in
    subst (λ (k : TxnSlot). IsKept c.self.inside.recorder k.txn) (sym c.index_mut-kept.ensures.value) (c.self.invariant.1 c.in-Some.place c.index_mut-kept.result.now less)

pub invariant_of-self : goal.invariant_of-self
invariant_of-self c =
    let now = c.answer_txn.new.recorder in
    let later = c.in_err-answer_txn-in-Some.ensures.later in
    let each = are_kept_on c.self.inside.recorder now c.self.inside.txns.items later c.self.invariant.1 in
    (later.tree ∙ c.self.invariant.0, All-set (λ (k : TxnSlot). IsKept now k.txn) c.self.inside.txns.items c.in-Some.place c.answer_txn.new.kept c.in_err-answer_txn-in-Some.ensures.txn each)

pub invariant_of-self-in-Some : goal.invariant_of-self-in-Some
invariant_of-self-in-Some c =
    let now = c.answer_txn.new.recorder in
    let later = c.in_ok-answer_txn-in-Some.ensures.later in
    let each = are_kept_on c.self.inside.recorder now c.self.inside.txns.items later c.self.invariant.1 in
    (later.tree ∙ c.self.invariant.0, All-set (λ (k : TxnSlot). IsKept now k.txn) c.self.inside.txns.items c.in-Some.place c.answer_txn.new.kept c.in_ok-answer_txn-in-Some.ensures.txn each)

pub returns-in_ok-answer_txn-in-Some : goal.returns-in_ok-answer_txn-in-Some
returns-in_ok-answer_txn-in-Some c =
    let before = c.args.text.now.items in
    let line = lines.Txn c.in-Txn.number c.in-Txn.line in
    let w : World = record { journals = c.self.inside.recorder.journals; known = record { levels = c.self.inside.levels; limits = c.self.inside.limits; others = c.self.inside.others; txns = c.self.inside.txns.items } } in
    let less : c.in-Some.place < length c.self.inside.txns.items = subst (λ (v : World). c.in-Some.place < length v.known.txns) (sym c.self.view_is) c.in-Some.ensures.some.1 in
    let number : c.in-Txn.number ≡ c.self.inside.others + c.in-Some.place + 1 = subst (λ (v : World). c.in-Txn.number ≡ v.known.others + c.in-Some.place + 1) (sym c.self.view_is) c.in-Some.ensures.some.0 in
    let end = txn_answered w c.in-Txn.number c.in-Some.place c.in-Txn.line c.index_mut-kept.result.now c.answer_txn.new.kept c.answer_txn.new.recorder.journals before c.answer_txn.new.text.items number less c.index_mut-kept.ensures.value c.in_ok-answer_txn-in-Some.ensures.answered in
    let text = end.0 ∙ ap (λ (v : World). before ++ (answer v line).text) c.self.view_is in
    record {
      text = rw c.in-Txn.is text;
      after = rw c.in-Txn.is (end.1 ∙ ap (λ (v : World). (answer v line).after) c.self.view_is);
      begun = tt;
      kept = tt;
    }
