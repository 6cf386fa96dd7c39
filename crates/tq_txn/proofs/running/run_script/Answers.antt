use Rattle.std.proofs.{Common.{ℕ, List, None, Some, sym, subst, ◌∙◌}, lemmas.Result.err_from_is_err_and}
use Rattle.std.specs.Option.{IfSome}
use Rattle.tq_txn.specs.{Dialogue.{Ends, Follows}, Script.{closing, script_asked}, Told.IsOpenIn}
use Rattle.tq_txn.proofs.{LineLaws.{follows_end, follows_then}, Following.{follows_cut, next_line, last_line, no_line}}
use Rattle.tq_syntax.specs.declared.script.Line.{Line}
use Rattle.tq_txn.proofs.running.run_script.Goals as goal

pub close-requires : goal.close-requires
close-requires g c =
    subst (λ (n : ℕ). IfSome c.loop-line.open_txn (IsOpenIn n (g.A.Asker.told c.loop-line.asker))) (sym (c.loop-line.invariant.tree ∙ c.requires)) c.loop-line.invariant.txn

pub loop-line-preserved : goal.loop-line-preserved
loop-line-preserved g c = record {
  asks = λ new end rest. c.loop-line.invariant.asks new end
      (next_line c.args.levels c.args.limits c.lines-lines.result.now c.loop-line.line-index c.line-item.result c.loop-line.open_txn c.in_ok-open_txn.open_txn (g.A.Asker.told c.loop-line.asker) (g.A.Asker.told c.run_line.new.asker) new end
      c.loop-line-test.true c.line-item.is c.in_ok-open_txn.ensures.asks rest);
  tree = c.in_ok-open_txn.ensures.tree ∙ c.loop-line.invariant.tree;
  txn = c.in_ok-open_txn.ensures.txn;
}

pub returns-in_err-open_txn-clause-asks : goal.returns-in_err-open_txn-clause-asks
returns-in_err-open_txn-clause-asks g c =
    let p = err_from_is_err_and c.from_residual.result c.from_residual.ensures.1 in
    let new = g.A.Asker.told c.run_line.new.asker in
    let P : List Line → Type 0 = λ ls. Follows (script_asked c.args.levels c.args.limits ls None) (g.A.Asker.told c.args.asker.now) new None in
    rw p.1 (subst P c.lines-lines.ensures
    (c.loop-line.invariant.asks new None
    (last_line c.args.levels c.args.limits c.lines-lines.result.now c.loop-line.line-index c.line-item.result c.loop-line.open_txn (g.A.Asker.told c.loop-line.asker) new c.loop-line-test.true c.line-item.is c.in_err-open_txn.ensures.asks)))

pub returns-in_err-_none-clause-asks : goal.returns-in_err-_none-clause-asks
returns-in_err-_none-clause-asks g c =
    let p = err_from_is_err_and c.from_residual-in_err-_none.result c.from_residual-in_err-_none.ensures.1 in
    let old = g.A.Asker.told c.loop-line.asker in
    let new = g.A.Asker.told c.close.new.asker in
    let P : List Line → Type 0 = λ ls. Follows (script_asked c.args.levels c.args.limits ls None) (g.A.Asker.told c.args.asker.now) new None in
    let cut = follows_cut (closing c.loop-line.open_txn) (λ none. Ends tt) old new c.in_err-_none.ensures.asks in
    rw p.1 (subst P c.lines-lines.ensures
    (c.loop-line.invariant.asks new None (no_line c.args.levels c.args.limits c.lines-lines.result.now c.loop-line.line-index c.loop-line.open_txn old new None c.loop-line-test.false cut)))

pub returns-clause-asks : goal.returns-clause-asks
returns-clause-asks g c =
    let old = g.A.Asker.told c.loop-line.asker in
    let new = g.A.Asker.told c.close.new.asker in
    let P : List Line → Type 0 = λ ls. Follows (script_asked c.args.levels c.args.limits ls None) (g.A.Asker.told c.args.asker.now) new (Some tt) in
    let closed = follows_then (closing c.loop-line.open_txn) (λ none. Ends tt) c.in_ok-_none._none old new new (Some tt) c.in_ok-_none.ensures.asks (follows_end tt new) in
    subst P c.lines-lines.ensures
    (c.loop-line.invariant.asks new (Some tt) (no_line c.args.levels c.args.limits c.lines-lines.result.now c.loop-line.line-index c.loop-line.open_txn old new (Some tt) c.loop-line-test.false closed))
