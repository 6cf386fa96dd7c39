use Rattle.std.proofs.Common.{ℕ, Some, None, Ok, subst}
use Rattle.tq_asks.specs.declared.ask.{NodeAsk.TheVariants.CrashIn, WorkAsk.WorkAsk}
use Rattle.tq_txn.specs.{Dialogue.{Follows, ended_by}, Lines.{any_line, down_line}}
use Rattle.tq_txn.proofs.{LineLaws.{stop_off, stop_on}, stops.stop_at.Goals.{in-Ok, in-Err}}
use Rattle.tq_txn.proofs.stops.stop_at.Goals as goal

pub returns-clause-asks : goal.returns-clause-asks
returns-clause-asks g c =
    let server = c.args.server.number in
    let old = g.A.Asker.told c.args.asker.now in
    let mid = g.A.Asker.told c.ask_any.new.asker in
    elim c.match-ask_any.branch [
      | in-Ok w ↦
          let new = g.A.Asker.told w.mark_down.new.asker in
          let P : WorkAsk → Type 0 = λ a. Follows (any_line server (CrashIn c.args.after a)) old mid (Some (record { answer = Ok w.in-Ok.field-0; after = tt })) in
          let Q : ℕ → Type 0 = λ n. Follows (down_line n) mid new (ended_by w.mark_down.result tt) in
          rw (w.asker-is, w.result-is)
          (stop_on server c.args.ask c.args.after old w.in-Ok.field-0 mid new (ended_by w.mark_down.result tt) (subst P c.in_ok-ask.ensures w.in-Ok.ensures.asks) (subst Q w.number.ensures.value w.mark_down.ensures.asks))
      | in-Err w ↦
          let P : WorkAsk → Type 0 = λ a. Follows (any_line server (CrashIn c.args.after a)) old mid None in
          rw (w.asker-is, w.result-is) (stop_off server c.args.ask c.args.after old mid (subst P c.in_ok-ask.ensures w.in-Err.ensures.err))
    ]
