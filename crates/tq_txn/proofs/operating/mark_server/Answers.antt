use Rattle.std.proofs.Common.{ℕ, Option, Some, Ok, subst}
use Rattle.tq_asks.specs.declared.ask.{NodeAsk.NodeAsk, NodeReply.NodeReply}
use Rattle.tq_live.specs.declared.view.ViewAsk.TheVariants.{Mark}
use Rattle.tq_txn.specs.{Dialogue.{LineEnd, Follows, ended_by, line_result, view_line}, Lines.any_line, Script.mark_ask}
use Rattle.tq_txn.proofs.LineLaws.{asked_view, follows_then}
use Rattle.tq_txn.proofs.operating.mark_server.Goals as goal

pub returns-in-Ok-clause-asks : goal.returns-in-Ok-clause-asks
returns-in-Ok-clause-asks g c =
    let old = g.A.Asker.told c.args.asker.now in
    let mid = g.A.Asker.told c.ask_any.new.asker in
    let new = g.A.Asker.told c.view.new.self in
    let server = c.args.id.number in
    let end : LineEnd (Option NodeReply) (Unit {0}) = record { answer = Ok c.in-Ok._reply; after = tt } in
    let P : NodeAsk → Type 0 = λ a. Follows (any_line server a) old mid (Some end) in
    let Q : ℕ → Type 0 = λ n. Follows (view_line (Mark n c.args.up)) mid new (ended_by (line_result c.view.result) tt) in
    follows_then (any_line server (mark_ask c.args.up)) (λ e. view_line (Mark server c.args.up)) end old mid new (ended_by (line_result c.view.result) tt)
    (subst P c.mark_ask.ensures c.in-Ok.ensures.asks)
    (subst Q c.number-server.ensures.value (asked_view (Mark c.number-server.result c.args.up) c.view.result mid new c.view.ensures.exchanges c.view.ensures.same))
