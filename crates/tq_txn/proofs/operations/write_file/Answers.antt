use Rattle.std.{proofs.Common.{sym, ap, ◌∙◌}, specs.Option.option_copied}
use Rattle.tq_txn.{specs.{Dialogue.ended_by, Told.answers_in}, proofs.{LockingLaws.unwritten, LineLaws.first_of_writes}}
use Rattle.tq_txn.proofs.operations.write_file.Goals as goal

pub returns-in-Some-clause-knows : goal.returns-in-Some-clause-knows
returns-in-Some-clause-knows g c = c.rewrite.ensures.cited (answers_in (g.A.Asker.told c.args.asker.now))

pub returns-clause-asks : goal.returns-clause-asks
returns-clause-asks g c =
    first_of_writes c.args.open.now c.args.file.now c.args.content (g.A.Asker.told c.args.asker.now) (g.A.Asker.told c.write_at_quorum.new.asker) (ended_by c.write_at_quorum.result c.write_at_quorum.new.open)
    (sym c.op_written.ensures ∙ ap option_copied c.in_default.is) (sym c.is_full.ensures ∙ c.if-is_full.false) c.write_at_quorum.ensures.asks

pub write_at_quorum-requires-clause-fresh : goal.write_at_quorum-requires-clause-fresh
write_at_quorum-requires-clause-fresh g c = unwritten c.args.open.now c.args.file.now (sym c.op_written.ensures ∙ ap option_copied c.in_default.is)
