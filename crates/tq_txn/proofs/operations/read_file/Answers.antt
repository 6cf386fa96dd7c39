use Rattle.std.{proofs.Common.{sym, ap, ◌∙◌, rules}, specs.Option.option_copied}
use Rattle.tq_txn.{specs.Dialogue.ended_by, proofs.{LockingLaws.unused, LineLaws.first_of_reads}}
use Rattle.tq_txn.proofs.operations.read_file.Goals as goal

pub returns-in-Some-clause-asks : goal.returns-in-Some-clause-asks
returns-in-Some-clause-asks g c = search rules

pub returns-clause-asks : goal.returns-clause-asks
returns-clause-asks g c =
    first_of_reads c.args.open.now c.args.file.now (g.A.Asker.told c.args.asker.now) (g.A.Asker.told c.read_at_quorum.new.asker) (ended_by c.read_at_quorum.result c.read_at_quorum.new.open)
    (sym c.pending.ensures ∙ ap option_copied c.in_default.is) (sym c.seen.ensures ∙ ap option_copied c.in_default-seen.is) (sym c.is_full.ensures ∙ c.if-is_full.false) c.read_at_quorum.ensures.asks

pub read_at_quorum-requires-clause-fresh : goal.read_at_quorum-requires-clause-fresh
read_at_quorum-requires-clause-fresh g c =
    unused c.args.open.now c.args.file.now (sym c.pending.ensures ∙ ap option_copied c.in_default.is) (sym c.seen.ensures ∙ ap option_copied c.in_default-seen.is)
