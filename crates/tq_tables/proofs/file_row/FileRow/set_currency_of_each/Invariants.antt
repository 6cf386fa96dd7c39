use Rattle.tq_tables.proofs.Settled.{LeadsOn}
use Rattle.tq_tables.proofs.file_row.FileRow.set_currency_of_each.Given as goal

abbrev pub invariant-loop-server : goal.invariant-loop-server
invariant-loop-server l = LeadsOn l.nodes l.fn.self.current.levels l.fn.self l.self l.initial.server-iterator l.server-iterator
