use Rattle.std.proofs.Common.{◌≡◌, [], replicate}
use Rattle.tq_tables.specs.Journals.{entries_in}
use Rattle.tq_tables.proofs.tabled_journals.empty_journals.Given as goal

-- there are so many journals, each empty
abbrev pub invariant-loop : goal.invariant-loop
invariant-loop l = entries_in l.servers.items ≡ replicate l.counter []
