use Rattle.std.{proofs.Common.{◌≡◌, ◌≤◌, length, map}, specs.{List.All, Vec.{vec_len, vec_capacity}}}
use Rattle.tq_tables.specs.Parts.{AreLegalServers}
use Rattle.tq_cluster.proofs.journals.server_journals.Given as goal

-- a legal journal for each cell so far, and room for the rest
abbrev pub invariant-loop-cell : goal.invariant-loop-cell
invariant-loop-cell l = record {
  can_next : (goal.iterator-loop-cell).can_next l.cell-iterator;
  is_finite : (goal.iterator-loop-cell).is_finite l.cell-iterator;
  one_each : vec_len l.journals ≡ length l.yielded;
  room : vec_capacity l.journals ≡ vec_capacity l.initial.journals;
  legal : AreLegalServers 1 (map (λ journal. journal.items) l.journals.items);
  fit : All (λ journal. length journal ≤ l.entries) (map (λ journal. journal.items) l.journals.items);
}
