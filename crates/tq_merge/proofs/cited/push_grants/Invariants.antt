use Rattle.std.proofs.Common.{◌≡◌, ◌++◌, map, take}
use Rattle.tq_merge.specs.Placing as spec
use Rattle.tq_core.specs.Founded.{cited_grant}
use Rattle.tq_merge.proofs.cited.push_grants.Given as goal

-- those so far are entered
abbrev pub invariant-loop-grant : goal.invariant-loop-grant
invariant-loop-grant l = map spec.entry_cited l.wanted.items ≡ map spec.entry_cited l.initial.wanted.items ++ map cited_grant (take l.grant-index l.grants)
