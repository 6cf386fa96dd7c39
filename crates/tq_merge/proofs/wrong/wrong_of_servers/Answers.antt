use Rattle.std.proofs.Common.{◌≡◌, ◌+◌, ℕ, List, ap, subst}
use Rattle.tq_shape.specs.Tree.{Server}
use Rattle.tq_node.specs.NodeJournal.{NodeEntry}
use Rattle.tq_merge.{specs.Wrong.{IsLegalServer, IsWrongOfServer}, proofs.Legality.{servers_legal, servers_wrong}}
use Rattle.tq_merge.proofs.wrong.wrong_of_servers.Goals as goal

pub returns-in-Some : goal.returns-in-Some
returns-in-Some c =
    let at : c.loop-entries.number + 1 ≡ c.loop-entries.entries-index + 1 = ap (λ n. n + 1) c.loop-entries.invariant.0 in
    let found = rw c.in-Some.is at c.in_ok-wrong.ensures in
    servers_wrong (λ entries. entries.items) c.args.servers.now c.loop-entries.entries-index c.entries-item.result c.loop-entries-test.true c.entries-item.is c.loop-entries.invariant.1
    (c.loop-entries.number + 1) at c.in-Some.wrong
    (subst (λ (n : ℕ). IsWrongOfServer n c.entries-item.result.items c.in-Some.wrong) (ap (λ (s : Server). s.number) c.new-server.ensures)
    (subst (λ (es : List NodeEntry). IsWrongOfServer c.new-server.result.number es c.in-Some.wrong) c.as_slice.ensures.value found))

pub loop-entries-preserved : goal.loop-entries-preserved
loop-entries-preserved c =
    let at : c.loop-entries.number + 1 ≡ c.loop-entries.entries-index + 1 = ap (λ n. n + 1) c.loop-entries.invariant.0 in
    let own = rw c.in_default.is at c.in_ok-wrong.ensures in (
      at,
      servers_legal (λ entries. entries.items) c.args.servers.now c.loop-entries.entries-index c.entries-item.result c.loop-entries-test.true c.entries-item.is c.loop-entries.invariant.1
          (c.loop-entries.number + 1) at
          (subst (λ (n : ℕ). IsLegalServer n c.entries-item.result.items) (ap (λ (s : Server). s.number) c.new-server.ensures)
          (subst (λ (es : List NodeEntry). IsLegalServer c.new-server.result.number es) c.as_slice.ensures.value own)),
    )
