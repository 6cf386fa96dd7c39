use Rattle.std.proofs.Common.{◌≡◌, ◌+◌, ◌^◌, ◌≤◌, length, arith}
use Rattle.tq_cluster.proofs.Closing.{are_journals}
use Rattle.tq_cluster.proofs.cluster.Cluster.journals_into.Goals as goal

pub new-requires : goal.new-requires
new-requires g c =
    let servers = c.server_journals-servers.result in
    let desk = c.desk_journal-desk.result in
    let view = c.view_journal-view.result in
    let count : length servers.items + 1 ≡ 2 ^ c.self.inside.levels =
    omega (arith, servers.ok.0, c.server_journals-servers.ensures.one_each, c.self.inside.servers.ok.0, c.self.invariant.one_each) in
    let desk_fits : length desk.items ≤ c.entries-entries.result = omega (arith, desk.ok.0, c.desk_journal-desk.ensures.fits, c.entries-entries.ensures.value) in
    let view_fits : length view.items ≤ c.entries-entries.result = omega (arith, view.ok.0, c.view_journal-view.ensures.fits) in
    are_journals servers.items (λ journal. journal.items) c.self.inside.levels c.entries-entries.result c.self.inside.limits desk.items view.items
    c.entries-entries.ensures.value count c.server_journals-servers.ensures.fit desk_fits view_fits c.view_journal-view.ensures.of_tree
