use Rattle.std.{specs.Prelude.IfOk, proofs.Common.{◌≡◌, true, ◌+◌, ◌<◌, ◌^◌, ℕ, ap, sym, subst, ◌∙◌}}
use Rattle.tq_tables.specs.{Parts.AreOfTree, Rows.{row_at, servers_where}, declared.file_row.FileRow.FileRow}
use Rattle.tq_tables.proofs.Kept.{exact-found, no_row, version-none, version-some}
use Rattle.tq_tables.proofs.file_rows.next_row.Goals as goal

pub of_next_commit-requires-clause-of_tree : goal.of_next_commit-requires-clause-of_tree
of_next_commit-requires-clause-of_tree c =
    subst (λ (levels : ℕ). AreOfTree levels 1 c.args.nodes.now) (sym (ap (λ (row : FileRow). row.current.levels) (exact-found c.args.table.now.levels c.args.nodes.now c.args.table.now.rows c.args.file.now c.in-Some.row.now c.requires.exact c.in-Some.ensures).0)) c.requires.of_tree

pub of_next_commit-requires-clause-exact : goal.of_next_commit-requires-clause-exact
of_next_commit-requires-clause-exact c =
    let row = c.in-Some.row.now in
    let exact = (exact-found c.args.table.now.levels c.args.nodes.now c.args.table.now.rows c.args.file.now c.in-Some.row.now c.requires.exact c.in-Some.ensures).0 in
    exact ∙ sym (ap (λ (r : FileRow). row_at r.current.levels c.args.nodes.now row.file row.version) exact)

pub of_next_commit-requires-clause-room : goal.of_next_commit-requires-clause-room
of_next_commit-requires-clause-room c =
    subst (λ (version : ℕ). version + 1 < 2 ^ 64) (sym (version-some c.args.file.now c.args.table.now.rows c.in-Some.row.now (sym c.in-Some.ensures))) c.requires.room

pub returns-in-Some : goal.returns-in-Some
returns-in-Some c =
    let found = exact-found c.args.table.now.levels c.args.nodes.now c.args.table.now.rows c.args.file.now c.in-Some.row.now c.requires.exact c.in-Some.ensures in
    let levels = ap (λ (row : FileRow). row.current.levels) found.0 in
    let version = version-some c.args.file.now c.args.table.now.rows c.in-Some.row.now (sym c.in-Some.ensures) in
    subst (λ (target : FileRow). IfOk c.of_next_commit.result (λ row. row ≡ target))
    (λ i. row_at (levels i) c.args.nodes.now (found.1 i) (version i + 1))
    c.of_next_commit.ensures

pub first_row-requires-clause-of_tree : goal.first_row-requires-clause-of_tree
first_row-requires-clause-of_tree c = subst (λ (levels : ℕ). AreOfTree levels 1 c.args.nodes.now) (sym c.levels.ensures) c.requires.of_tree

pub first_row-requires-clause-early : goal.first_row-requires-clause-early
first_row-requires-clause-early c = c.requires.holders.levels_are ∙ sym c.levels.ensures

pub first_row-requires-clause-within : goal.first_row-requires-clause-within
first_row-requires-clause-within c = c.requires.holders.within

pub first_row-requires-clause-all : goal.first_row-requires-clause-all
first_row-requires-clause-all c = c.requires.holders.all ∙ ap (λ (levels : ℕ). servers_where levels (λ node. true) c.args.nodes.now) (sym c.levels.ensures)

pub first_row-requires-clause-others : goal.first_row-requires-clause-others
first_row-requires-clause-others c = c.requires.holders.others c.args.file.now (no_row c.args.file.now c.args.table.now.rows (sym c.in-None.ensures))

pub returns-in-None : goal.returns-in-None
returns-in-None c =
    let version = version-none c.args.file.now c.args.table.now.rows (sym c.in-None.ensures) in
    subst (λ (target : FileRow). IfOk c.first_row.result (λ row. row ≡ target))
    (λ i. row_at (c.levels.ensures i) c.args.nodes.now c.args.file.now (version i + 1))
    c.first_row.ensures
