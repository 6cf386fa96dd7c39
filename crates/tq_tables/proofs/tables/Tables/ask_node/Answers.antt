use Rattle.std.{specs.Prelude.reverse, proofs.lemmas.List.length-set}
use Rattle.std.proofs.Common.{◌≡◌, ℕ, ◌-◌, ◌<◌, ◌≤◌, length, set, get_or, ap, sym, subst, ◌∙◌, refl, arith}
use Rattle.tq_desk.specs.DeskJournal.{commits}
use Rattle.tq_node.specs.{Node.{NodeView, server_after}, Records.node_reply, Telling.{AreReached, raised_files}}
use Rattle.tq_shape.specs.Journal.{entry}
use Rattle.tq_tables.specs.{Tables.{both, node_in, with_node, TablesView, tables_at}, declared.holders.Holders.Holders}
use Rattle.tq_tables.specs.{Files.{AreHolders, held_by, FilesView}, Parts.{AreOfTree, PartsView}, Rows.file_rows}
use Rattle.tq_tables.proofs.{Held.{held-asked, held-same}, RowLaws.of_tree-at}
use Rattle.tq_tables.proofs.Noted.{rows-at, bare-is, nothing-kept, nothing-reserved, shown}
use Rattle.tq_tables.proofs.Restood.{below, found-put, is_there, next-number, node-noted, node_in-at, rows-stand, stands-at, with_nodes, with_nodes-at}
use Rattle.tq_tables.specs.Files as spec
use Rattle.tq_tables.proofs.tables.Tables.ask_node.Goals as goal

pub ask_node-requires-clause-there : goal.ask_node-requires-clause-there
ask_node-requires-clause-there c =
    let view_is = (λ i. tables_at (c.deref_mut-parts.ensures.value i) (c.deref_mut-files.ensures.value i).rows) ∙ bare-is c.self.inside.followed.parts.value c.self.inside.followed.files.value.rows _ c.args.self.now c.self.view_is c.requires.journals c.requires.stand in
    let there = is_there c.args.self.now c.args.server c.args.number c.requires in
    let many = ap (λ (t : TablesView). length t.nodes) view_is in
    (there.0, omega (arith, there.1, many))

pub ask_node-requires-clause-next : goal.ask_node-requires-clause-next
ask_node-requires-clause-next c = λ node at.
    let view_is = (λ i. tables_at (c.deref_mut-parts.ensures.value i) (c.deref_mut-files.ensures.value i).rows) ∙ bare-is c.self.inside.followed.parts.value c.self.inside.followed.files.value.rows _ c.args.self.now c.self.view_is c.requires.journals c.requires.stand in
    let next = next-number c.args.self.now c.args.server c.args.number node c.requires (at ∙ ap (λ (t : TablesView). get_or t.nodes (c.args.server - 1) node) view_is) in
    omega (arith, next)

pub node-node-requires : goal.node-node-requires
node-node-requires c =
    let view_is = (λ i. tables_at (c.deref_mut-parts.ensures.value i) (c.deref_mut-files.ensures.value i).rows) ∙ bare-is c.self.inside.followed.parts.value c.self.inside.followed.files.value.rows _ c.args.self.now c.self.view_is c.requires.journals c.requires.stand in
    let parts = c.deref_mut-parts.result.now in
    let there = is_there c.args.self.now c.args.server c.args.number c.requires in
    let less : c.args.server - 1 < length parts.nodes = below parts c.deref_mut-files.result.now.rows c.args.self.now view_is c.args.server c.args.number c.requires in
    let old = node_in parts.nodes c.args.server in
    let after = c.in_ok-entered.ensures.after old (node_in-at parts.nodes c.args.server less) in
    let count = ap (λ (p : PartsView). length p.nodes) after ∙ length-set parts.nodes (c.args.server - 1) (server_after old c.args.number c.args.ask.now) in
    (there.0, omega (arith, there.0, less, count))

pub set_currency_of_raised-found-requires-clause-levels : goal.set_currency_of_raised-found-requires-clause-levels
set_currency_of_raised-found-requires-clause-levels c =
    let view_is = (λ i. tables_at (c.deref_mut-parts.ensures.value i) (c.deref_mut-files.ensures.value i).rows) ∙ bare-is c.self.inside.followed.parts.value c.self.inside.followed.files.value.rows _ c.args.self.now c.self.view_is c.requires.journals c.requires.stand in
    let same = ap (λ (p : PartsView). p.view.levels) c.deref_mut-parts.ensures.value ∙ c.self.invariant.0.0 ∙ sym (ap (λ (f : FilesView). f.levels) c.deref_mut-files.ensures.value) in
    let parts = c.deref_mut-parts.result.now in
    let at = stands-at parts c.deref_mut-files.result.now.rows c.args.self.now view_is c.args.server c.args.number c.requires in
    let after = c.in_ok-entered.ensures.after (node_in parts.nodes c.args.server) at in
    c.node-node.ensures.of_tree ∙ ap (λ (p : PartsView). p.view.levels) after ∙ same

pub set_currency_of_raised-found-requires-clause-reached : goal.set_currency_of_raised-found-requires-clause-reached
set_currency_of_raised-found-requires-clause-reached c =
    let view_is = (λ i. tables_at (c.deref_mut-parts.ensures.value i) (c.deref_mut-files.ensures.value i).rows) ∙ bare-is c.self.inside.followed.parts.value c.self.inside.followed.files.value.rows _ c.args.self.now c.self.view_is c.requires.journals c.requires.stand in
    let parts = c.deref_mut-parts.result.now in
    let rows = c.deref_mut-files.result.now.rows in
    let old = node_in parts.nodes c.args.server in
    let at = stands-at parts rows c.args.self.now view_is c.args.server c.args.number c.requires in
    let node_is = found-put parts rows c.args.self.now view_is c.args.server c.args.number c.requires c.ask_node.new.self (server_after old c.args.number c.args.ask.now) c.node-node.result.now (c.in_ok-entered.ensures.after old at) c.node-node.ensures.value in
    subst (λ (n : NodeView). AreReached c.args.ask.now c.in_ok-entered.field-0.raised n.state.records.copies) (sym node_is) (c.in_ok-entered.ensures.reached old at)

pub hold-requires : goal.hold-requires
hold-requires c =
    let same = ap (λ (p : PartsView). p.view.levels) c.deref_mut-parts.ensures.value ∙ c.self.invariant.0.0 ∙ sym (ap (λ (f : FilesView). f.levels) c.deref_mut-files.ensures.value) in
    let view_is = (λ i. tables_at (c.deref_mut-parts.ensures.value i) (c.deref_mut-files.ensures.value i).rows) ∙ bare-is c.self.inside.followed.parts.value c.self.inside.followed.files.value.rows _ c.args.self.now c.self.view_is c.requires.journals c.requires.stand in
    let parts = c.deref_mut-parts.result.now in
    let at = stands-at parts c.deref_mut-files.result.now.rows c.args.self.now view_is c.args.server c.args.number c.requires in
    let after = c.in_ok-entered.ensures.after (node_in parts.nodes c.args.server) at in
    c.server.ensures.levels
    ∙ c.node-node.ensures.of_tree
    ∙ ap (λ (p : PartsView). p.view.levels) after
    ∙ same
    ∙ ap (λ (f : FilesView). f.levels) c.deref_mut-files.ensures.value
    ∙ sym c.self.invariant.0.1.levels_are
    ∙ ap (λ (h : Holders). h.early.levels) (sym c.deref_mut-holders.ensures.value)

pub invariant_of-self-2 : goal.invariant_of-self-2
invariant_of-self-2 c =
    let view_is = (λ i. tables_at (c.deref_mut-parts.ensures.value i) (c.deref_mut-files.ensures.value i).rows) ∙ bare-is c.self.inside.followed.parts.value c.self.inside.followed.files.value.rows _ c.args.self.now c.self.view_is c.requires.journals c.requires.stand in
    let same = ap (λ (p : PartsView). p.view.levels) c.deref_mut-parts.ensures.value ∙ c.self.invariant.0.0 ∙ sym (ap (λ (f : FilesView). f.levels) c.deref_mut-files.ensures.value) in
    let server = c.args.server in
    let parts = c.deref_mut-parts.result.now in
    let rows = c.deref_mut-files.result.now.rows in
    let levels = c.deref_mut-files.result.now.levels in
    let holders = c.deref_mut-holders.result.now in
    let less : c.args.server - 1 < length parts.nodes = below parts rows c.args.self.now view_is server c.args.number c.requires in
    let old = node_in parts.nodes server in
    let at = node_in-at parts.nodes server less in
    let node = server_after old c.args.number c.args.ask.now in
    let after = c.in_ok-entered.ensures.after old at in
    let raised = raised_files c.args.ask.now c.in_ok-entered.field-0.raised in
    let node_is = found-put parts rows c.args.self.now view_is server c.args.number c.requires c.ask_node.new.self node c.node-node.result.now after c.node-node.ensures.value in
    let whole = view_is ∙ c.requires.stand in
    let of_tree : AreOfTree levels 1 parts.nodes =
    subst (λ (l : ℕ). AreOfTree l 1 parts.nodes) same
    (of_tree-at c.requires.journals.levels c.requires.journals.servers parts.nodes parts.view.levels (ap (λ (t : TablesView). t.nodes) whole) (ap (λ (t : TablesView). t.view.levels) whole)) in
    let before : AreHolders levels parts.nodes rows holders =
    held-same (ap (λ (f : FilesView). f.levels) c.deref_mut-files.ensures.value) (ap (λ (p : PartsView). p.nodes) c.deref_mut-parts.ensures.value)
    (ap (λ (f : FilesView). f.rows) c.deref_mut-files.ensures.value) c.deref_mut-holders.ensures.value c.self.invariant.0.1 in
    let held = held-asked levels parts.nodes rows (server - 1) old node raised of_tree at less refl (c.in_ok-entered.ensures.raised old at) c.set_currency_of_raised-found.result c.set_currency_of_raised-found.ensures.found holders before in (
      (
        ap (λ (p : PartsView). p.view.levels) after ∙ same ∙ sym c.set_currency_of_raised-found.ensures.levels,
        held-same c.set_currency_of_raised-found.ensures.levels (ap (λ (p : PartsView). p.nodes) after)
            (c.set_currency_of_raised-found.ensures.rows ∙ ap (λ (n : NodeView). spec.all_stood n rows raised) node_is)
            (c.hold.ensures ∙ ap (λ (number : ℕ). held_by c.set_currency_of_raised-found.result number holders) (c.server.ensures.number ∙ ap (λ (n : NodeView). n.server) node_is))
            held,
      ),
      nothing-reserved _ c.self.inside.ready (nothing-kept c.self.inside.followed.parts.value c.self.inside.followed.files.value.rows _ c.args.self.now c.self.view_is c.requires.journals c.requires.stand),
    )

pub returns-clause-replies : goal.returns-clause-replies
returns-clause-replies c =
    let view_is = (λ i. tables_at (c.deref_mut-parts.ensures.value i) (c.deref_mut-files.ensures.value i).rows) ∙ bare-is c.self.inside.followed.parts.value c.self.inside.followed.files.value.rows _ c.args.self.now c.self.view_is c.requires.journals c.requires.stand in
    let server = c.args.server in
    let parts = c.deref_mut-parts.result.now in
    let told = c.in_ok-entered.ensures.replies (node_in parts.nodes server) (stands-at parts c.deref_mut-files.result.now.rows c.args.self.now view_is server c.args.number c.requires) in
    (λ i. record { entered = told.0 i; told = told.1 i })
    ∙ ap (λ (t : TablesView). both (node_reply (node_in t.nodes server).server (node_in t.nodes server).state c.args.ask.now)) view_is

pub returns-clause-asked : goal.returns-clause-asked
returns-clause-asked c = λ journals reply legal stand.
    let view_is = (λ i. tables_at (c.deref_mut-parts.ensures.value i) (c.deref_mut-files.ensures.value i).rows) ∙ bare-is c.self.inside.followed.parts.value c.self.inside.followed.files.value.rows _ c.args.self.now c.self.view_is journals stand in
    let ask = c.args.ask.now in
    let e = entry ask reply in
    let server = c.args.server in
    let list = commits (reverse journals.desk) in
    let parts = c.deref_mut-parts.result.now in
    let rows = c.deref_mut-files.result.now.rows in
    let there = is_there c.args.self.now server c.args.number c.requires in
    let less : c.args.server - 1 < length parts.nodes = below parts rows c.args.self.now view_is server c.args.number c.requires in
    let within : server ≤ length parts.nodes = omega (arith, there.0, less) in
    let old = node_in parts.nodes server in
    let at = node_in-at parts.nodes server less in
    let node = server_after old c.args.number ask in
    let after = c.in_ok-entered.ensures.after old at in
    let node_is = found-put parts rows c.args.self.now view_is server c.args.number c.requires c.ask_node.new.self node c.node-node.result.now after c.node-node.ensures.value in
    let whole = view_is ∙ stand in
    let of_tree = of_tree-at journals.levels journals.servers parts.nodes parts.view.levels (ap (λ (t : TablesView). t.nodes) whole) (ap (λ (t : TablesView). t.view.levels) whole) in
    let stands = rows-stand parts of_tree server there.0 within old node at refl refl (raised_files c.args.ask.now c.in_ok-entered.field-0.raised) (c.in_ok-entered.ensures.raised old at) rows journals
    (rows-at parts rows c.args.self.now view_is journals stand) in
    let files : c.set_currency_of_raised-found.new.self.rows ≡ file_rows c.args.self.now.view.levels c.ask_node.new.self.nodes list =
    c.set_currency_of_raised-found.ensures.rows
    ∙ (λ i. spec.all_stood (node_is i) rows (raised_files c.args.ask.now c.in_ok-entered.field-0.raised))
    ∙ stands
    ∙ (λ i. file_rows (view_is i).view.levels (sym after i).nodes list) in
    let at_now = at ∙ ap (λ (t : TablesView). get_or t.nodes (server - 1) old) view_is in
    let next = next-number c.args.self.now server c.args.number old c.requires at_now in
    shown c.self.inside.followed.parts.value c.self.inside.followed.files.value.rows _ c.args.self.now c.self.view_is journals stand _ (with_node journals server e)
    (node-noted journals server c.args.self.now old stand there.0 at_now there.1 e legal c.args.number next
    _ c.ask_node.new.self.nodes c.set_currency_of_raised-found.new.self.rows
    (ap (λ (p : PartsView). p.nodes) after ∙ ap (λ (t : TablesView). set t.nodes (server - 1) node) view_is)
    files
    (with_nodes-at parts c.ask_node.new.self (set parts.nodes (server - 1) node) c.set_currency_of_raised-found.new.self.rows rows after
    ∙ ap (λ (t : TablesView). with_nodes t c.ask_node.new.self.nodes c.set_currency_of_raised-found.new.self.rows) view_is))
