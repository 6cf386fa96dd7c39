use Rattle.std.{specs.Prelude.reverse, proofs.Common.{refl, ◌≡◌, ◌+◌, ◌<◌, ◌^◌, ℕ, List, ap, sym, subst, ◌∙◌}}
use Rattle.tq_desk.specs.DeskPlans.{DeskFits, desk_change, desk_changed, change_fits, change_leads}
use Rattle.tq_desk.specs.{DeskJournal.{commits, with_commit}, DeskStep.{DeskView, desk_reply}}
use Rattle.tq_desk.specs.declared.{ask.DeskReply.DeskReply, desk.DeskChange.DeskChange}
use Rattle.tq_node.specs.Node.{NodeView}
use Rattle.tq_shape.specs.Journal.{entry}
use Rattle.tq_tables.specs.{Rows.{names_of, file_rows, files_in}, Files.FilesView, Journals.with_desk, Parts.PartsView}
use Rattle.tq_tables.specs.{Tables.{TablesView, tables_at}, declared.{file_row.FileRow.FileRow, parts.Replies.Replies}}
use Rattle.tq_tables.proofs.{Held.{held-put, held-same}, Restood.exact-rows}
use Rattle.tq_tables.proofs.Noted.{asked, asked-at, begun-room, commits-room, desk-noted, desk-replied, rows-at, rows-then, bare-is, nothing-kept, nothing-reserved, shown}
use Rattle.tq_tables.proofs.Written.{entry-rows, of_tree-next, rows_next, version-room}
use Rattle.tq_tables.specs.Files as spec
use Rattle.tq_tables.proofs.tables.Tables.ask_desk.Goals as goal

pub plan-requires-clause-begun : goal.plan-requires-clause-begun
plan-requires-clause-begun g c =
    let view_is = (λ i. tables_at (c.deref_mut-parts.ensures.value i) (c.deref_mut-files.ensures.value i).rows) ∙ bare-is c.self.inside.followed.parts.value c.self.inside.followed.files.value.rows _ c.args.self.now c.self.view_is c.requires.next.journals c.requires.next.stand in
    subst (λ (d : DeskView). d.begun + 1 < 2 ^ 64) (sym (c.desk.ensures ∙ ap (λ (t : TablesView). t.desk) view_is)) (begun-room c.args.self.now c.requires.next)

pub plan-requires-clause-judged : goal.plan-requires-clause-judged
plan-requires-clause-judged g c =
    let view_is = (λ i. tables_at (c.deref_mut-parts.ensures.value i) (c.deref_mut-files.ensures.value i).rows) ∙ bare-is c.self.inside.followed.parts.value c.self.inside.followed.files.value.rows _ c.args.self.now c.self.view_is c.requires.next.journals c.requires.next.stand in
    subst (λ (d : DeskView). g.J.Judge.takes d.levels c.args.ask.now) (sym (c.desk.ensures ∙ ap (λ (t : TablesView). t.desk) view_is)) c.requires.judged

pub rows_written-requires-clause-exact : goal.rows_written-requires-clause-exact
rows_written-requires-clause-exact g c =
    let view_is = (λ i. tables_at (c.deref_mut-parts.ensures.value i) (c.deref_mut-files.ensures.value i).rows) ∙ bare-is c.self.inside.followed.parts.value c.self.inside.followed.files.value.rows _ c.args.self.now c.self.view_is c.requires.next.journals c.requires.next.stand in
    let same = ap (λ (p : PartsView). p.view.levels) c.deref_mut-parts.ensures.value ∙ c.self.invariant.0.0 ∙ sym (ap (λ (f : FilesView). f.levels) c.deref_mut-files.ensures.value) in
    let journals = c.requires.next.journals in
    let parts = c.deref_mut-parts.result.now in
    let list = commits (reverse journals.desk) in
    let are = rows-at parts c.deref_mut-files.result.now.rows c.args.self.now view_is journals c.requires.next.stand in
    let exact : spec.AreExact parts.view.levels parts.nodes c.deref_mut-files.result.now.rows =
    subst (λ (rows : List FileRow). spec.AreExact parts.view.levels parts.nodes rows) (sym are) (exact-rows parts.view.levels parts.nodes list (files_in list)) in
    subst (λ (levels : ℕ). spec.AreExact levels c.nodes.result.now c.deref_mut-files.result.now.rows) same
    (subst (λ (nodes : List NodeView). spec.AreExact parts.view.levels nodes c.deref_mut-files.result.now.rows) (sym c.nodes.ensures.value) exact)

pub rows_written-requires-clause-room : goal.rows_written-requires-clause-room
rows_written-requires-clause-room g c = λ file.
    let view_is = (λ i. tables_at (c.deref_mut-parts.ensures.value i) (c.deref_mut-files.ensures.value i).rows) ∙ bare-is c.self.inside.followed.parts.value c.self.inside.followed.files.value.rows _ c.args.self.now c.self.view_is c.requires.next.journals c.requires.next.stand in
    let journals = c.requires.next.journals in
    let parts = c.deref_mut-parts.result.now in
    let are = rows-at parts c.deref_mut-files.result.now.rows c.args.self.now view_is journals c.requires.next.stand in
    subst (λ (rows : List FileRow). spec.version_in rows file + 1 < 2 ^ 64) (sym are)
    (version-room parts.view.levels parts.nodes (commits (reverse journals.desk)) (commits-room c.args.self.now c.requires.next) file)

pub rows_written-requires-clause-holders : goal.rows_written-requires-clause-holders
rows_written-requires-clause-holders g c =
    held-same (ap (λ (f : FilesView). f.levels) c.deref_mut-files.ensures.value) (c.nodes.ensures.value ∙ ap (λ (p : PartsView). p.nodes) c.deref_mut-parts.ensures.value)
    (ap (λ (f : FilesView). f.rows) c.deref_mut-files.ensures.value) c.deref.ensures c.self.invariant.0.1

pub change_desk-requires : goal.change_desk-requires
change_desk-requires g c =
    let desk = c.deref_mut-parts.result.now.desk in
    subst (λ (change : DeskChange). DeskFits desk change)
    (sym (c.in_ok-plan.ensures.change ∙ ap (λ (d : DeskView). desk_change d c.args.ask.now) c.desk.ensures))
    (change_fits desk c.args.ask.now)

pub put_all-requires-clause-of_tree : goal.put_all-requires-clause-of_tree
put_all-requires-clause-of_tree g c =
    let levels = c.deref_mut-files.result.now.levels in
    subst (λ (l : ℕ). spec.AreOfLevels l c.in_ok-rows.rows.items) (sym c.in_ok-reserve.ensures.levels)
    (subst (λ (rows : List FileRow). spec.AreOfLevels levels rows) (sym c.in_ok-rows.ensures)
    (of_tree-next levels c.nodes.result.now c.deref_mut-files.result.now.rows (names_of c.committed_ops-ops.result.now)))

pub invariant_of-self-2 : goal.invariant_of-self-2
invariant_of-self-2 g c =
    let parts = c.deref_mut-parts.result.now in
    let same = ap (λ (p : PartsView). p.view.levels) c.deref_mut-parts.ensures.value ∙ c.self.invariant.0.0 ∙ sym (ap (λ (f : FilesView). f.levels) c.deref_mut-files.ensures.value) in
    let before =
    held-same (ap (λ (f : FilesView). f.levels) c.deref_mut-files.ensures.value) (ap (λ (p : PartsView). p.nodes) c.deref_mut-parts.ensures.value)
    (ap (λ (f : FilesView). f.rows) c.deref_mut-files.ensures.value) refl c.self.invariant.0.1 in
    let rows = c.in_ok-rows.rows.items in (
      (
        ap (λ (p : PartsView). p.view.levels) c.in_ok-change_desk.ensures.after ∙ same ∙ sym (c.put_all.ensures.levels ∙ c.in_ok-reserve.ensures.levels),
        held-same (c.put_all.ensures.levels ∙ c.in_ok-reserve.ensures.levels) (ap (λ (p : PartsView). p.nodes) c.in_ok-change_desk.ensures.after)
            (c.put_all.ensures.rows ∙ ap (λ (all : List FileRow). spec.with_rows all rows) c.in_ok-reserve.ensures.rows) refl
            (held-put _ parts.nodes c.deref_mut-files.result.now.rows rows c.self.inside.followed.holders.value before),
      ),
      nothing-reserved _ c.self.inside.ready (nothing-kept c.self.inside.followed.parts.value c.self.inside.followed.files.value.rows _ c.args.self.now c.self.view_is c.requires.next.journals c.requires.next.stand),
    )

pub returns-clause-asked : goal.returns-clause-asked
returns-clause-asked g c = λ journals reply legal stand.
    let view_is = (λ i. tables_at (c.deref_mut-parts.ensures.value i) (c.deref_mut-files.ensures.value i).rows) ∙ bare-is c.self.inside.followed.parts.value c.self.inside.followed.files.value.rows _ c.args.self.now c.self.view_is journals stand in
    let same = ap (λ (p : PartsView). p.view.levels) c.deref_mut-parts.ensures.value ∙ c.self.invariant.0.0 ∙ sym (ap (λ (f : FilesView). f.levels) c.deref_mut-files.ensures.value) in
    let ask = c.args.ask.now in
    let e = entry ask reply in
    let list = commits (reverse journals.desk) in
    let parts = c.deref_mut-parts.result.now in
    let rows = c.deref_mut-files.result.now.rows in
    let files = c.put_all.new.self.rows in
    let before = rows-at parts rows c.args.self.now view_is journals stand in
    let replied : c.in_ok-replies.replies.entered ≡ reply =
    ap (λ (r : Replies DeskReply). r.entered) c.in_ok-replies.ensures
    ∙ c.in_ok-plan.ensures.reply
    ∙ ap (λ (d : DeskView). desk_reply d ask) (c.desk.ensures ∙ ap (λ (t : TablesView). t.desk) (view_is ∙ stand))
    ∙ sym (desk-replied journals e legal) in
    let put : c.in_ok-rows.rows.items ≡ rows_next parts.view.levels parts.nodes rows (names_of (spec.committed_ops ask reply)) =
    c.in_ok-rows.ensures
    ∙ (λ i. rows_next (sym same i) (c.nodes.ensures.value i) rows (names_of (c.committed_ops-ops.ensures i)))
    ∙ ap (λ (r : DeskReply). rows_next parts.view.levels parts.nodes rows (names_of (spec.committed_ops ask r))) replied in
    let more : files ≡ file_rows parts.view.levels parts.nodes (with_commit ask reply list) =
    c.put_all.ensures.rows
    ∙ (λ i. spec.with_rows (c.in_ok-reserve.ensures.rows i) (put i))
    ∙ ap (λ (r : List FileRow). spec.with_rows r (rows_next parts.view.levels parts.nodes r (names_of (spec.committed_ops ask reply)))) before
    ∙ entry-rows parts.view.levels parts.nodes ask reply list in
    let changed = ap (desk_changed parts.desk) (c.in_ok-plan.ensures.change ∙ ap (λ (d : DeskView). desk_change d ask) c.desk.ensures) ∙ change_leads parts.desk ask in
    let after = c.in_ok-change_desk.ensures.after ∙ (λ i. record parts { desk = changed i }) in
    shown c.self.inside.followed.parts.value c.self.inside.followed.files.value.rows _ c.args.self.now c.self.view_is journals stand _ (with_desk journals e)
    (desk-noted journals e legal c.args.self.now _ files stand (rows-then parts rows c.args.self.now view_is journals stand e files more)
    (asked-at parts c.change_desk.new.self rows files ask after ∙ ap (λ (t : TablesView). asked t ask files) view_is))
