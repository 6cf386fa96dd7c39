use Rattle.std.proofs.Common.{◌≡◌, ℕ, ◌+◌, ◌<◌, List, [], length, get_or, refl, ap, sym, subst, ◌∙◌, arith, rules}
use Rattle.tq_desk.specs.DeskJournal.{DeskEntry}
use Rattle.tq_node.specs.NodeJournal.{NodeEntry}
use Rattle.tq_tables.specs.{Journals.{ViewEntry, no_entries}, Tables.tables_of}
use Rattle.tq_tables.proofs.Again.{desk-step, from_nothing, may-ask-desk, may-ask-node, next_server, node-step, server-count, server-entries, to_all, until, view-step}
use Rattle.tq_tables.proofs.tables.Tables.of.Goals as goal

pub loop-view_entry-init : goal.loop-view_entry-init
loop-view_entry-init c =
    c.in_ok-tables.ensures
    ∙ (λ i. tables_of (no_entries (c.levels.ensures i) (c.limits.ensures i)))
    ∙ ap tables_of (from_nothing c.args.journals.now c.servers-servers.ensures.one_each)

pub loop-view_entry-preserved : goal.loop-view_entry-preserved
loop-view_entry-preserved c =
    let i = c.loop-view_entry.view_entry-index in
    let e = c.view_entry-item.result in
    let all = c.view-view_entry-items.ensures.value in
    view-step c.args.journals.now c.requires i 0 0 0 c.loop-view_entry.tables c.loop-view_entry.invariant e
    (subst (λ (es : List ViewEntry). i < length es) all c.loop-view_entry-test.true)
    (c.view_entry-item.is ∙ ap (λ (es : List ViewEntry). get_or es i e) all) _ c.in_ok-follow_view.ensures.noted

pub loop-desk_entry-init : goal.loop-desk_entry-init
loop-desk_entry-init c =
    let count = ap (λ (es : List ViewEntry). length es) c.view-view_entry-items.ensures.value in
    let past = c.loop-view_entry-test.false in
    let most = c.loop-view_entry.auto.view_entry-index-end in
    let done : c.loop-view_entry.view_entry-index ≡ length c.args.journals.now.view = omega (arith, count, past, most) in
    c.loop-view_entry.invariant ∙ ap (λ (n : ℕ). tables_of (until c.args.journals.now n 0 0 0)) done

pub ask_desk-requires-clause-next : goal.ask_desk-requires-clause-next
ask_desk-requires-clause-next c =
    let journals = c.args.journals.now in
    let i = c.loop-desk_entry.desk_entry-index in
    let all = c.desk-desk_entry-items.ensures.value in
    let count = ap (λ (es : List DeskEntry). length es) all in
    let small : length c.desk-desk_entry-items.result.now < 9223372036854775808 = search rules in
    may-ask-desk journals c.requires (length journals.view) i 0 0 c.loop-desk_entry.tables c.loop-desk_entry.invariant
    (subst (λ (es : List DeskEntry). i < length es) all c.loop-desk_entry-test.true) (omega (arith, count, small))

pub loop-desk_entry-preserved : goal.loop-desk_entry-preserved
loop-desk_entry-preserved c =
    let journals = c.args.journals.now in
    let i = c.loop-desk_entry.desk_entry-index in
    let e = c.desk_entry-item.result in
    let all = c.desk-desk_entry-items.ensures.value in
    desk-step journals c.requires (length journals.view) i 0 0 c.loop-desk_entry.tables c.loop-desk_entry.invariant e
    (subst (λ (es : List DeskEntry). i < length es) all c.loop-desk_entry-test.true)
    (c.desk_entry-item.is ∙ ap (λ (es : List DeskEntry). get_or es i e) all) _ c.in_ok-ask_desk.ensures.asked

pub loop-entries-init : goal.loop-entries-init
loop-entries-init c =
    let journals = c.args.journals.now in
    let count = ap (λ (es : List DeskEntry). length es) c.desk-desk_entry-items.ensures.value in
    let past = c.loop-desk_entry-test.false in
    let most = c.loop-desk_entry.auto.desk_entry-index-end in
    let done : c.loop-desk_entry.desk_entry-index ≡ length journals.desk = omega (arith, count, past, most) in
    (c.loop-desk_entry.invariant ∙ ap (λ (n : ℕ). tables_of (until journals (length journals.view) n 0 0)) done, refl)

pub loop-entry-init : goal.loop-entry-init
loop-entry-init c = (c.loop-entries.invariant.0, refl)

pub ask_node-requires : goal.ask_node-requires
ask_node-requires c =
    let journals = c.args.journals.now in
    let place = c.loop-entries.entries-index in
    let i = c.loop-entry.entry-index in
    let own = server-entries (λ entries. entries.items) c.servers-servers.result.now journals.servers c.servers-servers.ensures.value place c.entries-item.result c.loop-entries-test.true c.entries-item.is in
    let all = c.as_slice-entry-items.ensures.value ∙ sym own.1 in
    may-ask-node journals c.requires (length journals.view) (length journals.desk) place i c.loop-entry.tables c.loop-entry.invariant.0
    (c.loop-entries.server + 1) (ap (λ (n : ℕ). n + 1) c.loop-entries.invariant.1) own.0
    (c.loop-entry.number + 1) (ap (λ (n : ℕ). n + 1) c.loop-entry.invariant.1) (subst (λ (es : List NodeEntry). i < length es) all c.loop-entry-test.true)

pub loop-entry-preserved : goal.loop-entry-preserved
loop-entry-preserved c =
    let journals = c.args.journals.now in
    let place = c.loop-entries.entries-index in
    let i = c.loop-entry.entry-index in
    let e = c.entry-item.result in
    let own = server-entries (λ entries. entries.items) c.servers-servers.result.now journals.servers c.servers-servers.ensures.value place c.entries-item.result c.loop-entries-test.true c.entries-item.is in
    let all = c.as_slice-entry-items.ensures.value ∙ sym own.1 in (
      node-step journals c.requires (length journals.view) (length journals.desk) place i c.loop-entry.tables c.loop-entry.invariant.0
          (c.loop-entries.server + 1) (ap (λ (n : ℕ). n + 1) c.loop-entries.invariant.1) own.0 e
          (subst (λ (es : List NodeEntry). i < length es) all c.loop-entry-test.true)
          (c.entry-item.is ∙ ap (λ (es : List NodeEntry). get_or es i e) all) _ c.in_ok-ask_node.ensures.asked,
      ap (λ (n : ℕ). n + 1) c.loop-entry.invariant.1,
    )

pub loop-entries-preserved : goal.loop-entries-preserved
loop-entries-preserved c =
    let journals = c.args.journals.now in
    let place = c.loop-entries.entries-index in
    let own = server-entries (λ entries. entries.items) c.servers-servers.result.now journals.servers c.servers-servers.ensures.value place c.entries-item.result c.loop-entries-test.true c.entries-item.is in
    let all = c.as_slice-entry-items.ensures.value ∙ sym own.1 in
    let count = ap (λ (es : List NodeEntry). length es) all in
    let past = c.loop-entry-test.false in
    let most = c.loop-entry.auto.entry-index-end in
    let done : c.loop-entry.entry-index ≡ length (get_or journals.servers place []) = omega (arith, count, past, most) in (
      c.loop-entry.invariant.0
          ∙ ap (λ (n : ℕ). tables_of (until journals (length journals.view) (length journals.desk) place n)) done
          ∙ ap tables_of (next_server journals (length journals.view) (length journals.desk) place),
      ap (λ (n : ℕ). n + 1) c.loop-entries.invariant.1,
    )

pub returns : goal.returns
returns c =
    let journals = c.args.journals.now in
    let count = server-count (λ entries. entries.items) c.servers-servers.result.now journals.servers c.servers-servers.ensures.value in
    let past = c.loop-entries-test.false in
    let most = c.loop-entries.auto.entries-index-end in
    let done : c.loop-entries.entries-index ≡ length journals.servers = omega (arith, count, past, most) in
    c.loop-entries.invariant.0
    ∙ ap (λ (n : ℕ). tables_of (until journals (length journals.view) (length journals.desk) n 0)) done
    ∙ ap tables_of (to_all journals)
