use Rattle.std.proofs.Common.{◌∙◌, ◌-◌, ◌++◌, [], ◌∷◌, List, ap, refl}
use Rattle.tq_shape.specs.Journal.{entry}
use Rattle.tq_node.specs.NodeJournal.{NodeEntry}
use Rattle.tq_core.specs.declared.answer.Reply.TheVariants as replies
use Rattle.tq_core.specs.declared.answer.Step.TheVariants as steps
use Rattle.tq_core.proofs.Standing.{memory_told, node_asked, node_free, node_refused, node_stays, on_err}
use Rattle.tq_core.proofs.service.Service.ask_node.Goals as goal

pub returns-in-Some-clause-told : goal.returns-in-Some-clause-told
returns-in-Some-clause-told g c =
    node_refused (λ entries. entries.items) c.self.inside.tabled.servers.items c.self.inside.tabled.tables c.self.inside.tabled.limits c.self.inside.tabled.desk.items c.self.inside.tabled.view.items c.args.self.now
    c.self.view_is c.self.invariant c.args.server.levels c.number-number.result c.args.server.number c.requires.tree c.number-number.ensures.within c.number-number.ensures.value c.args.ask
    c.index.result.now c.refusal.result _ _ c.index.ensures (c.len-entries.ensures ∙ c.index.result.now.ok.0) c.unfounded_node-unfounded.ensures c.refusal.ensures c.in-Some.fault c.in-Some.is

pub invariant_of-self : goal.invariant_of-self
invariant_of-self g c =
    (node_stays (λ entries. entries.items) c.self.inside.tabled.servers.items c.self.inside.tabled.tables c.self.inside.tabled.limits c.self.inside.tabled.desk.items c.self.inside.tabled.view.items c.args.self.now
    c.self.view_is c.self.invariant
    (c.number-number.result - 1) c.index_mut-journal.result.now c.make_room.new.list c.index_mut-journal.ensures.value c.make_room.ensures.items c.self.inside.tabled.tables refl).0

pub returns-in_err-make_room-clause-told : goal.returns-in_err-make_room-clause-told
returns-in_err-make_room-clause-told g c =
    memory_told replies.Node c.args.self.now (steps.Node c.args.server.number c.args.ask) c.from_residual.result c.from_residual.ensures.1
    (node_free (λ entries. entries.items) c.self.inside.tabled.servers.items c.self.inside.tabled.tables c.self.inside.tabled.limits c.self.inside.tabled.desk.items c.self.inside.tabled.view.items c.args.self.now
    c.self.view_is c.self.invariant c.args.server.levels c.number-number.result c.args.server.number c.requires.tree c.number-number.ensures.within c.number-number.ensures.value c.args.ask
    c.index.result.now c.refusal.result _ _ c.index.ensures (c.len-entries.ensures ∙ c.index.result.now.ok.0) c.unfounded_node-unfounded.ensures c.refusal.ensures c.in_default.is)

pub returns-in_err-make_room-clause-err : goal.returns-in_err-make_room-clause-err
returns-in_err-make_room-clause-err g c =
    on_err _ c.from_residual.result (node_stays (λ entries. entries.items) c.self.inside.tabled.servers.items c.self.inside.tabled.tables c.self.inside.tabled.limits c.self.inside.tabled.desk.items c.self.inside.tabled.view.items c.args.self.now
    c.self.view_is c.self.invariant
    (c.number-number.result - 1) c.index_mut-journal.result.now c.make_room.new.list c.index_mut-journal.ensures.value c.make_room.ensures.items c.self.inside.tabled.tables refl).1

pub invariant_of-self-in_err-replies : goal.invariant_of-self-in_err-replies
invariant_of-self-in_err-replies g c =
    (node_stays (λ entries. entries.items) c.self.inside.tabled.servers.items c.self.inside.tabled.tables c.self.inside.tabled.limits c.self.inside.tabled.desk.items c.self.inside.tabled.view.items c.args.self.now
    c.self.view_is c.self.invariant
    (c.number-number.result - 1) c.index_mut-journal.result.now c.make_room.new.list c.index_mut-journal.ensures.value c.make_room.ensures.items c.ask_node.new.self c.in_err-replies.ensures.unchanged).0

pub returns-in_err-replies-clause-told : goal.returns-in_err-replies-clause-told
returns-in_err-replies-clause-told g c =
    memory_told replies.Node c.args.self.now (steps.Node c.args.server.number c.args.ask) c.from_residual-in_err-replies.result c.from_residual-in_err-replies.ensures.1
    (node_free (λ entries. entries.items) c.self.inside.tabled.servers.items c.self.inside.tabled.tables c.self.inside.tabled.limits c.self.inside.tabled.desk.items c.self.inside.tabled.view.items c.args.self.now
    c.self.view_is c.self.invariant c.args.server.levels c.number-number.result c.args.server.number c.requires.tree c.number-number.ensures.within c.number-number.ensures.value c.args.ask
    c.index.result.now c.refusal.result _ _ c.index.ensures (c.len-entries.ensures ∙ c.index.result.now.ok.0) c.unfounded_node-unfounded.ensures c.refusal.ensures c.in_default.is)

pub returns-in_err-replies-clause-err : goal.returns-in_err-replies-clause-err
returns-in_err-replies-clause-err g c =
    on_err _ c.from_residual-in_err-replies.result (node_stays (λ entries. entries.items) c.self.inside.tabled.servers.items c.self.inside.tabled.tables c.self.inside.tabled.limits c.self.inside.tabled.desk.items c.self.inside.tabled.view.items c.args.self.now
    c.self.view_is c.self.invariant
    (c.number-number.result - 1) c.index_mut-journal.result.now c.make_room.new.list c.index_mut-journal.ensures.value c.make_room.ensures.items c.ask_node.new.self c.in_err-replies.ensures.unchanged).1

pub invariant_of-self-2 : goal.invariant_of-self-2
invariant_of-self-2 g c =
    let made = c.in_ok-replies.replies in
    let more = c.push_reserved.ensures.items ∙ ap (λ (entries : List NodeEntry). entries ++ entry c.args.ask made.entered ∷ []) c.make_room.ensures.items in
    (node_asked (λ entries. entries.items) c.self.inside.tabled.servers.items c.self.inside.tabled.tables c.self.inside.tabled.limits c.self.inside.tabled.desk.items c.self.inside.tabled.view.items c.args.self.now
    c.self.view_is c.self.invariant c.args.server.levels c.number-number.result c.args.server.number c.requires.tree c.number-number.ensures.within c.number-number.ensures.value c.args.ask
    c.index.result.now c.refusal.result _ _ c.index.ensures (c.len-entries.ensures ∙ c.index.result.now.ok.0) c.unfounded_node-unfounded.ensures c.refusal.ensures c.in_default.is
    c.index_mut-journal.result.now c.index_mut-journal.ensures.value c.ask_node.new.self c.in_ok-replies.ensures.asked _ refl made c.in_ok-replies.ensures.replies c.push_reserved.new.self more).stands

pub returns-clause-told : goal.returns-clause-told
returns-clause-told g c =
    let made = c.in_ok-replies.replies in
    let more = c.push_reserved.ensures.items ∙ ap (λ (entries : List NodeEntry). entries ++ entry c.args.ask made.entered ∷ []) c.make_room.ensures.items in
    (node_asked (λ entries. entries.items) c.self.inside.tabled.servers.items c.self.inside.tabled.tables c.self.inside.tabled.limits c.self.inside.tabled.desk.items c.self.inside.tabled.view.items c.args.self.now
    c.self.view_is c.self.invariant c.args.server.levels c.number-number.result c.args.server.number c.requires.tree c.number-number.ensures.within c.number-number.ensures.value c.args.ask
    c.index.result.now c.refusal.result _ _ c.index.ensures (c.len-entries.ensures ∙ c.index.result.now.ok.0) c.unfounded_node-unfounded.ensures c.refusal.ensures c.in_default.is
    c.index_mut-journal.result.now c.index_mut-journal.ensures.value c.ask_node.new.self c.in_ok-replies.ensures.asked _ refl made c.in_ok-replies.ensures.replies c.push_reserved.new.self more).told

pub returns-clause-after : goal.returns-clause-after
returns-clause-after g c =
    let made = c.in_ok-replies.replies in
    let more = c.push_reserved.ensures.items ∙ ap (λ (entries : List NodeEntry). entries ++ entry c.args.ask made.entered ∷ []) c.make_room.ensures.items in
    (node_asked (λ entries. entries.items) c.self.inside.tabled.servers.items c.self.inside.tabled.tables c.self.inside.tabled.limits c.self.inside.tabled.desk.items c.self.inside.tabled.view.items c.args.self.now
    c.self.view_is c.self.invariant c.args.server.levels c.number-number.result c.args.server.number c.requires.tree c.number-number.ensures.within c.number-number.ensures.value c.args.ask
    c.index.result.now c.refusal.result _ _ c.index.ensures (c.len-entries.ensures ∙ c.index.result.now.ok.0) c.unfounded_node-unfounded.ensures c.refusal.ensures c.in_default.is
    c.index_mut-journal.result.now c.index_mut-journal.ensures.value c.ask_node.new.self c.in_ok-replies.ensures.asked _ refl made c.in_ok-replies.ensures.replies c.push_reserved.new.self more).after
