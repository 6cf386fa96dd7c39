use Rattle.std.{proofs.lemmas.List.Elements.All-nil, specs.{Global.Vec, List.{Contains, list_all}}}
use Rattle.std.proofs.Common.{◌≡◌, ◌==◌, ◌∙◌, ◌++◌, ℕ, [], true, refl, sym, ap, subst, Some, Result, Ok, Err, rules}
use Rattle.tq_coterie.specs.Coterie.{numbers_of}
use Rattle.tq_evidence.specs.{declared.grant.Grant.Grant, Evidence.granters}
use Rattle.tq_txn_states.{specs.Voting.answers_of, proofs.GoodGrants.of_tree}
use Rattle.tq_txn.specs.{declared.fault.LineFault.{LineFault, TheVariants.Memory}, Dialogue.{Follows, ended_by}}
use Rattle.tq_txn.specs.{Told.{AreTold, answers_in}, Lines.{AreOf, LocksView, grants_answer, locks_of, quorum_line}}
use Rattle.tq_txn.proofs.LockingLaws.{member_of, touched_same}
use Rattle.tq_txn.proofs.LineLaws.{follows_memory, quorum_off, quorum_stopped, quorum_locked}
use Rattle.tq_txn.proofs.operations.lock_quorum.Goals as goal

pub lock_each-requires-clause-of_tree : goal.lock_each-requires-clause-of_tree
lock_each-requires-clause-of_tree g c =
    let levels : c.in-Ok.quorum.levels ≡ g.A.Asker.levels c.choose.new.asker = c.in-Ok.ensures.quorum ∙ c.levels.ensures ∙ c.requires ∙ sym c.in-Ok.ensures.tree in
    let P : ℕ → Type 0 = λ l. list_all (λ id. id.levels == l) c.servers-servers.result.now ≡ true in
    subst P levels (of_tree c.in-Ok.quorum.levels c.servers-servers.result.now c.servers-servers.ensures.member)

pub returns-in_err-ask-clause-kept : goal.returns-in_err-ask-clause-kept
returns-in_err-ask-clause-kept g c = touched_same c.args.open.now c.args.open.now refl

pub returns-in-Err-clause-kept : goal.returns-in-Err-clause-kept
returns-in-Err-clause-kept g c = touched_same c.args.open.now c.args.open.now refl

pub returns-in_err-grants-clause-kept : goal.returns-in_err-grants-clause-kept
returns-in_err-grants-clause-kept g c = touched_same c.args.open.now c.args.open.now refl

pub returns-in_err-ask-clause-asks : goal.returns-in_err-ask-clause-asks
returns-in_err-ask-clause-asks g c = search rules

pub returns-in-Err-clause-asks : goal.returns-in-Err-clause-asks
returns-in-Err-clause-asks g c =
    quorum_off c.args.file.now c.args.mode c.levels.result c.args.open.now c.levels.ensures c.purpose_of.result c.purpose_of.ensures c.in-Err.fault (g.A.Asker.told c.args.asker.now) (g.A.Asker.told c.choose.new.asker) c.in-Err.ensures.asks

pub returns-in_err-grants-clause-asks : goal.returns-in_err-grants-clause-asks
returns-in_err-grants-clause-asks g c =
    let file = c.args.file.now in
    let told = g.A.Asker.told c.args.asker.now in
    let mid = g.A.Asker.told c.choose.new.asker in
    let old = c.args.open.now in
    let fault : Err Memory ≡ c.from_residual-in_err-grants.result = Prim.search (c.from_residual-in_err-grants.ensures, rules) in
    let P : Result (Vec Grant) LineFault → Type 0 = λ r. Follows (quorum_line file c.args.mode old) told mid (ended_by (grants_answer old.txn file r) old) in
    subst P fault
    (quorum_stopped file c.args.mode c.levels.result old c.levels.ensures c.purpose_of.result c.purpose_of.ensures c.in-Ok.quorum.servers c.servers-servers.result.now [] c.servers-servers.ensures.numbers refl told mid c.in-Ok.ensures.asks
    Memory record { answers = []; txn = old } mid (follows_memory _ mid))

pub returns-clause-asks : goal.returns-clause-asks
returns-clause-asks g c =
    let file = c.args.file.now in
    let old = c.args.open.now in
    let none = answers_of old.txn file c.in_ok-grants.grants.items in
    let empty : none ≡ [] = ap (answers_of old.txn file) c.in_ok-grants.ensures.items in
    let new : LocksView = locks_of file c.lock_each.new.open c.lock_each.new.grants.items in
    quorum_stopped file c.args.mode c.levels.result old c.levels.ensures c.purpose_of.result c.purpose_of.ensures c.in-Ok.quorum.servers c.servers-servers.result.now none c.servers-servers.ensures.numbers empty (g.A.Asker.told c.args.asker.now) (g.A.Asker.told c.choose.new.asker) c.in-Ok.ensures.asks
    c.in-Err-lock_each.fault new (g.A.Asker.told c.lock_each.new.asker) c.in-Err-lock_each.ensures.locks.asks

pub returns-in-Ok-lock_each : goal.returns-in-Ok-lock_each
returns-in-Ok-lock_each g c =
    let file = c.args.file.now in
    let mode = c.args.mode in
    let old = c.args.open.now in
    let told = g.A.Asker.told c.args.asker.now in
    let mid = g.A.Asker.told c.choose.new.asker in
    let after = g.A.Asker.told c.lock_each.new.asker in
    let servers = c.servers-servers.result.now in
    let grants = c.lock_each.new.grants.items in
    let start = c.in_ok-grants.ensures.items in
    let locked = c.in-Ok-lock_each.ensures.locks in
    let all : granters grants ≡ numbers_of servers = locked.servers ∙ ap (λ gs. granters gs ++ numbers_of servers) start in
    let none = answers_of old.txn file c.in_ok-grants.grants.items in
    let empty : none ≡ [] = ap (answers_of old.txn file) start in
    let new : LocksView = locks_of file c.lock_each.new.open grants in
    let asks = quorum_locked file mode c.levels.result old c.levels.ensures c.purpose_of.result c.purpose_of.ensures c.in-Ok.quorum.servers servers none c.servers-servers.ensures.numbers empty told mid c.in-Ok.ensures.asks new after locked.asks in
    let P : ℕ → Type 0 = λ txn. Follows (quorum_line file mode old) told after (Some (record { answer = Ok (answers_of txn file grants); after = c.lock_each.new.open })) in
    record {
      asks = subst P locked.touched.txn asks;
      kept = locked.touched;
      heard = locked.heard (subst (AreTold mid) (sym empty) (All-nil (Contains (answers_in mid))));
      member = member_of old.levels c.in-Ok.quorum.levels servers grants c.servers-servers.ensures.member (c.in-Ok.ensures.quorum ∙ c.levels.ensures) all;
      modes = locked.modes (subst (AreOf mode) (sym start) (All-nil (λ (grant : Grant). grant.mode ≡ mode)));
      tree = search rules;
    }
