use Rattle.tq_txn.specs.{Told.{AreTold, answers_in}, declared.fault.LineFault.TheVariants.Memory, Dialogue.ended_by}
use Rattle.tq_txn.specs.{declared.txn.ReadAnswer.TheVariants.Copy, Lines.{quorum_line, read_end}}
use Rattle.tq_txn.proofs.KnownLaws.{knows_touched, knows_taken, grown_along}
use Rattle.tq_txn.proofs.LockingLaws.{same_answers, still_few, still_member, still_unused}
use Rattle.tq_txn.proofs.LineLaws.{follows_off, follows_on, read_ended, read_refused}
use Rattle.tq_txn_states.specs.{Voting.{KeepsOnly, answers_of}, Open.{read_copy, read_op, txn_after_op}}
use Rattle.tq_txn_states.proofs.{CitedLaws.granted_cited, GoodGrants.{any_fit, grants_again, read_as_told}}
use Rattle.std.proofs.{lemmas.List.Elements.All-contains_itself, Common.{sym, subst, ap, ◌∙◌, Some, Ok, Err, refl}}
use Rattle.tq_evidence.specs.declared.op.OpKind.TheVariants as kinds
use Rattle.tq_locks.specs.declared.mode.Mode.TheVariants.{Shared}
use Rattle.tq_txn_states.specs.declared.fault.TxnFault.TheVariants as txn_faults
use Rattle.tq_txn.proofs.operations.read_at_quorum.Goals as goal

pub read_granted-requires-clause-fresh : goal.read_granted-requires-clause-fresh
read_granted-requires-clause-fresh g c = still_unused c.args.open.now c.lock_quorum.new.open c.in-Ok.ensures.kept c.args.file.now c.requires.fresh

pub read_granted-requires-clause-member : goal.read_granted-requires-clause-member
read_granted-requires-clause-member g c = still_member c.args.open.now c.lock_quorum.new.open c.in-Ok.ensures.kept c.in-Ok.grants.items c.in-Ok.ensures.member

pub returns-in-Err-clause-asks : goal.returns-in-Err-clause-asks
returns-in-Err-clause-asks g c =
    follows_off (quorum_line c.args.file.now Shared c.args.open.now) (λ new. new) (λ told new. read_end c.args.file.now told new) c.in-Err.fault c.lock_quorum.new.open c.lock_quorum.new.open (g.A.Asker.told c.args.asker.now) (g.A.Asker.told c.lock_quorum.new.asker) refl c.in-Err.ensures.asks

pub returns-in-Ok-read_granted-clause-asks : goal.returns-in-Ok-read_granted-clause-asks
returns-in-Ok-read_granted-clause-asks g c =
    let file = c.args.file.now in
    let grants = c.in-Ok.grants.items in
    let old = c.args.open.now in
    let now = c.lock_quorum.new.open in
    let kept = c.in-Ok.ensures.kept in
    let told = g.A.Asker.told c.lock_quorum.new.asker in
    let answers = answers_of old.txn file grants in
    let given = answers_of now.txn file grants in
    let again = grants_again kinds.Read now.txn file grants (any_fit grants) in
    let none = read_as_told now file grants (still_unused old now kept file c.requires.fresh) (still_few old now kept c.requires.few) (still_member old now kept grants c.in-Ok.ensures.member) in
    follows_on (quorum_line c.args.file.now Shared c.args.open.now) (λ new. new) (λ told new. read_end c.args.file.now told new) answers now (g.A.Asker.told c.args.asker.now) told told
    (Some (record { answer = Ok (Copy c.in-Ok-read_granted.copy); after = c.read_granted.new.self })) c.in-Ok.ensures.asks
    (read_ended file answers given now c.read_granted.new.self c.in-Ok-read_granted.copy told (same_answers old now kept file grants) none (c.in-Ok-read_granted.ensures.value ∙ sym (ap read_copy again)) (c.in-Ok-read_granted.ensures.after ∙ sym (ap (λ gs. txn_after_op now (read_op file gs)) again)))

pub returns-in-Err-read_granted-clause-asks : goal.returns-in-Err-read_granted-clause-asks
returns-in-Err-read_granted-clause-asks g c =
    let file = c.args.file.now in
    let grants = c.in-Ok.grants.items in
    let old = c.args.open.now in
    let now = c.lock_quorum.new.open in
    let kept = c.in-Ok.ensures.kept in
    let told = g.A.Asker.told c.lock_quorum.new.asker in
    let answers = answers_of old.txn file grants in
    let given = answers_of now.txn file grants in
    follows_on (quorum_line c.args.file.now Shared c.args.open.now) (λ new. new) (λ told new. read_end c.args.file.now told new) answers now (g.A.Asker.told c.args.asker.now) told told
    (ended_by (Err Memory) c.read_granted.new.self) c.in-Ok.ensures.asks
    (read_refused file answers given now c.read_granted.new.self txn_faults.Memory Memory told (same_answers old now kept file grants) tt c.in-Err-read_granted.ensures.err refl)

pub returns-in-Err-clause-knows : goal.returns-in-Err-clause-knows
returns-in-Err-clause-knows g c =
    let old = g.A.Asker.told c.args.asker.now in
    let new = g.A.Asker.told c.lock_quorum.new.asker in
    let more = grown_along (quorum_line c.args.file.now Shared c.args.open.now) old new (ended_by (Err c.in-Err.fault) c.lock_quorum.new.open) c.in-Err.ensures.asks in
    knows_touched old new c.args.open.now c.lock_quorum.new.open more c.in-Err.ensures.kept

pub returns-in-Ok-read_granted-clause-knows : goal.returns-in-Ok-read_granted-clause-knows
returns-in-Ok-read_granted-clause-knows g c =
    let old = g.A.Asker.told c.args.asker.now in
    let new = g.A.Asker.told c.lock_quorum.new.asker in
    let file = c.args.file.now in
    let grants = c.in-Ok.grants.items in
    let now = c.lock_quorum.new.open in
    let more = grown_along (quorum_line file Shared c.args.open.now) old new (Some (record { answer = Ok (answers_of c.args.open.now.txn file grants); after = now })) c.in-Ok.ensures.asks in
    let heard = subst (AreTold new) (sym (same_answers c.args.open.now now c.in-Ok.ensures.kept file grants)) c.in-Ok.ensures.heard in
    let cited = granted_cited now c.read_granted.new.self (read_op file grants) grants c.in-Ok-read_granted.ensures.after refl in
    λ is. knows_taken (answers_in new) (answers_in new) (answers_of now.txn file grants) now c.read_granted.new.self (All-contains_itself (answers_in new)) heard cited (knows_touched old new c.args.open.now now more c.in-Ok.ensures.kept is)

pub returns-in-Err-read_granted-clause-knows : goal.returns-in-Err-read_granted-clause-knows
returns-in-Err-read_granted-clause-knows g c =
    let old = g.A.Asker.told c.args.asker.now in
    let new = g.A.Asker.told c.lock_quorum.new.asker in
    let grants = c.in-Ok.grants.items in
    let now = c.lock_quorum.new.open in
    let more = grown_along (quorum_line c.args.file.now Shared c.args.open.now) old new (Some (record { answer = Ok (answers_of c.args.open.now.txn c.args.file.now grants); after = now })) c.in-Ok.ensures.asks in
    λ is. subst (KeepsOnly (answers_in new)) (sym c.in-Err-read_granted.ensures.err) (knows_touched old new c.args.open.now now more c.in-Ok.ensures.kept is)
