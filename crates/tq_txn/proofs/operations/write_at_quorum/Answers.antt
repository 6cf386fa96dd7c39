use Rattle.std.proofs.lemmas.List.Elements.{All-contains_itself}
use Rattle.std.proofs.Common.{sym, subst, ap, ◌∙◌, ◌+◌, Option, Some, Ok, Err, refl}
use Rattle.tq_evidence.specs.Evidence.{greatest}
use Rattle.tq_evidence.specs.declared.op.OpKind.TheVariants as kinds
use Rattle.tq_locks.specs.declared.mode.Mode.TheVariants.{Exclusive}
use Rattle.tq_txn_states.specs.{Voting.{KeepsOnly, answers_of}, declared.fault.TxnFault.TxnFault}
use Rattle.tq_txn_states.specs.Open.{ComesOf, txn_after_op, write_op}
use Rattle.tq_txn_states.proofs.{CitedLaws.granted_cited, GoodGrants.{grants_again, write_as_told}}
use Rattle.tq_txn.specs.{Dialogue.ended_by, Lines.{quorum_line, write_end}, Told.{AreTold, answers_in}}
use Rattle.tq_txn.proofs.LockingLaws.{all_exclusive, same_answers, still_few, still_member, still_unwritten}
use Rattle.tq_txn.proofs.KnownLaws.{knows_touched, knows_taken, grown_along}
use Rattle.tq_txn.proofs.LineLaws.{follows_off, follows_on, write_ended, write_refused}
use Rattle.tq_txn.proofs.operations.write_at_quorum.Goals as goal

pub write_granted-requires-clause-fresh : goal.write_granted-requires-clause-fresh
write_granted-requires-clause-fresh g c = still_unwritten c.args.open.now c.lock_quorum.new.open c.in-Ok.ensures.kept c.args.file.now c.requires.fresh

pub write_granted-requires-clause-member : goal.write_granted-requires-clause-member
write_granted-requires-clause-member g c = still_member c.args.open.now c.lock_quorum.new.open c.in-Ok.ensures.kept c.in-Ok.grants.items c.in-Ok.ensures.member

pub write_granted-requires-clause-exclusive : goal.write_granted-requires-clause-exclusive
write_granted-requires-clause-exclusive g c = all_exclusive c.in-Ok.grants.items c.in-Ok.ensures.modes

pub returns-in-Err-clause-asks : goal.returns-in-Err-clause-asks
returns-in-Err-clause-asks g c =
    follows_off (quorum_line c.args.file.now Exclusive c.args.open.now) (λ new. new) (λ told new. write_end c.args.file.now c.args.content told new) c.in-Err.fault c.lock_quorum.new.open c.lock_quorum.new.open (g.A.Asker.told c.args.asker.now) (g.A.Asker.told c.lock_quorum.new.asker) refl c.in-Err.ensures.asks

pub returns-in-Ok-write_granted-clause-asks : goal.returns-in-Ok-write_granted-clause-asks
returns-in-Ok-write_granted-clause-asks g c =
    let file = c.args.file.now in
    let grants = c.in-Ok.grants.items in
    let old = c.args.open.now in
    let now = c.lock_quorum.new.open in
    let kept = c.in-Ok.ensures.kept in
    let told = g.A.Asker.told c.lock_quorum.new.asker in
    let answers = answers_of old.txn file grants in
    let given = answers_of now.txn file grants in
    let exclusive = all_exclusive grants c.in-Ok.ensures.modes in
    let again = grants_again kinds.Write now.txn file grants exclusive in
    let fault = write_as_told now file grants (still_unwritten old now kept file c.requires.fresh) (still_few old now kept c.requires.few) (still_member old now kept grants c.in-Ok.ensures.member) exclusive in
    let made = c.in-Ok-write_granted.ensures in
    follows_on (quorum_line file Exclusive old) (λ new. new) (λ told new. write_end file c.args.content told new) answers now (g.A.Asker.told c.args.asker.now) told told
    (Some (record { answer = Ok c.in-Ok-write_granted.version; after = c.write_granted.new.self })) c.in-Ok.ensures.asks
    (write_ended file c.args.content answers given now c.write_granted.new.self c.in-Ok-write_granted.version told (same_answers old now kept file grants) (fault ∙ made.succeeds) (made.value ∙ sym (ap (λ gs. greatest gs + 1) again)) (made.after ∙ sym (ap (λ gs. txn_after_op now (write_op file c.args.content gs)) again)))

pub returns-in-Err-write_granted-clause-asks : goal.returns-in-Err-write_granted-clause-asks
returns-in-Err-write_granted-clause-asks g c =
    let file = c.args.file.now in
    let grants = c.in-Ok.grants.items in
    let old = c.args.open.now in
    let now = c.lock_quorum.new.open in
    let kept = c.in-Ok.ensures.kept in
    let told = g.A.Asker.told c.lock_quorum.new.asker in
    let answers = answers_of old.txn file grants in
    let given = answers_of now.txn file grants in
    let exclusive = all_exclusive grants c.in-Ok.ensures.modes in
    let fault = write_as_told now file grants (still_unwritten old now kept file c.requires.fresh) (still_few old now kept c.requires.few) (still_member old now kept grants c.in-Ok.ensures.member) exclusive in
    let refused = c.in-Err-write_granted.ensures in
    let P : Option TxnFault → Type 0 = λ cause. ComesOf cause c.in-Err-write_granted.fault in
    follows_on (quorum_line file Exclusive old) (λ new. new) (λ told new. write_end file c.args.content told new) answers now (g.A.Asker.told c.args.asker.now) told told
    (ended_by (Err c.from.result) c.write_granted.new.self) c.in-Ok.ensures.asks
    (write_refused file c.args.content answers given now c.write_granted.new.self c.in-Err-write_granted.fault c.from.result told (same_answers old now kept file grants) (subst P (sym fault) refused.fault) refused.err c.from.ensures)

pub returns-in-Err-clause-knows : goal.returns-in-Err-clause-knows
returns-in-Err-clause-knows g c =
    let old = g.A.Asker.told c.args.asker.now in
    let new = g.A.Asker.told c.lock_quorum.new.asker in
    let more = grown_along (quorum_line c.args.file.now Exclusive c.args.open.now) old new (ended_by (Err c.in-Err.fault) c.lock_quorum.new.open) c.in-Err.ensures.asks in
    knows_touched old new c.args.open.now c.lock_quorum.new.open more c.in-Err.ensures.kept

pub returns-in-Ok-write_granted-clause-knows : goal.returns-in-Ok-write_granted-clause-knows
returns-in-Ok-write_granted-clause-knows g c =
    let old = g.A.Asker.told c.args.asker.now in
    let new = g.A.Asker.told c.lock_quorum.new.asker in
    let file = c.args.file.now in
    let grants = c.in-Ok.grants.items in
    let now = c.lock_quorum.new.open in
    let more = grown_along (quorum_line file Exclusive c.args.open.now) old new (Some (record { answer = Ok (answers_of c.args.open.now.txn file grants); after = now })) c.in-Ok.ensures.asks in
    let heard = subst (AreTold new) (sym (same_answers c.args.open.now now c.in-Ok.ensures.kept file grants)) c.in-Ok.ensures.heard in
    let cited = granted_cited now c.write_granted.new.self (write_op file c.args.content grants) grants c.in-Ok-write_granted.ensures.after refl in
    λ is. knows_taken (answers_in new) (answers_in new) (answers_of now.txn file grants) now c.write_granted.new.self (All-contains_itself (answers_in new)) heard cited (knows_touched old new c.args.open.now now more c.in-Ok.ensures.kept is)

pub returns-in-Err-write_granted-clause-knows : goal.returns-in-Err-write_granted-clause-knows
returns-in-Err-write_granted-clause-knows g c =
    let old = g.A.Asker.told c.args.asker.now in
    let new = g.A.Asker.told c.lock_quorum.new.asker in
    let grants = c.in-Ok.grants.items in
    let now = c.lock_quorum.new.open in
    let more = grown_along (quorum_line c.args.file.now Exclusive c.args.open.now) old new (Some (record { answer = Ok (answers_of c.args.open.now.txn c.args.file.now grants); after = now })) c.in-Ok.ensures.asks in
    λ is. subst (KeepsOnly (answers_in new)) (sym c.in-Err-write_granted.ensures.err) (knows_touched old new c.args.open.now now more c.in-Ok.ensures.kept is)
