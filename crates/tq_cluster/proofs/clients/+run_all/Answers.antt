use Rattle.std.proofs.{Common.{refl, ◌≡◌, ◌++◌, [], ◌∙◌, ap, sym, get_or, append-nil}, Crossing.crosses}
use denote.Param.Send.{sendable}
use Rattle.tq_cluster.specs.{declared.clients.Follows.Follows, Clients.if_made}
use Rattle.tq_cluster.proofs.Callers.{joined, one_client_more, none_began, one_began_more}
use Rattle.tq_cluster.proofs.Seen.{caller_send, script_sync, cluster_sync}
use Rattle.tq_cluster.proofs.clients.+run_all.Goals as goal

pub spawn_with-started-requires-send-F : goal.spawn_with-started-requires-send-F
spawn_with-started-requires-send-F g t c κs within = search (caller_send, script_sync, cluster_sync, sendable, crosses) depth 60 fits 30000

pub returns-in-Ok-clause-ran : goal.returns-in-Ok-clause-ran
returns-in-Ok-clause-ran g t c = λ none.
    let both = c.either.ensures none in
    let before = c.run_all-ended.ensures.ran both.0 in
    let made = c.join-caller.result.caller in
    let promise = c.in-Ok.child.promise in
    let child = c.in-Ok.ensures.ok in
    let named : promise.2.now ≡ get_or c.args.scripts.now 0 promise.2.now = rw child c.script-item.is in (
      before.0 ++ if_made made,
      before.1,
      joined c.args.callers.now.items c.args.callers.now.items c.run_all-ended.new.callers.items before.0 (if_made made) c.put_made-made.new.callers.items refl before.2 c.put_made-made.ensures.items,
      before.3,
      one_client_more c.args.cluster.now.levels promise.0 c.args.cluster.now.limits promise.1 c.args.scripts.now promise.2.now c.args.team.workers before.1 before.0 made
          c.in-len1-up.len_at_least named (ap (λ (p : Follows). p.0) child ∙ c.levels.ensures) (ap (λ (p : Follows). p.1) child ∙ c.limits.ensures) before.4 (c.join-caller.ensures.ran both.1),
    )

pub returns-in-Ok-clause-began : goal.returns-in-Ok-clause-began
returns-in-Ok-clause-began g t c =
    let before = c.run_all-ended.ensures.began in
    let made = c.join-caller.result.caller in
    let promise = c.in-Ok.child.promise in
    let child = c.in-Ok.ensures.ok in
    let named : promise.2.now ≡ get_or c.args.scripts.now 0 promise.2.now = rw child c.script-item.is in (
      before.0 ++ if_made made,
      joined c.args.callers.now.items c.args.callers.now.items c.run_all-ended.new.callers.items before.0 (if_made made) c.put_made-made.new.callers.items refl before.1 c.put_made-made.ensures.items,
      one_began_more c.args.cluster.now.levels promise.0 c.args.cluster.now.limits promise.1 c.args.scripts.now promise.2.now before.0 made
          c.in-len1-up.len_at_least named (ap (λ (p : Follows). p.0) child ∙ c.levels.ensures) (ap (λ (p : Follows). p.1) child ∙ c.limits.ensures) before.2 c.join-caller.ensures.began,
    )

pub returns-in-Err-clause-began : goal.returns-in-Err-clause-began
returns-in-Err-clause-began g t c =
    ([], sym (append-nil c.args.callers.now.items), none_began c.args.cluster.now.levels c.args.cluster.now.limits c.args.scripts.now)

pub returns-in-Ok-clause-room : goal.returns-in-Ok-clause-room
returns-in-Ok-clause-room g t c = c.put_made-made.ensures.room ∙ c.run_all-ended.ensures.room

pub returns-in-Ok-clause-parts : goal.returns-in-Ok-clause-parts
returns-in-Ok-clause-parts g t c = λ none.
    let both = c.either.ensures none in
    c.run_all-ended.ensures.parts both.0
