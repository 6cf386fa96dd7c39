use Rattle.std.proofs.{Common.{refl, rules, ◌∙◌, ap, ◌≡◌, ◌+◌, ◌-◌, ◌++◌, [], ◌∷◌, ℕ, subst, arith}, Crossing.send}
use Rattle.std.proofs.lemmas.Bool.Decides.{nat_tests}
use denote.Param.{param}
use denote.Param.Send.{IsSync, param_send, arg_send, shr_send}
use denote.Exit.{no}
use Rattle.crossbeam_channel.specs.Claims.{view}
use Rattle.tq_cluster.specs.{declared.workers.WorkerPromise.WorkerPromise, Clients.{Works, BeginsJobs}}
use Rattle.tq_cluster.proofs.Callers.{all_and, joined, one_worker_more}
use Rattle.tq_cluster.proofs.Seen.{caller_send, taker_send, cluster_sync, five_send}
use Rattle.tq_cluster.proofs.workers.+run_workers.Goals as goal

pub spawn_with-child-requires-send-F : goal.spawn_with-child-requires-send-F
spawn_with-child-requires-send-F g t c κs within =
    let handle : IsSync (param 0 g.row.R) = search rules parts 8 in
    let gate : IsSync (param 1 g.row.G) = search rules parts 8 in
    param_send 2 _ (arg_send _ no _ (five_send _ _ _ _ _ _ (shr_send _ _ _ handle) send (shr_send _ _ _ (cluster_sync _ gate)) caller_send taker_send))

pub returns-in-Ok-clause-ran : goal.returns-in-Ok-clause-ran
returns-in-Ok-clause-ran g t c = λ none.
    let workers = c.args.team.workers in
    let started = c.args.started in
    let least = c.requires.started in
    let other = c.if-started-team.false in
    let more : workers - started ≡ (workers - (started + 1)) + 1 = grind (arith, nat_tests) in
    let both = c.either.ensures none in
    let before = c.run_workers-ended.ensures.ran both.0 in
    let caller = c.join-caller.result.caller in
    let mine = (view c.join-caller.result.taker.pass).taken in
    let works =
    subst (λ (n : ℕ). Works n mine caller) c.levels.ensures
    (subst (λ (p : WorkerPromise). Works p.0 mine caller) c.in-Ok.ensures.ok (c.join-caller.ensures.0 both.1)) in (
      before.0 ++ caller ∷ [],
      before.1 ++ mine,
      joined c.args.callers.now.items c.args.callers.now.items c.run_workers-ended.new.callers.items before.0 (caller ∷ []) c.push_reserved.new.self.items refl before.2 c.push_reserved.ensures.items,
      joined (view c.args.putter.now.pass).taken (view c.seat_for_worker.new.putter.pass).taken (view c.run_workers-ended.new.putter.pass).taken before.1 mine (view c.rejoin.new.self.pass).taken c.in-Some.ensures.taken before.3 c.rejoin.ensures.taken,
      one_worker_more c.args.cluster.now.levels (workers - (started + 1)) (workers - started) before.1 mine before.0 caller more before.4 works,
    )

pub returns-in-Ok-clause-began : goal.returns-in-Ok-clause-began
returns-in-Ok-clause-began g t c =
    let before = c.run_workers-ended.ensures.began in
    let caller = c.join-caller.result.caller in
    let began =
    subst (λ (n : ℕ). BeginsJobs n caller) c.levels.ensures
    (subst (λ (p : WorkerPromise). BeginsJobs p.0 caller) c.in-Ok.ensures.ok c.join-caller.ensures.2) in (
      before.0 ++ caller ∷ [],
      joined c.args.callers.now.items c.args.callers.now.items c.run_workers-ended.new.callers.items before.0 (caller ∷ []) c.push_reserved.new.self.items refl before.1 c.push_reserved.ensures.items,
      all_and (BeginsJobs c.args.cluster.now.levels) before.0 caller before.2 began,
    )

pub returns-in-Ok-clause-channel : goal.returns-in-Ok-clause-channel
returns-in-Ok-clause-channel g t c = c.rejoin.ensures.channel ∙ c.run_workers-ended.ensures.channel ∙ c.seat_for_worker.ensures.channel

pub returns-in-Ok-clause-room : goal.returns-in-Ok-clause-room
returns-in-Ok-clause-room g t c = c.push_reserved.ensures.capacity ∙ c.run_workers-ended.ensures.room

pub returns-in-Ok-clause-parts : goal.returns-in-Ok-clause-parts
returns-in-Ok-clause-parts g t c = λ none.
    let both = c.either.ensures none in
    c.rejoin.ensures.parts ∙ ap (λ (n : ℕ). n + 1) (c.run_workers-ended.ensures.parts both.0) ∙ c.in-Some.ensures.taker.2

pub returns-in-Ok-clause-some_part : goal.returns-in-Ok-clause-some_part
returns-in-Ok-clause-some_part g t c = let one_more = c.rejoin.ensures.parts in omega (arith, one_more)
