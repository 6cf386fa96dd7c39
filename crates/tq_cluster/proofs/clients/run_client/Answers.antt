use Rattle.std.{proofs.Common.{◌∙◌, ℕ, None, Some, ap, sym, subst}, specs.Result.result_ok}
use Rattle.tq_shape.specs.Limits.{LimitsView}
use Rattle.tq_txn.specs.{Dialogue.Follows, Script.script_asked}
use Rattle.tq_cluster.{specs.{Told.CallerView, Clients.IsClient}, proofs.Callers.client_told}
use Rattle.tq_cluster.proofs.clients.run_client.Goals as goal

pub returns : goal.returns
returns g c =
    let levels = c.levels-levels.result in
    let limits = c.limits-limits.result in
    let script = c.args.script.now in
    let old = c.new-asking.result.told in
    let caller = c.into_caller.result in
    let memory = c.is_err.result in
    let none = ap (λ (v : CallerView). v.told) (c.new-asking.ensures ∙ c.make_room.ensures ∙ c.in-Ok.ensures) in
    let asked = subst (λ (v : CallerView). Follows (script_asked levels limits script None) old v.told (result_ok c.run_script-ended.result)) (sym c.into_caller.ensures) c.run_script-ended.ensures.asks in
    let client = client_told levels limits script old caller c.run_script-ended.result memory c.is_err.ensures.value none asked in
    subst (λ (n : ℕ). IsClient n c.args.cluster.now.limits script memory (Some caller)) c.levels-levels.ensures
    (subst (λ (l : LimitsView). IsClient levels l script memory (Some caller)) c.limits-limits.ensures client)
