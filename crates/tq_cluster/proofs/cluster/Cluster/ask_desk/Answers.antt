use Rattle.std.proofs.{Math.Path.transport, Common.{◌++◌, ◌∙◌, ◌∷◌, [], Ok, ap, sym, subst}}
use Rattle.tq_txn.specs.declared.asker.Exchange.TheVariants as exchanges
use Rattle.tq_cluster.{specs.Told.{AreOfParts, CallerView, IsToldByDesk}, proofs.Callers.desk_told}
use Rattle.tq_cluster.proofs.cluster.Cluster.ask_desk.Goals as goal

pub returns-clause-exchanges : goal.returns-clause-exchanges
returns-clause-exchanges g c =
    let entry = c.in_ok-entry.entry in
    c.in_ok-entry.ensures.exchanges
    ∙ ap (λ (v : CallerView). v.told ++ exchanges.Desk c.args.ask (Ok (record { number = entry.number; reply = entry.reply })) ∷ []) c.caller.view_is

pub invariant_of-caller-2 : goal.invariant_of-caller-2
invariant_of-caller-2 g c =
    let asked = c.ask_part.ensures in
    (c.caller.invariant.0, subst (AreOfParts c.caller.inside.levels) (sym asked.exchanges) (desk_told c.caller.inside.levels c.self.inside.limits c.caller.inside.told.items c.args.ask c.ask_part.result c.caller.invariant.1 asked.same asked.reply asked.fault))

pub returns-clause-reply : goal.returns-clause-reply
returns-clause-reply g c =
    let entry = c.in_ok-entry.entry in
    transport (λ i. IsToldByDesk (c.caller.view_is i).levels (c.self.view_is i).limits entry.number entry.ask entry.reply) c.in_ok-entry.ensures.reply
