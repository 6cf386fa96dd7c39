use Rattle.std.proofs.{Math.Path.transport, lemmas.List.length-set}
use Rattle.std.proofs.Common.{◌<◌, ◌-◌, ◌∙◌, ◌++◌, ◌∷◌, [], Ok, ℕ, length, rules, set, ap, sym, subst, arith}
use Rattle.tq_shape.specs.Tree.{IsServer}
use Rattle.tq_shape.specs.declared.part.Part.TheVariants as parts
use Rattle.tq_cluster.specs.{Told.{AreOfParts, CallerView, IsToldByServer}, Cluster.ClusterView}
use Rattle.tq_cluster.proofs.{Callers.server_told, Closing.named_by, cluster.Cluster.ask_node.Given.Over}
use Rattle.tq_cluster.proofs.Seen.{SawOne, asked_none, asked_others, asked_seen, on_err, seeing, server_saw}
use Rattle.tq_cluster.proofs.cluster.Cluster.ask_node.Goals.{After-ask_part}
use Rattle.tq_txn.specs.declared.asker.Exchange.TheVariants as exchanges
use Rattle.tq_cluster.proofs.cluster.Cluster.ask_node.Goals as goal

-- the caller, by the pass of the server, which was asked
abbrev after : (g : Over) → After-ask_part g → CallerView
after g c = let own = c.caller.inside in seeing own.levels own.told.items (set own.servers.items (c.number-number.result - 1) c.ask_part.new.pass) own.desk.seen own.view.seen

saw : (g : Over) (c : After-ask_part g) → SawOne c.args.caller.now (after g c) (parts.Server c.args.server.number) c.index_mut-pass.result.now.seen c.ask_part.new.pass.seen
saw g c =
    let own = c.caller.inside in
    let number = c.number-number.result in
    let of_tree = subst (λ (l : ℕ). IsServer l number) (c.requires.server ∙ sym c.requires.levels ∙ ap (λ (v : CallerView). v.levels) (sym c.caller.view_is)) c.number-number.ensures.within in
    let least = of_tree.0 in
    let most = of_tree.1 in
    let count = c.caller.invariant.0 in
    let less : number - 1 < length own.servers.items = omega arith in
    server_saw own.levels own.told.items own.servers.items own.desk.seen own.view.seen number (parts.Server c.args.server.number) c.index_mut-pass.result.now c.ask_part.new.pass c.args.caller.now c.caller.view_is less
    (ap parts.Server (sym c.number-number.ensures.value)) c.index_mut-pass.ensures.value

pub returns-clause-heard : goal.returns-clause-heard
returns-clause-heard g c =
    let asked = (goal.at.returns-clause-heard g c).After-ask_part in
    record {
      seen = asked_seen c.args.caller.now (after g asked) (parts.Server c.args.server.number) c.index_mut-pass.result.now.seen c.ask_part.new.pass.seen c.in_ok-entry.entry.number (saw g asked) c.in_ok-entry.ensures.seen;
      not_told = tt;
      fault = tt;
      others = asked_others c.args.caller.now (after g asked) (parts.Server c.args.server.number) c.index_mut-pass.result.now.seen c.ask_part.new.pass.seen (saw g asked);
      tree = ap (λ (v : CallerView). v.levels) c.caller.view_is;
    }

pub returns-in_err-entry-clause-heard : goal.returns-in_err-entry-clause-heard
returns-in_err-entry-clause-heard g c =
    let asked = (goal.at.returns-in_err-entry-clause-heard g c).After-ask_part in
    record {
      seen = search rules;
      not_told = on_err _ _ (asked_none c.args.caller.now (after g asked) (parts.Server c.args.server.number) c.index_mut-pass.result.now.seen c.ask_part.new.pass.seen (saw g asked) c.in_err-entry.ensures.not_told);
      fault = search rules;
      others = asked_others c.args.caller.now (after g asked) (parts.Server c.args.server.number) c.index_mut-pass.result.now.seen c.ask_part.new.pass.seen (saw g asked);
      tree = ap (λ (v : CallerView). v.levels) c.caller.view_is;
    }

pub ask_part-requires : goal.ask_part-requires
ask_part-requires g c =
    let number = c.number-number.result in
    let of_tree = subst (λ (l : ℕ). IsServer l number) (c.requires.server ∙ ap (λ (v : ClusterView). v.levels) (sym c.self.view_is)) c.number-number.ensures.within in
    let least = of_tree.0 in
    let most = of_tree.1 in
    let count = c.self.invariant.one_each in
    sym (named_by c.self.inside.servers.items number c.index-cell.result.now c.self.invariant.are_servers least (omega arith) c.index-cell.ensures)

pub returns-clause-exchanges : goal.returns-clause-exchanges
returns-clause-exchanges g c =
    let entry = c.in_ok-entry.entry in
    c.in_ok-entry.ensures.exchanges
    ∙ (λ i. (c.caller.view_is i).told ++ exchanges.Node (c.number-number.ensures.value i) c.args.ask (Ok (record { number = entry.number; reply = entry.reply })) ∷ [])

pub invariant_of-caller-2 : goal.invariant_of-caller-2
invariant_of-caller-2 g c =
    let asked = c.ask_part.ensures in
    let number = c.number-number.result in
    let many = length-set c.caller.inside.servers.items (number - 1) c.ask_part.new.pass in
    let before = c.caller.invariant.0 in (
      omega (arith, many, before),
      subst (AreOfParts c.caller.inside.levels) (sym asked.exchanges) (server_told c.caller.inside.levels number c.caller.inside.told.items c.args.ask c.ask_part.result c.caller.invariant.1 asked.same asked.reply asked.fault),
    )

pub returns-clause-reply : goal.returns-clause-reply
returns-clause-reply g c =
    let entry = c.in_ok-entry.entry in
    transport (λ i. IsToldByServer (c.caller.view_is i).levels (c.number-number.ensures.value i) entry.number entry.ask entry.reply) c.in_ok-entry.ensures.reply
