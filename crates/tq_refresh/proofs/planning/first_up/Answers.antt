use Rattle.std.proofs.Common.{◌≡◌, Some, None, find, ap, sym, ◌∙◌, rules}
use Rattle.tq_shape.specs.{ServerSet.has_number, Tree.Server}
use Rattle.tq_refresh.{specs.Plan.servers_in, proofs.{Marked.find-up, Walked.{of_one_tree, left_of_tree, find-passed}}}
use Rattle.tq_refresh.proofs.planning.first_up.Goals as goal

pub loop-current-init : goal.loop-current-init
loop-current-init c =
    let start : c.into_iter-current-iterator.result ≡ servers_in c.args.servers.now = search rules in
    record {
      of_tree = of_one_tree _ _ _ _ start c.requires;
      left = ap (find (λ (server : Server). has_number c.args.up.now.numbers server.number)) start;
    }

pub loop-current-preserved : goal.loop-current-preserved
loop-current-preserved c =
    let has = λ (server : Server). has_number c.args.up.now.numbers server.number in
    record {
      of_tree = left_of_tree c.args.up.now.levels _ _ _ c.in-Some.ensures.steps c.loop-current.invariant.of_tree;
      left = find-passed has _ _ _ c.in-Some.ensures.steps _ (sym c.contains.ensures ∙ c.if-contains.false) c.loop-current.invariant.left;
    }

pub returns-then-contains-clause-value : goal.returns-then-contains-clause-value
returns-then-contains-clause-value c = λ live is.
    let has = λ (server : Server). has_number c.args.up.now.numbers server.number in
    let found : Some c.in-Some.current ≡ find has (servers_in c.args.servers.now) = search rules in
    found ∙ find-up live c.args.up.now c.args.servers.now is c.requires c.iter-current-items.ensures.of_tree

pub returns-clause-value : goal.returns-clause-value
returns-clause-value c = λ live is.
    let has = λ (server : Server). has_number c.args.up.now.numbers server.number in
    let found : None ≡ find has (servers_in c.args.servers.now) = search rules in
    found ∙ find-up live c.args.up.now c.args.servers.now is c.requires c.iter-current-items.ensures.of_tree
