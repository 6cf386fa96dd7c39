use Rattle.std.proofs.Common.{◌∙◌, ◌-◌, ◌^◌, [], ◌∷◌, Err, inl, inr, refl, ap, sym, subst}
use Rattle.tq_shape.specs.declared.part.Part.TheVariants as parts
use Rattle.tq_tables.specs.Journals.{JournalsView}
use Rattle.tq_mirror.specs.Prefixes.{IsPullFault}
use Rattle.tq_cluster.specs.{Told.{CallerView, seen_of}, Rounds.{Continues, servers_from}}
use Rattle.tq_cluster.proofs.{Seen.sees-on-after, Pulled.{continues-grown, continues-after, seen-after}}
use Rattle.tq_cluster.proofs.Came.{before-desk, came, ended-after, ended-at, goes-after, goes-grown, goes-same, rises}
use Rattle.tq_cluster.proofs.InTurn.{is-pulled, is-not-pulled, last-pulled, not-all-pulled, then-pulled}
use Rattle.tq_cluster.proofs.live_board.LiveBoard.pull.Goals as goal

pub returns-clause-continues : goal.returns-clause-continues
returns-clause-continues g c =
    let grew = c.in-Ok-pull_part.ensures.grown in
    let middle = subst (λ (o : JournalsView). Continues c.args.self.now o) (sym grew.1) (continues-grown c.args.self.now c.pull_servers.new.self parts.Desk grew.0 c.pull_servers.ensures.continues) in
    continues-after c.args.self.now c.pull_part.new.self c.pull_part-2.new.self parts.View c.pull_part-2.result c.pull_part-2.ensures.grown c.pull_part-2.ensures.err middle

pub returns-in-Err-pull_part-clause-grows : goal.returns-in-Err-pull_part-clause-grows
returns-in-Err-pull_part-clause-grows g c = sees-on-after c.args.caller.now c.pull_servers.new.caller c.pull_part.new.caller parts.Desk c.pull_servers.ensures.grows (rises c.pull_servers.new.self c.pull_part.new.self c.pull_servers.new.caller c.pull_part.new.caller parts.Desk c.pull_part.ensures.saw c.pull_part.ensures.others)

pub returns-clause-grows : goal.returns-clause-grows
returns-clause-grows g c =
    let desk = sees-on-after c.args.caller.now c.pull_servers.new.caller c.pull_part.new.caller parts.Desk c.pull_servers.ensures.grows (rises c.pull_servers.new.self c.pull_part.new.self c.pull_servers.new.caller c.pull_part.new.caller parts.Desk c.pull_part.ensures.saw c.pull_part.ensures.others) in
    sees-on-after c.args.caller.now c.pull_part.new.caller c.pull_part-2.new.caller parts.View desk (rises c.pull_part.new.self c.pull_part-2.new.self c.pull_part.new.caller c.pull_part-2.new.caller parts.View c.pull_part-2.ensures.saw c.pull_part-2.ensures.others)

pub returns-clause-seen : goal.returns-clause-seen
returns-clause-seen g c =
    let grew = c.in-Ok-pull_part.ensures.grown in
    let saw = (rises c.pull_servers.new.self c.pull_part.new.self c.pull_servers.new.caller c.pull_part.new.caller parts.Desk c.pull_part.ensures.saw c.pull_part.ensures.others) in
    let saw_more = (rises c.pull_part.new.self c.pull_part-2.new.self c.pull_part.new.caller c.pull_part-2.new.caller parts.View c.pull_part-2.ensures.saw c.pull_part-2.ensures.others) in
    seen-after c.pull_servers.new.self c.pull_servers.new.caller c.args.cluster.now.levels grew.0 saw.0 saw_more.0 c.pull_part.new.self c.pull_part-2.new.self c.pull_part.new.caller c.pull_part-2.new.caller c.pull_part-2.result
    c.in-Ok.ensures.seen grew.1 saw.2 c.pull_part-2.ensures.grown saw_more.2 c.in-Ok-pull_part.ensures.seen c.pull_part-2.ensures.seen ((returns-clause-continues g c).levels ∙ c.requires.levels)

pub returns-clause-told : goal.returns-clause-told
returns-clause-told g c = ap (λ (v : CallerView). v.told) c.pull_part-2.ensures.others ∙ ap (λ (v : CallerView). v.told) c.pull_part.ensures.others ∙ c.pull_servers.ensures.told

pub returns-clause-tree : goal.returns-clause-tree
returns-clause-tree g c = ap (λ (v : CallerView). v.levels) c.pull_part-2.ensures.others ∙ ap (λ (v : CallerView). v.levels) c.pull_part.ensures.others ∙ c.pull_servers.ensures.tree

pub returns-in-Err-pull_part-clause-told : goal.returns-in-Err-pull_part-clause-told
returns-in-Err-pull_part-clause-told g c = ap (λ (v : CallerView). v.told) c.pull_part.ensures.others ∙ c.pull_servers.ensures.told

pub returns-in-Err-pull_part-clause-tree : goal.returns-in-Err-pull_part-clause-tree
returns-in-Err-pull_part-clause-tree g c = ap (λ (v : CallerView). v.levels) c.pull_part.ensures.others ∙ c.pull_servers.ensures.tree

pub returns-in-Err-pull_part-clause-continues : goal.returns-in-Err-pull_part-clause-continues
returns-in-Err-pull_part-clause-continues g c = subst (λ (o : JournalsView). Continues c.args.self.now o) (sym c.in-Err-pull_part.ensures.err) c.pull_servers.ensures.continues

pub returns-clause-fault : goal.returns-clause-fault
returns-clause-fault g c =
    let grew = c.in-Ok-pull_part.ensures.grown in
    ended-after c.pull_servers.new.self c.pull_part.new.self c.pull_part-2.new.self c.pull_servers.new.caller c.pull_part.new.caller c.pull_part-2.new.caller c.args.cluster.now.levels grew.0 (seen_of c.pull_part.new.caller parts.Desk) c.pull_part-2.result
    c.in-Ok.ensures.seen grew.1 c.pull_part.ensures.others c.in-Ok-pull_part.ensures.seen c.pull_part-2.ensures.err c.pull_part-2.ensures.others
    (ap (λ (o : JournalsView). o.levels) grew.1 ∙ (continues-grown c.args.self.now c.pull_servers.new.self parts.Desk grew.0 c.pull_servers.ensures.continues).levels ∙ c.requires.levels)
    c.pull_part-2.ensures.fault

pub returns-in-Err-pull_part-clause-fault : goal.returns-in-Err-pull_part-clause-fault
returns-in-Err-pull_part-clause-fault g c =
    let fault = c.in-Err-pull_part.ensures.fault in
    let tree = ap (λ (o : JournalsView). o.levels) c.in-Err-pull_part.ensures.err ∙ c.pull_servers.ensures.continues.levels ∙ c.requires.levels in
    ended-at c.pull_part.new.self c.pull_part.new.caller parts.Desk fault.0 c.in-Err-pull_part.fault tt
    (before-desk c.pull_servers.new.self c.pull_part.new.self c.pull_servers.new.caller c.pull_part.new.caller c.args.cluster.now.levels (seen_of c.pull_part.new.caller parts.Desk) c.in-Ok.ensures.seen c.in-Err-pull_part.ensures.err
    c.pull_part.ensures.others tree)
    (subst (λ (o : JournalsView). IsPullFault o parts.Desk fault.0 (seen_of c.pull_part.new.caller parts.Desk) c.in-Err-pull_part.fault) (sym c.in-Err-pull_part.ensures.err) fault.1)

pub returns-in-Err-pull_part-clause-saw : goal.returns-in-Err-pull_part-clause-saw
returns-in-Err-pull_part-clause-saw g c =
    came c.args.self.now c.pull_servers.new.self c.pull_part.new.self c.args.caller.now c.pull_servers.new.caller c.pull_part.new.caller c.pull_servers.ensures.saw c.pull_servers.ensures.continues
    parts.Desk (goes-same c.pull_servers.new.self c.pull_part.new.self parts.Desk c.in-Err-pull_part.ensures.err) c.pull_part.ensures.saw c.pull_part.ensures.others

pub returns-clause-saw : goal.returns-clause-saw
returns-clause-saw g c =
    let grew = c.in-Ok-pull_part.ensures.grown in
    let with_desk =
    came c.args.self.now c.pull_servers.new.self c.pull_part.new.self c.args.caller.now c.pull_servers.new.caller c.pull_part.new.caller c.pull_servers.ensures.saw c.pull_servers.ensures.continues
    parts.Desk (goes-grown c.pull_servers.new.self c.pull_part.new.self parts.Desk grew.0 grew.1) c.pull_part.ensures.saw c.pull_part.ensures.others in
    let middle = subst (λ (o : JournalsView). Continues c.args.self.now o) (sym grew.1) (continues-grown c.args.self.now c.pull_servers.new.self parts.Desk grew.0 c.pull_servers.ensures.continues) in
    came c.args.self.now c.pull_part.new.self c.pull_part-2.new.self c.args.caller.now c.pull_part.new.caller c.pull_part-2.new.caller with_desk middle
    parts.View (goes-after c.pull_part.new.self c.pull_part-2.new.self parts.View c.pull_part-2.result c.pull_part-2.ensures.grown c.pull_part-2.ensures.err) c.pull_part-2.ensures.saw c.pull_part-2.ensures.others

pub returns-in-Err-clause-pulls : goal.returns-in-Err-clause-pulls
returns-in-Err-clause-pulls g c =
    not-all-pulled (servers_from 1 (2 ^ c.args.cluster.now.levels - 1)) (parts.Desk ∷ parts.View ∷ []) c.args.self.now c.pull_servers.new.self c.args.caller.now c.pull_servers.new.caller c.in-Err.fault c.in-Err.ensures.pulls

pub returns-in-Err-pull_part-clause-pulls : goal.returns-in-Err-pull_part-clause-pulls
returns-in-Err-pull_part-clause-pulls g c =
    let fault = c.in-Err-pull_part.fault in
    then-pulled (servers_from 1 (2 ^ c.args.cluster.now.levels - 1)) (parts.Desk ∷ parts.View ∷ []) c.args.self.now c.pull_servers.new.self c.pull_part.new.self c.args.caller.now c.pull_servers.new.caller c.pull_part.new.caller (Err fault) c.in-Ok.ensures.pulls
    (inl (fault, refl, is-not-pulled parts.Desk c.pull_servers.new.self c.pull_part.new.self c.pull_servers.new.caller c.pull_part.new.caller c.pull_part.ensures.saw c.pull_part.ensures.others fault c.in-Err-pull_part.ensures.err c.in-Err-pull_part.ensures.fault))

pub returns-clause-pulls : goal.returns-clause-pulls
returns-clause-pulls g c =
    let end = c.pull_part-2.result in
    then-pulled (servers_from 1 (2 ^ c.args.cluster.now.levels - 1)) (parts.Desk ∷ parts.View ∷ []) c.args.self.now c.pull_servers.new.self c.pull_part-2.new.self c.args.caller.now c.pull_servers.new.caller c.pull_part-2.new.caller end c.in-Ok.ensures.pulls
    (inr (
      c.pull_part.new.self,
      c.pull_part.new.caller,
      is-pulled parts.Desk c.pull_servers.new.self c.pull_part.new.self c.pull_servers.new.caller c.pull_part.new.caller c.pull_part.ensures.saw c.pull_part.ensures.others c.in-Ok-pull_part.ensures.grown c.in-Ok-pull_part.ensures.seen,
      last-pulled parts.View c.pull_part.new.self c.pull_part-2.new.self c.pull_part.new.caller c.pull_part-2.new.caller c.pull_part-2.ensures.saw c.pull_part-2.ensures.others end c.pull_part-2.ensures.grown c.pull_part-2.ensures.seen c.pull_part-2.ensures.err c.pull_part-2.ensures.fault,
    ))
