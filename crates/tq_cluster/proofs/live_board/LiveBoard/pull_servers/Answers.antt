use Rattle.std.proofs.Common.{◌≡◌, ◌<◌, ◌≤◌, ◌+◌, ◌-◌, ◌^◌, ◌∙◌, ℕ, Ok, refl, sym, ap, subst, arith}
use Rattle.tq_shape.specs.Tree.{IsServer}
use Rattle.tq_shape.specs.declared.part.Part.TheVariants as parts
use Rattle.tq_tables.specs.Journals.{JournalsView}
use Rattle.tq_mirror.specs.Prefixes.{IsPullFault}
use Rattle.tq_cluster.specs.{Told.{CallerView, seen_of}, Rounds.{ArePulled, Continues, servers_from}}
use Rattle.tq_cluster.proofs.Seen.{sees-on-same, sees-on-after}
use Rattle.tq_cluster.proofs.Pulled.{continues-same, continues-grown, servers-next}
use Rattle.tq_cluster.proofs.Came.{before-server, came, ended-at, goes-grown, goes-same, rises, saw-same}
use Rattle.tq_cluster.proofs.InTurn.{is-pulled, is-not-pulled, next-server, no-server}
use Rattle.tq_cluster.proofs.live_board.LiveBoard.pull_servers.Goals as goal

pub loop-place-init : goal.loop-place-init
loop-place-init g c = record {
  pulled = (refl, refl, refl);
  within = omega arith;
  continues = continues-same c.args.self.now;
  seen = λ number least most. absurd (omega (arith, least, most));
  told = refl;
  grows = sees-on-same c.args.caller.now;
  saw = saw-same c.args.self.now c.args.caller.now;
  tree = refl;
}

pub returns-in-Err-clause-grows : goal.returns-in-Err-clause-grows
returns-in-Err-clause-grows g c = sees-on-after c.args.caller.now c.loop-place.caller c.pull_part.new.caller (parts.Server (c.loop-place.place + 1)) c.loop-place.invariant.grows (rises c.loop-place.self c.pull_part.new.self c.loop-place.caller c.pull_part.new.caller (parts.Server (c.loop-place.place + 1)) c.pull_part.ensures.saw c.pull_part.ensures.others)

pub loop-place-preserved : goal.loop-place-preserved
loop-place-preserved g c =
    let before = c.loop-place.invariant in
    let grew = c.in-Ok.ensures.grown in
    let place = parts.Server (c.loop-place.place + 1) in
    let less = c.loop-place-test.true in
    let end = c.servers-place-end.ensures.value in
    let power = ap (λ (l : ℕ). 2 ^ l) c.levels.ensures in
    let saw = (rises c.loop-place.self c.pull_part.new.self c.loop-place.caller c.pull_part.new.caller (parts.Server (c.loop-place.place + 1)) c.pull_part.ensures.saw c.pull_part.ensures.others) in
    record {
      pulled = next-server c.loop-place.place c.args.self.now c.loop-place.self c.pull_part.new.self c.args.caller.now c.loop-place.caller c.pull_part.new.caller before.pulled
          (is-pulled place c.loop-place.self c.pull_part.new.self c.loop-place.caller c.pull_part.new.caller c.pull_part.ensures.saw c.pull_part.ensures.others grew c.in-Ok.ensures.seen);
      within = omega (arith, less, end, power);
      continues = subst (λ (o : JournalsView). Continues c.args.self.now o) (sym grew.1) (continues-grown c.args.self.now c.loop-place.self (parts.Server (c.loop-place.place + 1)) grew.0 before.continues);
      seen = servers-next c.loop-place.self c.loop-place.caller c.loop-place.place saw.0 grew.0 before.seen c.pull_part.new.self c.pull_part.new.caller grew.1 saw.2 c.in-Ok.ensures.seen;
      told = ap (λ (v : CallerView). v.told) saw.2 ∙ before.told;
      grows = sees-on-after c.args.caller.now c.loop-place.caller c.pull_part.new.caller (parts.Server (c.loop-place.place + 1)) before.grows saw;
      saw = came c.args.self.now c.loop-place.self c.pull_part.new.self c.args.caller.now c.loop-place.caller c.pull_part.new.caller before.saw before.continues (parts.Server (c.loop-place.place + 1))
          (goes-grown c.loop-place.self c.pull_part.new.self (parts.Server (c.loop-place.place + 1)) grew.0 grew.1) c.pull_part.ensures.saw c.pull_part.ensures.others;
      tree = ap (λ (v : CallerView). v.levels) saw.2 ∙ before.tree;
    }

pub returns-in-Err-clause-saw : goal.returns-in-Err-clause-saw
returns-in-Err-clause-saw g c =
    let place = parts.Server (c.loop-place.place + 1) in
    came c.args.self.now c.loop-place.self c.pull_part.new.self c.args.caller.now c.loop-place.caller c.pull_part.new.caller c.loop-place.invariant.saw c.loop-place.invariant.continues place
    (goes-same c.loop-place.self c.pull_part.new.self place c.in-Err.ensures.err) c.pull_part.ensures.saw c.pull_part.ensures.others

pub returns-in-Err-clause-fault : goal.returns-in-Err-clause-fault
returns-in-Err-clause-fault g c =
    let place = parts.Server (c.loop-place.place + 1) in
    let fault = c.in-Err.ensures.fault in
    let less = c.loop-place-test.true in
    let end = c.servers-place-end.ensures.value in
    let power = ap (λ (l : ℕ). 2 ^ l) c.levels.ensures in
    let tree = ap (λ (o : JournalsView). o.levels) c.in-Err.ensures.err ∙ c.loop-place.invariant.continues.levels ∙ c.requires.levels in
    ended-at c.pull_part.new.self c.pull_part.new.caller place fault.0 c.in-Err.fault
    (subst (λ (l : ℕ). IsServer l (c.loop-place.place + 1)) (sym tree) (omega arith, omega (arith, less, end, power)))
    (before-server c.loop-place.self c.pull_part.new.self c.loop-place.caller c.pull_part.new.caller c.loop-place.place (seen_of c.pull_part.new.caller place) c.loop-place.invariant.seen c.in-Err.ensures.err c.pull_part.ensures.others)
    (subst (λ (o : JournalsView). IsPullFault o place fault.0 (seen_of c.pull_part.new.caller place) c.in-Err.fault) (sym c.in-Err.ensures.err) fault.1)

pub returns-in-Err-clause-pulls : goal.returns-in-Err-clause-pulls
returns-in-Err-clause-pulls g c =
    let less = c.loop-place-test.true in
    let end = c.servers-place-end.ensures.value in
    let power = ap (λ (l : ℕ). 2 ^ l) c.levels.ensures in
    no-server c.loop-place.place (2 ^ c.args.cluster.now.levels - 1) c.args.self.now c.loop-place.self c.pull_part.new.self c.args.caller.now c.loop-place.caller c.pull_part.new.caller c.in-Err.fault
    (omega (arith, less, end, power)) c.loop-place.invariant.pulled
    (is-not-pulled (parts.Server (c.loop-place.place + 1)) c.loop-place.self c.pull_part.new.self c.loop-place.caller c.pull_part.new.caller c.pull_part.ensures.saw c.pull_part.ensures.others c.in-Err.fault c.in-Err.ensures.err c.in-Err.ensures.fault)

pub returns-clause-pulls : goal.returns-clause-pulls
returns-clause-pulls g c =
    let within = c.loop-place.invariant.within in
    let past = c.loop-place-test.false in
    let end = c.servers-place-end.ensures.value in
    let power = ap (λ (l : ℕ). 2 ^ l) c.levels.ensures in
    let all : c.loop-place.place ≡ 2 ^ c.args.cluster.now.levels - 1 = omega (arith, within, past, end, power) in
    subst (λ (n : ℕ). ArePulled (servers_from 1 n) c.args.self.now c.loop-place.self c.args.caller.now c.loop-place.caller (Ok tt)) all c.loop-place.invariant.pulled
