use Rattle.std.proofs.Common.{rules, ◌≡◌, ◌==◌, ◌+◌, ℕ, List, Option, Some, Ok, Err, true, drop, sym, ◌∙◌, subst}
use Rattle.std.{proofs.lemmas.{Bool.and_parts, List.drop_all}, specs.{List.list_all, Prelude.Result}}
use Rattle.tq_coterie.specs.Coterie.{numbers_of}
use Rattle.tq_shape.specs.Tree.{Server}
use Rattle.tq_txn.specs.{Dialogue.{Follows, LineEnd, ended_by}, Lines.{end_line, ending_line}}
use Rattle.tq_txn.specs.declared.fault.LineFault.{LineFault}
use Rattle.tq_txn.proofs.{KnownLaws.{end_grown, grown_along}, LineLaws.{ending_off, ending_on, follows_end, left_from}}
use Rattle.tq_txn.proofs.endings.end_by.Goals as goal

pub loop-server-preserved : goal.loop-server-preserved
loop-server-preserved g c =
    let held = c.loop-server.invariant in
    let all = drop c.loop-server.server-index c.args.servers.now in
    let rest = drop (c.loop-server.server-index + 1) c.args.servers.now in
    let is = left_from c.args.servers.now c.loop-server.server-index c.server-item.result c.loop-server-test.true c.server-item.is in
    let Q : List Server → Type 0 = λ ids. list_all (λ id. id.levels == g.A.Asker.levels c.loop-server.asker) ids ≡ true in
    let R : ℕ → Type 0 = λ levels. list_all (λ id. id.levels == levels) rest ≡ true in
    let parts = and_parts (c.server-item.result.levels == g.A.Asker.levels c.loop-server.asker) (list_all (λ (id : Server). id.levels == g.A.Asker.levels c.loop-server.asker) rest) (subst Q is held.of_tree) in
    let told = g.A.Asker.told c.loop-server.asker in
    let new = g.A.Asker.told c.end_at.new.asker in
    record {
      tree = c.end_at.ensures.tree ∙ held.tree;
      told = end_grown told new (grown_along (end_line c.args.ended.now c.server-item.result.number) told new (Some (record { answer = Ok tt; after = tt })) c.in_ok-end_at.ensures.asks) c.args.ended.now held.told;
      release = c.end_at.ensures.release;
      of_tree = subst R (sym c.end_at.ensures.tree) parts.1;
      asks = λ after end more. held.asks after end (ending_on c.args.ended.now all rest c.server-item.result is told new after end c.in_ok-end_at.ensures.asks more);
    }

pub returns-clause-asks : goal.returns-clause-asks
returns-clause-asks g c =
    let told = g.A.Asker.told c.loop-server.asker in
    let end : Option (LineEnd (Unit {0}) (Unit {0})) = Some (record { answer = Ok tt; after = tt }) in
    let P : List Server → Type 0 = λ ids. Follows (ending_line c.args.ended.now (numbers_of ids)) told told end in
    c.loop-server.invariant.asks told end (subst P (sym (drop_all c.loop-server.server-index c.args.servers.now c.loop-server-test.false)) (follows_end _ told))

pub returns-in_err-end_at-clause-asks : goal.returns-in_err-end_at-clause-asks
returns-in_err-end_at-clause-asks g c =
    let all = drop c.loop-server.server-index c.args.servers.now in
    let rest = drop (c.loop-server.server-index + 1) c.args.servers.now in
    let is = left_from c.args.servers.now c.loop-server.server-index c.server-item.result c.loop-server-test.true c.server-item.is in
    let told = g.A.Asker.told c.end_at.new.asker in
    let fault : Err c.in_err-end_at.field-0.0 ≡ c.from_residual.result = Prim.search (c.from_residual.ensures, rules) in
    let P : Result (Unit {0}) LineFault → Type 0 = λ result. Follows (ending_line c.args.ended.now (numbers_of c.args.servers.now)) (g.A.Asker.told c.args.asker.now) told (ended_by result tt) in
    subst P fault (c.loop-server.invariant.asks told (ended_by {A = Unit {0}} (Err c.in_err-end_at.field-0.0) tt)
    (ending_off c.args.ended.now all rest c.server-item.result is c.in_err-end_at.field-0.0 (g.A.Asker.told c.loop-server.asker) told c.in_err-end_at.ensures.asks))
