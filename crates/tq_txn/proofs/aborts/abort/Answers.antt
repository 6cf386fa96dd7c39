use Rattle.std.proofs.Common.{◌∙◌, refl, ap, rules}
use Rattle.tq_desk.specs.declared.ask.DeskAsk.TheVariants.{Resolve}
use Rattle.tq_txn.specs.{Commits.{abort_end, txn_after_resolve}, Dialogue.ended_by, Told.number_of}
use Rattle.tq_txn.proofs.{EndLaws.{abort_on, abort_off}, Deskless.{deskless_untold, deskless_abort_end}}
use Rattle.tq_txn.proofs.CommitLaws.{ending_answered, ending_refused, levels_still, untold_none}
use Rattle.tq_txn.proofs.aborts.abort.Goals as goal

pub resolve_and_end-requires-clause-asked : goal.resolve_and_end-requires-clause-asked
resolve_and_end-requires-clause-asked g c = c.in-Ok.ensures.same ∙ ap Resolve c.number-number.ensures

pub resolve_and_end-requires-clause-knows : goal.resolve_and_end-requires-clause-knows
resolve_and_end-requires-clause-knows g c =
    let old = c.args.txn in
    let now = g.A.Asker.told c.args.asker.now in
    let new = g.A.Asker.told c.desk.new.self in
    let told = c.in-Ok.told in
    (ending_answered old (txn_after_resolve old told) (Resolve c.number-number.result) told now new new c.in-Ok.ensures.same c.in-Ok.ensures.exchanges refl (untold_none old new)).knows c.requires.knows

pub returns-in-Err : goal.returns-in-Err
returns-in-Err g c =
    let old = c.args.txn in
    let number = c.number-number.result in
    let now = g.A.Asker.told c.args.asker.now in
    let new = g.A.Asker.told c.desk.new.self in
    let fault = c.in-Err.fault in
    let exchanges = c.in-Err.ensures.exchanges in
    record {
      asks = abort_off old number c.number-number.ensures now new fault c.from.result c.from.ensures exchanges;
      levels = search rules;
      ending = ending_refused old old (Resolve number) fault now new refl exchanges;
      tree = search rules;
    }

pub returns-in-Ok : goal.returns-in-Ok
returns-in-Ok g c =
    let old = c.args.txn in
    let number = c.number-number.result in
    let now = g.A.Asker.told c.args.asker.now in
    let asked = g.A.Asker.told c.desk.new.self in
    let new = g.A.Asker.told c.resolve_and_end.new.asker in
    let told = c.in-Ok.told in
    let desk = c.in-Ok.ensures in
    let after = c.resolve_and_end.result.txn in
    let end = ended_by c.resolve_and_end.result.answer after in
    let line = abort_end told.reply (txn_after_resolve old told) in
    let is = c.resolve_and_end.ensures in
    let untold = deskless_untold (number_of old) line asked new end (deskless_abort_end told.reply (txn_after_resolve old told)) is.asks in
    let ending = ending_answered old after (Resolve number) told now asked new desk.same desk.exchanges is.value untold in
    record {
      asks = abort_on old number c.number-number.ensures now new asked told end desk.exchanges desk.same is.asks;
      levels = levels_still old after ending.still;
      ending = ending;
      tree = search rules;
    }
