use Rattle.std.proofs.Common.{Ok, ap}
use Rattle.tq_refresh.specs.Plan.{answer_in}
use Rattle.tq_interpreter.proofs.{Recording.{answer_stands, node_answered, node_refused}, ShellLines.later_by}
use Rattle.tq_interpreter.proofs.operators.answer_of.Goals as goal

pub returns-in-Ok : goal.returns-in-Ok
returns-in-Ok c =
    let is = node_answered c.args.server.number c.args.ask (Ok c.in-Ok.told) c.args.recorder.now c.put-result.new.self c.show_replayed.ensures c.show_replayed-2.ensures c.put-result.ensures.tree c.in-Ok.ensures.exchanges in
    let stands = answer_stands c.args.server.number c.args.ask c.in-Ok.told c.args.recorder.now c.put-result.new.self c.show_replayed-2.ensures c.in-Ok.ensures.exchanges in
    record { answer = ap answer_in is.0; stands = stands; after = is.1; later = later_by _ _ _ c.put-result.ensures.tree c.in-Ok.ensures.exchanges }

pub returns-in_ok-pass_over-in-Err : goal.returns-in_ok-pass_over-in-Err
returns-in_ok-pass_over-in-Err c =
    let is = node_refused c.args.server.number c.args.ask c.in-Err.fault c.args.recorder.now c.put-result.new.self c.in_ok-pass_over-in-Err.ensures c.show_replayed.ensures c.show_replayed-2.ensures c.put-result.ensures.tree c.in-Err.ensures.exchanges in
    record { answer = is.0; stands = tt; after = is.1; later = later_by _ _ _ c.put-result.ensures.tree c.in-Err.ensures.exchanges }
