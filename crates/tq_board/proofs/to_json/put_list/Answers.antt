use Rattle.std.proofs.{Common.{◌≡◌, [], drop}, lemmas.List.drop_all}
use Rattle.tq_board.proofs.Gathered.{added}
use Rattle.tq_board.proofs.to_json.put_list.Goals as goal

pub returns-clause-adds : goal.returns-clause-adds
returns-clause-adds g c =
    let none : drop c.loop-item.item-index c.args.items.now ≡ [] = drop_all c.loop-item.item-index c.args.items.now c.loop-item-test.false in
    added c.in_ok-push.ensures (c.loop-item.invariant.put c.push-2.new.self (rw none c.in_ok-push-2.ensures))
