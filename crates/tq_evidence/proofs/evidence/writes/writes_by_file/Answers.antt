use Rattle.std.proofs.{Common.{◌≡◌, ◌∙◌, ap, [], Bor, fold, rules}, lemmas.Fn.always_returns_same}
use Rattle.tq_evidence.{specs.{declared.op.Op.Op, Evidence.put_op}, proofs.StableSort.sorted-put}
use Rattle.tq_evidence.proofs.evidence.writes.writes_by_file.Goals as goal

pub returns : goal.returns
returns c =
    let key = λ (op : Bor Op). op.now.file in
    sorted-put (λ (op : Bor Op). op.now) c.in_ok-writes.writes.items c.sort_by_key.new.self.items
    (c.in_ok-sort_by_key.ensures.sorted key (always_returns_same _ (λ a r. r ≡ key a.0.now) _ (λ a r q k. search rules)))
    (c.in_ok-sort_by_key.ensures.stable key (always_returns_same _ (λ a r. r ≡ key a.0.now) _ (λ a r q k. search rules)))
    ∙ ap (fold put_op []) c.in_ok-writes.ensures
