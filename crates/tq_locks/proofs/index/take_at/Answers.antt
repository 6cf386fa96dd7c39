use Rattle.std.{proofs.Common.{cond, ap, sym, ◌∙◌}, specs.List.remove}
use Rattle.tq_locks.{specs.Keys.keys_under, proofs.Placed.{at_index, list_at_index, written}}
use Rattle.tq_locks.proofs.index.take_at.Goals as goal

pub returns-in-Some-clause-after : goal.returns-in-Some-clause-after
returns-in-Some-clause-after g c t =
    let eq = g.K.PartialEq.eq in
    let m = c.args.lists.now in
    let n = c.args.name.now in
    let v = c.in-Some.keys.now in
    let e = at_index eq m n c.args.index v c.requires.listed (sym c.in-Some.ensures.value) in
    written eq g.met.K.Eq.laws m n e.0 c.args.index c.get_index_mut.ensures.unique v c.leave.new.keys e.1 e.2 t
    ∙ ap (λ ks. cond (eq n t) ks (keys_under eq m t)) (c.leave.ensures.after ∙ ap (λ ks. remove ks c.leave.result) (sym e.3))

pub returns-in-None-clause-place : goal.returns-in-None-clause-place
returns-in-None-clause-place g c = absurd (list_at_index g.K.PartialEq.eq c.args.lists.now c.args.name.now c.args.index c.requires.listed (sym c.in-None.ensures.value))

pub returns-in-None-clause-after : goal.returns-in-None-clause-after
returns-in-None-clause-after g c = absurd (list_at_index g.K.PartialEq.eq c.args.lists.now c.args.name.now c.args.index c.requires.listed (sym c.in-None.ensures.value))
