use Rattle.std.proofs.Common.{sym, ◌∙◌}
use Rattle.tq_locks.proofs.Placed.{listed_here, OnTrue-to}
use Rattle.tq_locks.proofs.index.is_at.Goals as goal

pub returns-in-Some : goal.returns-in-Some
returns-in-Some g c =
    let list = c.in-Some.list in
    OnTrue-to _ c.eq.result (λ same. listed_here g.K.PartialEq.eq g.met.K.Eq.laws c.args.lists.now c.args.name.now list.0.now c.args.index list.1.now (sym c.in-Some.ensures.entry) c.in-Some.ensures.value (sym c.eq.ensures ∙ same))
