use Rattle.std.proofs.Common.{◌++◌, ◌∷◌, [], slice_set, slice_index_or, length, ◌-◌, ap, ◌∙◌, refl}
use Rattle.tq_locks.proofs.Rings.{opened}
use Rattle.tq_locks.proofs.keys.open.Goals as goal

pub returns : goal.returns
returns c =
    let keys = c.args.keys.now in
    let end = length keys - 1 in
    ap (λ ks. slice_set ks c.args.place c.args.key ++ slice_index_or keys end 0 ∷ []) c.copy_within.ensures.after
    ∙ opened keys c.args.place end c.args.key c.requires refl
