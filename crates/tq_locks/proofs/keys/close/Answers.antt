use Rattle.std.{proofs.Common.{slice_set, slice_index_or, length, ◌-◌, ap, ◌∙◌, refl}, specs.List.insert}
use Rattle.tq_locks.proofs.Rings.{closed}
use Rattle.tq_locks.proofs.keys.close.Goals as goal

pub returns : goal.returns
returns c =
    let keys = c.args.keys.now in
    let end = length keys - 1 in
    ap (λ ks. insert (slice_set ks end c.args.key) c.args.place (slice_index_or keys c.args.place 0)) c.copy_within.ensures.after
    ∙ closed keys c.args.place end c.args.key c.requires refl
