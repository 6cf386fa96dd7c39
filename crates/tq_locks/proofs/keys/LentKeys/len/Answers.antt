use Rattle.std.proofs.Common.{length, ap, sym, ◌∙◌}
use Rattle.tq_locks.proofs.Blocks.{length-turned}
use Rattle.tq_locks.proofs.keys.LentKeys.len.Goals as goal

pub returns : goal.returns
returns c =
    let k = c.self.inside in
    sym (length-turned k.starts.now k.places.now) ∙ ap length c.self.view_is
