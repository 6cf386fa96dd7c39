use Rattle.std.proofs.Common.{length, ap, sym, ◌∙◌, ℕ}
use Rattle.smallvec.specs.SmallVec.{SmallVec}
use Rattle.tq_locks.{specs.Keys.starts_in, proofs.Blocks.length-turned}
use Rattle.tq_locks.proofs.keys.Keys.len.Goals as goal

pub returns : goal.returns
returns c =
    let k = c.self.inside in
    c.len.ensures.value ∙ sym (length-turned (starts_in k.starts) k.places.items) ∙ ap (λ (v : SmallVec ℕ). length v.items) c.self.view_is
