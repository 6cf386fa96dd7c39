use Rattle.std.{proofs.Common.{◌≡◌, ap, sym, subst, ℕ}, specs.List.Sorted.IsPermutation}
use Rattle.smallvec.specs.SmallVec.{SmallVec}
use Rattle.tq_locks.{specs.Keys.starts_in, proofs.Blocks.any_order}
use Rattle.tq_locks.proofs.keys.Keys.as_slice.Goals as goal

pub returns : goal.returns
returns c =
    let k = c.self.inside in
    let keys : k.places.items ≡ c.as_slice.result.now = sym c.as_slice.ensures in
    subst (IsPermutation c.args.self.now.items) keys (subst (λ ks. IsPermutation ks k.places.items) (ap (λ (v : SmallVec ℕ). v.items) c.self.view_is) (any_order (starts_in k.starts) k.places.items))
