use Rattle.std.proofs.Common.{[], ℕ, length, refl, sym, ap, subst, ◌∙◌, arith}
use Rattle.std.specs.{List.IsDistinct, Map.lookup, BTreeMap.is_at}
use Rattle.std_collections.proofs.HashLookup.{distinct_nil}
use Rattle.tq_store.proofs.ordered.Ordered.new.Goals as goal

pub invariant_of-result : goal.invariant_of-result
invariant_of-result g c = (
  ap length c.new-2.ensures.items ∙ sym (ap length c.new.ensures.items),
  subst (IsDistinct g.K.PartialEq.eq) (sym c.new.ensures.items) (distinct_nil {X = ℕ} g.K.PartialEq.eq g.met.K.Eq.laws [] refl),
  (omega arith, λ q. ap (λ es. lookup (is_at (g.K.Ord.cmp q)) es) c.new-3.ensures.empty),
)
