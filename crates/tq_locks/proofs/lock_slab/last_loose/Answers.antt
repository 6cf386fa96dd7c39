use Rattle.std.proofs.Common.{◌≡◌, ◌-◌, ◌++◌, [], take, inl, inr, Bool, true, false, ap, refl, sym, subst, ◌∙◌}
use mathlib.Core.Bool.{true≢false}
use Rattle.slab.specs.Slab.{get}
use Rattle.tq_shape.specs.Journal.{Has}
use Rattle.tq_locks.proofs.Listed.{before_last}
use Rattle.tq_locks.proofs.lock_slab.last_loose.Goals as goal

pub loop-key-preserved : goal.loop-key-preserved
loop-key-preserved c key loose =
    let slab = c.args.slab.now in
    elim (before_last c.pop.new.self.items c.in-Some.key key (subst (λ ks. Has ks key) c.in-Some.ensures.items (c.loop-key.invariant key loose))) [
      | inl h ↦ h
      | inr same ↦ absurd (true≢false (sym (c.if-is_loose.ensures.stable loose.0 (ap (get slab) same ∙ loose.1)) ∙ loose.2))
    ]

pub returns-clause-none : goal.returns-clause-none
returns-clause-none c key entry at = by_test entry.1.stable refl
  where
    none : c.loop-key.loose.items ≡ []
    none = c.in_default.ensures.items ∙ ap (λ ks. ks ++ []) (c.in_default.ensures.rest ∙ ap (λ n. take (n - 1) c.loop-key.loose.items) c.in_default.ensures.cases.0)

    by_test : (b : Bool) → entry.1.stable ≡ b → b ≡ true
    by_test true e = refl
    by_test false e = absurd (subst (λ ks. Has ks key) none (c.loop-key.invariant key (entry, at, e)))
