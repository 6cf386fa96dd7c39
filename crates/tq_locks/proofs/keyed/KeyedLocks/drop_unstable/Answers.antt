use Rattle.std.proofs.Common.{IfNone, refl, sym, subst, ◌∙◌}
use Rattle.tq_locks.specs.{Locks.{only_stable, AreStable}, Kept.{locks_in, Agrees}}
use Rattle.tq_locks.proofs.{Applied.Agrees-same, Changed.{only_stable-all, key_of_lock}}
use Rattle.tq_locks.proofs.keyed.KeyedLocks.drop_unstable.Goals as goal

pub returns : goal.returns
returns c =
    let left = c.loop-key.self in
    let i = c.loop-key.invariant in
    let stable : AreStable left.entries = subst (λ r. IfNone r (AreStable left.entries)) c.in_default.is c.next_loose.ensures.none in
    let all = only_stable-all (locks_in left) (λ q l f.
    let at = key_of_lock left (locks_in left) i.0 q l f in
    stable at.0 (q, l) at.2) in
    Agrees-same left _ (only_stable (locks_in c.args.self.now)) (subst (Agrees left) (sym all ∙ i.1) i.0) c.next_loose.ensures.same (λ f. refl) (λ t. refl)
