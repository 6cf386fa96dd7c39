use Rattle.std.proofs.Common.{◌≡◌, ◌==◌, List, [], ◌∷◌, length, refl, sym, ap, ◌∙◌, rules, arith}
use Rattle.std.proofs.lemmas.Bool.Decides.{nat_tests}
use Rattle.tq_store.specs.declared.write.Write.{Write}
use Rattle.tq_locks.specs.{declared.mode.Lock.Lock, Locks.LockKey}
use Rattle.tq_node.specs.Telling.{all_held}
use Rattle.tq_node.proofs.votes.all_held.Goals as goal

at_end : (left : List Write) → (length left == 0) ≡ all_held [] left
at_end [] = refl
at_end (write ∷ left) = grind (arith, nat_tests)

pub returns : goal.returns
returns c =
    let left = c.loop-entry.left.now in
    let e : c.loop-entry.entry-iterator ≡ [] = search rules in
    c.is_empty.ensures ∙ at_end left ∙ ap (λ (walk : List (LockKey × Lock)). all_held walk left) (sym e) ∙ c.loop-entry.invariant
