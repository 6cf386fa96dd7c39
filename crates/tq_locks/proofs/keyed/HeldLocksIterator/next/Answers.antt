use Rattle.std.{proofs.Common.{◌+◌, drop, rules, ap, sym, ◌∙◌}, specs.List.cons_option}
use Rattle.slab.specs.Slab.{get}
use Rattle.tq_locks.{specs.Keys.entries_of, proofs.Listed.told-at}
use Rattle.tq_locks.proofs.keyed.HeldLocksIterator.next.Goals as goal

pub returns-in-Some-clause-steps : goal.returns-in-Some-clause-steps
returns-in-Some-clause-steps c =
    let entries = c.loop-self.self-inside.entries.now in
    let at = c.loop-self.self-inside.at in
    let keys = c.loop-self.self-inside.keys in
    sym c.loop-self.invariant
    ∙ told-at (get entries) keys at c.in_ok-key.key (sym c.in_ok-key.ensures)
    ∙ ap (λ o. cons_option o (entries_of entries (drop (at + 1) keys))) (sym c.in-Some.ensures)

pub returns-in-Some-clause-goes : goal.returns-in-Some-clause-goes
returns-in-Some-clause-goes c = rw (returns-in-Some-clause-steps c) (search rules)

pub loop-self-preserved : goal.loop-self-preserved
loop-self-preserved c =
    let entries = c.loop-self.self-inside.entries.now in
    let at = c.loop-self.self-inside.at in
    let keys = c.loop-self.self-inside.keys in
    sym (told-at (get entries) keys at c.in_ok-key.key (sym c.in_ok-key.ensures) ∙ ap (λ o. cons_option o (entries_of entries (drop (at + 1) keys))) (sym c.in_default.ensures)) ∙ c.loop-self.invariant
