use Rattle.std.{proofs.Common.{◌≡◌, List, ℕ, cond, ap, subst, ◌∙◌}, specs.List.remove}
use Rattle.tq_store.specs.Names.{same_name}
use Rattle.tq_locks.specs.{declared.mode.Lock.Lock, Locks.LockKey, Keys.keys_under, Kept.RisesTo}
use Rattle.tq_locks.proofs.Found.{some_same}
use Rattle.tq_locks.proofs.keyed.KeyedLocks.leave_file.Goals as goal

pub returns-clause-left : goal.returns-clause-left
returns-clause-left c name is =
    let old = c.args.self.now in
    let same : c.in-Some.entry.now ≡ (name, is.0) = some_same c.in-Some.entry.now (name, is.0) (c.in-Some.ensures ∙ is.1) in
    let file : c.entry.inside.file ≡ name.0 = ap (λ (x : LockKey × Lock). x.0.0) (c.entry.view_is ∙ same) in
    record {
      place = c.take_near.result;
      stood = subst (λ (p : List ℕ × LockKey). RisesTo old.entries (keys_under same_name old.by_file p.0) p.1 c.take_near.result) (λ i. (file i, (same i).0)) c.take_near.ensures.place;
      files = subst (λ name. (f : List ℕ) → keys_under same_name c.take_near.new.lists f ≡ cond (same_name name f) (remove (keys_under same_name old.by_file name) c.take_near.result) (keys_under same_name old.by_file f)) file c.take_near.ensures.after;
    }
