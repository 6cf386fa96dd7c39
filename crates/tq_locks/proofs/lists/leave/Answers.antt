use Rattle.tq_locks.proofs.{Found.{locks_total, locks_same}, Partition.stands-in_place}
use Rattle.slab.specs.Slab.{get}
use Rattle.tq_locks.proofs.lists.leave.Goals as goal

pub returns-in-Some-clause-place : goal.returns-in-Some-clause-place
returns-in-Some-clause-place c entries listed sorted =
    stands-in_place locks_total (get c.args.entries.now) c.args.entry.now.0 locks_same c.args.entry.now.1 c.args.keys.now.items entries c.in-Some.place c.args.key c.in-Some.ensures.stood c.requires listed sorted
