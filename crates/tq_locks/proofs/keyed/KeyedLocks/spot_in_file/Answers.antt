use Rattle.std.proofs.Common.{map, ap, ◌∙◌}
use Rattle.slab.specs.Slab.{get}
use Rattle.tq_locks.specs.Keys.{keys_in}
use Rattle.tq_locks.proofs.keyed.KeyedLocks.spot_in_file.Goals as goal

pub returns-in-None-clause-place : goal.returns-in-None-clause-place
returns-in-None-clause-place c entries listed sorted = c.place.ensures.place entries (ap (λ list. map (get c.args.self.now.entries) (keys_in list)) c.list_under-list.ensures.list ∙ listed) sorted
