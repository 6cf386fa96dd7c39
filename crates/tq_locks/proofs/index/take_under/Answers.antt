use Rattle.std.{proofs.Common.{[], ap, sym}, specs.Option.option_map_or}
use Rattle.tq_locks.proofs.Partition.{none_rises}
use Rattle.tq_locks.proofs.index.take_under.Goals as goal

pub returns-in-None-clause-place : goal.returns-in-None-clause-place
returns-in-None-clause-place g c = none_rises c.args.entries.now _ c.args.entry.now.0 (sym (ap (λ o. option_map_or (λ keys. keys.items) o []) c.in-None.ensures.value))
