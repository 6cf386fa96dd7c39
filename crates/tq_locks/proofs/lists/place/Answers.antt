use Rattle.std.{proofs.Common.ap, specs.Option.option_copied}
use Rattle.tq_locks.{specs.Keys.keys_in, proofs.Partition.none_rises}
use Rattle.tq_locks.proofs.lists.place.Goals as goal

pub returns-in_default-clause-place : goal.returns-in_default-clause-place
returns-in_default-clause-place c = none_rises c.args.entries.now _ (c.args.file.now, c.args.txn) (ap (λ list. keys_in (option_copied list)) c.in_default.is)
