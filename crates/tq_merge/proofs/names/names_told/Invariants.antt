use Rattle.std.{proofs.Common.{◌≡◌, take}, specs.List.All}
use Rattle.tq_merge.specs.Told.{Stands, names_of}
use Rattle.tq_merge.proofs.names.names_told.Given as goal

abbrev pub invariant-loop-exchange : goal.invariant-loop-exchange
invariant-loop-exchange l = record {
  names : l.names.items ≡ names_of (take l.exchange-index l.told);
  stand : All (Stands l.journals) (take l.exchange-index l.told);
}
