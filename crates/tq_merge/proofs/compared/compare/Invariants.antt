use Rattle.std.{proofs.Common.{◌≡◌, take}, specs.List.All}
use Rattle.tq_merge.specs.Told.{Rise, Stands, names_of, all_names}
use Rattle.tq_merge.proofs.compared.compare.Given as goal

abbrev pub invariant-loop-told : goal.invariant-loop-told
invariant-loop-told l = record {
  names : l.all.items ≡ all_names (take l.told-index l.callers);
  stand : All (λ told. All (Stands l.journals) told) (take l.told-index l.callers);
  rise : All (λ told. Rise (names_of told)) (take l.told-index l.callers);
}
