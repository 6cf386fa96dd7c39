use Rattle.std.proofs.Common.{ap, ◌∙◌}
use Rattle.std.specs.{Cmp.Lexicographic.nat_list_cmp_total, FinMap.{nat_cmp-IsAntisymmetric, slice_cmp-IsAntisymmetric}}
use Rattle.std.specs.FinMap as fin
use Rattle.tq_locks.proofs.Found.{one_changed}
use Rattle.tq_tables.proofs.file_names.FileNames.add.Goals as goal

pub returns : goal.returns
returns c =
    one_changed nat_list_cmp_total (slice_cmp-IsAntisymmetric nat_cmp-IsAntisymmetric) c.self.inside.names.entries c.insert.new.self.entries c.args.name tt (λ q. c.in_ok-insert.ensures.updates.0 q)
    ∙ ap (λ m. fin.insert m c.args.name tt) c.self.view_is
