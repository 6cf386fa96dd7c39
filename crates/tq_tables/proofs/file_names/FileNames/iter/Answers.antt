use Rattle.std.proofs.Common.{ap, sym, ◌∙◌}
use Rattle.std.specs.{Cmp.Lexicographic.nat_list_cmp_total, FinMap.{nat_cmp-IsAntisymmetric, slice_cmp-IsAntisymmetric}}
use Rattle.std.specs.FinMap as fin
use Rattle.tq_locks.proofs.Found.{entries-from_ordered}
use Rattle.tq_tables.proofs.file_names.FileNames.iter.Goals as goal

pub returns : goal.returns
returns c =
    c.iter.ensures.rest
    ∙ sym (entries-from_ordered nat_list_cmp_total (slice_cmp-IsAntisymmetric nat_cmp-IsAntisymmetric) c.self.inside.names.entries c.iter.ensures.ordered)
    ∙ ap fin.entries c.self.view_is
