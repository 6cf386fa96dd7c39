use Rattle.std.proofs.Common.{ap, ◌∙◌}
use Rattle.tq_tables.{specs.Files.FilesView, proofs.Restood.empty-is}
use Rattle.tq_tables.proofs.tables.Tables.new.Goals as goal

pub returns : goal.returns
returns c =
    empty-is c.args.levels c.args.limits _ _ (c.in_ok-parts-2.ensures.ok ∙ c.in_ok-parts.ensures) (ap (λ (f : FilesView). f.rows) c.in_ok-files.ensures.ok ∙ c.new-4.ensures.rows)
