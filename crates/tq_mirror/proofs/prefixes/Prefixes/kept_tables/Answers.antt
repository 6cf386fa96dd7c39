use Rattle.std.proofs.Common.{subst}
use Rattle.tq_tables.specs.Journals.{JournalsView}
use Rattle.tq_mirror.specs.Prefixes.{AreKept}
use Rattle.tq_mirror.proofs.prefixes.Prefixes.kept_tables.Goals as goal

pub returns : goal.returns
returns c = subst (λ (w : JournalsView). AreKept c.self.inside.tabled.tables w) c.self.view_is c.self.invariant.0
