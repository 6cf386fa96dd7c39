use Rattle.std.proofs.Common.{rules}
use Rattle.tq_tables.proofs.parts.Parts.copy.Goals as goal

pub returns : goal.returns
returns c = search rules
