use Rattle.std.proofs.Common.{rules}
use Rattle.tq_core.proofs.founded.is_granted.Goals as goal

pub returns-then-version-grant : goal.returns-then-version-grant
returns-then-version-grant c = search rules
