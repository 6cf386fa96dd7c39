use Rattle.std.proofs.Common.{rules}
use Rattle.tq_refresh.proofs.job.peek_ask.Goals as goal

pub returns : goal.returns
returns c = search rules
