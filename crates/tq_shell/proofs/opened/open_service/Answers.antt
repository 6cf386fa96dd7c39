use Rattle.std.proofs.Common.{rules}
use Rattle.tq_shell.proofs.ReportLaws.{unread}
use Rattle.tq_shell.proofs.opened.open_service.Goals as goal

pub returns-in_default : goal.returns-in_default
returns-in_default c = (
  unread c.args.bytes.items c.as_slice.result.now c.in_ok-found.found c.in_ok-found.ensures c.as_slice.ensures.value c.in_default.not-Some,
  search rules,
)
