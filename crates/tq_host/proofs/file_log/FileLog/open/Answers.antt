use Rattle.std.proofs.Common.{◌≡◌, length, take, rules}
use Rattle.tq_host.proofs.LineLaws.{front-is}
use Rattle.tq_host.proofs.file_log.FileLog.open.Goals as goal

pub returns-clause-whole : goal.returns-clause-whole
returns-clause-whole g c =
    let text = c.as_slice.result.now in
    let lines = c.whole_lines-count.result.now in
    let front : take (length lines) text ≡ lines = front-is text lines c.whole_lines-count.ensures.begins in
    search rules
