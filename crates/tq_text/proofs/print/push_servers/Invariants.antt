use Rattle.std.proofs.Common.{◌≡◌, ◌++◌, drop}
use Rattle.tq_coterie.specs.Coterie.{numbers_of}
use Rattle.tq_text.specs.Print.{Extends, numbers_text}
use Rattle.tq_text.proofs.print.push_servers.Given as goal

-- the text so far and the numbers that are left are the whole text
abbrev pub invariant-loop-server : goal.invariant-loop-server
invariant-loop-server l = (l.text.items ++ numbers_text (numbers_of (drop l.server-index l.servers)) ≡ l.initial.text.items ++ numbers_text (numbers_of l.servers)) × Extends l.initial.text.items l.text.items
