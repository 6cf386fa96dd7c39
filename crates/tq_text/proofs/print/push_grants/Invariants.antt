use Rattle.std.proofs.Common.{◌≡◌, ◌++◌, drop, map}
use Rattle.tq_text.specs.Print.{Extends, numbers_text}
use Rattle.tq_text.proofs.print.push_grants.Given as goal

-- the text so far and the numbers that are left are the whole text
abbrev pub invariant-loop-grant : goal.invariant-loop-grant
invariant-loop-grant l = (l.text.items ++ numbers_text (map (λ grant. grant.server) (drop l.grant-index l.grants)) ≡ l.initial.text.items ++ numbers_text (map (λ grant. grant.server) l.grants)) × Extends l.initial.text.items l.text.items
