use Rattle.std.{proofs.Common.{◌≡◌, nat_eq}, specs.Cmp.Lexicographic.pointwise}
use Rattle.tq_coterie.specs.Coterie.{numbers_of}
use Rattle.tq_live.proofs.tree.is_of.Given as goal

-- what is left of the one is what is left of the other exactly where they are the same
abbrev pub invariant-loop-server : goal.invariant-loop-server
invariant-loop-server l = pointwise nat_eq (numbers_of l.left) (numbers_of l.server-iterator) ≡ pointwise nat_eq l.fn.quorum.servers l.fn.servers.numbers
