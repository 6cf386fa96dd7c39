use Rattle.std.proofs.Common.{◌-◌, ◌^◌, arith, ap, sym}
use Rattle.tq_coterie.proofs.Marked.{raised-leaves, raised-more, raised-over, neither-root}
use Rattle.tq_coterie.proofs.marks.part_under_root.Goals as goal

pub loop-server-init : goal.loop-server-init
loop-server-init c =
    raised-leaves c.args.root.levels c.args.servers.now c.of-members.result.words c.servers-greatest.result
    (omega (arith, c.servers-greatest.ensures.value, ap (λ n. 2 ^ n) c.levels.ensures))
    c.of-members.ensures

pub loop-server-preserved : goal.loop-server-preserved
loop-server-preserved c =
    raised-over (c.loop-server.server - 1 - c.next_below-server.result) c.args.root.levels c.args.servers.now c.raise.new.self.words (c.loop-server.server - 1) c.next_below-server.result
    (omega (arith, c.next_below-server.ensures.below))
    (λ other above within. c.next_below-server.ensures.bare other above (omega (arith, c.loop-server-test.true)))
    (raised-more c.args.root.levels c.args.servers.now c.loop-server.members.words c.loop-server.server c.raise.new.self.words
    (omega (arith, c.loop-server-test.true)) c.loop-server.invariant c.if-not-raise.ensures.raised)

pub returns-then-not-raise : goal.returns-then-not-raise
returns-then-not-raise c =
    rw c.requires.root
    (sym (neither-root c.args.root.levels c.args.servers.now c.loop-server.members.words c.loop-server.server (omega (arith, c.loop-server-test.true)) c.loop-server.invariant c.if-not-raise.ensures.neither))
