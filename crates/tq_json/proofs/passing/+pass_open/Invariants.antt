use Rattle.std.proofs.Common.{◌≤◌, length}
use Rattle.tq_json.{specs.Next.tokens_behind, proofs.Nexts.AreOpen}
use Rattle.tq_json.proofs.passing.+pass_open.Given as goal

abbrev pub decreases-pass_open : goal.decreases-pass_open
decreases-pass_open l = l.depth

abbrev pub invariant-tokens : goal.invariant-tokens
invariant-tokens l =
    AreOpen (tokens_behind l.fn.kind l.depth l.initial.reader) l.depth l.kinds l.inside l.reader
    × (l.inside ≤ 127) × (length l.reader ≤ length l.initial.reader)

abbrev pub decreases-tokens : goal.decreases-tokens
decreases-tokens l = length l.reader
