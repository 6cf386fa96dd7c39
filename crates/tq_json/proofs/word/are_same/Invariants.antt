use Rattle.std.{proofs.Common.{◌≡◌, ◌≤◌, drop, length}, specs.Str.bytes_eq}
use Rattle.tq_json.proofs.word.are_same.Given as goal

-- the bytes from the place on are the same, or not
abbrev pub invariant-bytes : goal.invariant-bytes
invariant-bytes l = (l.same ≡ bytes_eq (drop l.place l.bytes) (drop l.place l.wanted)) × (l.place ≤ length l.wanted)

abbrev pub decreases-bytes : goal.decreases-bytes
decreases-bytes l = l.place
