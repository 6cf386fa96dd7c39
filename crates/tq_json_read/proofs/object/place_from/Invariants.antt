use Rattle.std.proofs.Common.{◌≡◌, ◌-◌, drop, length}
use Rattle.tq_json_read.specs.Slots.{texts, is_among}
use Rattle.tq_json_read.proofs.object.place_from.Given as goal

-- the name is not among those that were looked at
abbrev pub invariant-names : goal.invariant-names
invariant-names l = is_among l.name (drop l.place (texts l.names)) ≡ is_among l.name (drop l.first (texts l.names))

abbrev pub decreases-names : goal.decreases-names
decreases-names l = length l.names - l.place
