use Rattle.std.proofs.Common.{◌≡◌, ◌≤◌, List, length, Some}
use Rattle.json.specs.Json.{parse_map}
use Rattle.serde_json.specs.Data.{Data}
use Rattle.tq_json.specs.Next.{next_items}
use Rattle.tq_json_read.{specs.Slots.within_cap, proofs.Rows.{before, Goes}}
use Rattle.tq_json_read.proofs.parts.take_items.Given as goal

-- the values that were taken, and what was read of them
abbrev pub invariant-items : goal.invariant-items
invariant-items g l =
    (front : List Data) × (next_items l.depth l.initial.reader ≡ parse_map (before front) (next_items l.depth l.reader))
    × Goes (λ value. g.T.FromReader.at l.plan (Some value)) front l.found.items × (within_cap l.most (Some l.found.items) ≡ Some l.found.items)
    × (length l.reader ≤ length l.initial.reader)

abbrev pub decreases-items : goal.decreases-items
decreases-items g l = length l.reader
