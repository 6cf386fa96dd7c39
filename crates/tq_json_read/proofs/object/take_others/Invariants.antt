use Rattle.std.proofs.Common.{◌≡◌, ◌≤◌, length}
use Rattle.serde_json.specs.{Data.Members, Find.get_member}
use Rattle.tq_json_read.specs.Slots.{slots_at, texts}
use Rattle.tq_json.specs.Next.{members_behind}
use Rattle.tq_json_read.proofs.object.take_others.Given as goal

-- the members that were found, and what was read of them
abbrev pub invariant-members : goal.invariant-members
invariant-members g l =
    ((old : Members) → l.fn.taken ≡ g.S.Slots.of l.plan (slots_at (texts l.names) (λ name. get_member name old))
    → (now : Members) × (members_behind old l.depth l.initial.reader ≡ members_behind now l.depth l.reader)
    × (l.slots ≡ g.S.Slots.of l.plan (slots_at (texts l.names) (λ name. get_member name now))))
    × (length l.reader ≤ length l.initial.reader)

abbrev pub decreases-members : goal.decreases-members
decreases-members g l = length l.reader
