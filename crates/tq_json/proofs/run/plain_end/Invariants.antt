use Rattle.std.{proofs.Common.{◌≡◌, ◌+◌, ◌-◌, ◌≤◌, length, drop}, specs.List.prefix_len}
use Rattle.json.specs.Run.{is_plain}
use Rattle.tq_json.proofs.run.plain_end.Given as goal

abbrev pub invariant-sixteens : goal.invariant-sixteens
invariant-sixteens l =
    (l.from + prefix_len is_plain (drop l.from l.text) ≡ l.place + prefix_len is_plain (drop l.place l.text)) × (l.place ≤ length l.text)

abbrev pub decreases-sixteens : goal.decreases-sixteens
decreases-sixteens l = length l.text - l.place
