use Rattle.std.proofs.Common.{◌≡◌, ◌≤◌, ◌+◌, ◌++◌, length, map, take, vec_capacity, vec_len}
use Rattle.tq_intents.specs.declared.record.Record.TheVariants.{Intent, Keep}
use Rattle.tq_intents.proofs.intents.push_vote.Given as goal

abbrev pub invariant-loop-place : goal.invariant-loop-place
invariant-loop-place l =
    (l.records.items ≡ l.initial.records.items ++ map (Intent l.txn l.number) (take l.place l.writes))
    × (vec_len l.records + length l.writes + length l.locks + 1 ≤ vec_capacity l.records + l.place)

abbrev pub invariant-loop-place-2 : goal.invariant-loop-place-2
invariant-loop-place-2 l =
    (l.records.items ≡ l.initial.records.items ++ map (Keep l.txn l.number) (take l.place l.locks))
    × (vec_len l.records + length l.locks + 1 ≤ vec_capacity l.records + l.place)
