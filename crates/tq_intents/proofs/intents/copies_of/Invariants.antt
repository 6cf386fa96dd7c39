use Rattle.std.proofs.Common.{◌≡◌, take}
use Rattle.tq_intents.specs.Kept.{kept_copies}
use Rattle.tq_intents.proofs.intents.copies_of.Given as goal

abbrev pub invariant-loop-written : goal.invariant-loop-written
invariant-loop-written l = l.copies.files ≡ kept_copies (take l.written-index l.records)
