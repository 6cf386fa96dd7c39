use Rattle.std.proofs.Common.{◌≡◌, ◌<◌, true, List, [], ◌∷◌, length, refl, arith}
use Rattle.tq_evidence.specs.{declared.op.Op.Op, Evidence.ops_rise}
use Rattle.tq_evidence.proofs.evidence.versions.+ops_rise.Goals as goal

one : (ops : List Op) → length ops < 2 → true ≡ ops_rise ops
one [] h = refl
one (x ∷ []) h = refl
one (x ∷ y ∷ rest) h = absurd (omega arith)

pub returns-in-len1 : goal.returns-in-len1
returns-in-len1 t c = one c.args.ops.now c.in-len1.len_below
