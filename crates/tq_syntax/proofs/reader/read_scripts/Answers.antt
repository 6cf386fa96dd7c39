use Rattle.std.proofs.Common.{ℕ, List, length, nat_lt, arith, subst}
use Rattle.tq_syntax.{specs.Scripts.{IsRead, lines_within}, proofs.ByteLaws.front_bytes}
use Rattle.tq_syntax.proofs.reader.read_scripts.Goals as goal

pub returns : goal.returns
returns c =
    let bytes = c.args.bytes.now in
    let front = front_bytes bytes c.min.result (omega (arith, c.min.ensures)) (λ less. omega (arith, c.min.ensures, less)) in
    let P : List ℕ → Type 0 = λ within. IsRead (lines_within (nat_lt 16777216 (length bytes)) within) c.read_within.result in
    subst P front c.read_within.ensures
