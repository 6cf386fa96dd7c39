use Rattle.std.{proofs.Common.{◌≡◌, ◌-◌, ◌≤◌, length, drop}, specs.Str.IsCharBoundary}
use Rattle.json.specs.Lex.{between, lex}
use Rattle.tq_json.proofs.lexeme.after_spaces_slowly.Given as goal

abbrev pub invariant-spaces : goal.invariant-spaces
invariant-spaces l =
    (lex between (drop l.place l.text) ≡ lex between l.text) × (l.place ≤ length l.text) × IsCharBoundary l.text l.place

abbrev pub decreases-spaces : goal.decreases-spaces
decreases-spaces l = length l.text - l.place
