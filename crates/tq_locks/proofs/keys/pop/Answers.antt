use Rattle.std.proofs.Common.{◌≡◌, ◌-◌, ◌*◌, ◌≤◌, ◌<◌, length, ap, sym, ◌∙◌, arith, option_to_list, Some, None, ℕ, List, Option, zero, suc, refl, IsSome, IfNone, [], ◌∷◌}
use Rattle.std.proofs.lemmas.List.{length-take}
use mathlib.Core.Bool.{false≢true}
use Rattle.tq_locks.{specs.Keys.turned_keys, proofs.Blocks.{behind_blocks, length-turned}}
use Rattle.tq_locks.proofs.keys.pop.Goals as goal

-- one key less is still behind the blocks
behind : (low len rest : ℕ) → low ≤ len → (0 < len → low < len) → rest ≡ len - 1 → low ≤ rest
behind low zero rest within some is = omega (arith, within)
behind low (suc len) rest within some is = omega (arith, some (omega arith), is)

-- there was none
emptied : (last : Option ℕ) (keys : List ℕ) → (0 < length keys → IsSome last) → IfNone last (keys ≡ [])
emptied (Some key) keys some = tt
emptied None [] some = refl
emptied None (key ∷ keys) some = absurd (false≢true (some (omega arith)))

pub returns-clause-none : goal.returns-clause-none
returns-clause-none c =
    let starts = c.args.starts.now.items in
    let places = c.args.places.now.items in
    emptied c.pop.result (turned_keys starts places) (λ some. c.pop.ensures.variant.1 (omega (arith, some, length-turned starts places, c.settle.ensures.len)))

pub returns-clause-last : goal.returns-clause-last
returns-clause-last c =
    let starts = c.settle.new.starts.items in
    let places = c.settle.new.places.items in
    let rest = c.pop.new.self.items in
    let one_less : length rest ≡ length places - 1 = ap length c.pop.ensures.rest ∙ omega (arith, length-take (length places - 1) places) in
    sym c.settle.ensures.same
    ∙ ap (turned_keys starts) c.pop.ensures.items
    ∙ behind_blocks starts rest (option_to_list c.pop.result) (behind (2048 * length starts) (length places) (length rest) c.settle.ensures.blocks.0 c.settle.ensures.behind one_less)
