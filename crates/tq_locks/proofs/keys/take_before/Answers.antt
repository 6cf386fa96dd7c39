use Rattle.std.proofs.Common.{◌≡◌, ◌+◌, ◌-◌, ◌∷◌, [], ◌++◌, length, take, drop, refl, ap, sym, ◌∙◌, arith}
use Rattle.std.proofs.lemmas.List.{length-drop, length-take-le}
use Rattle.tq_locks.{specs.Keys.turn, proofs.Rings.{split_at, left_before}}
use Rattle.tq_locks.proofs.keys.take_before.Goals as goal

pub returns : goal.returns
returns c =
    let keys = c.args.keys.now in
    let start = c.args.start in
    let place = c.args.place in
    let key = c.args.key in
    let k = start + place + 1 - start in
    let rest = drop start keys in
    let size : length rest ≡ length keys - start = length-drop start keys in
    left_before (take start keys) (take k rest) (drop k rest) c.open.new.keys start (start + 1) place c.open.result key
    (length-take-le start keys (omega (arith, c.requires))) refl
    (length-take-le k rest (omega (arith, size, c.requires)) ∙ omega arith) c.open.ensures
    ∙ ap (λ ks. turn start ks ++ key ∷ []) (sym (split_at start k keys))
