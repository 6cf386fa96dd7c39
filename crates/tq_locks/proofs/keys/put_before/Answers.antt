use Rattle.std.{proofs.Common.{◌≡◌, ◌+◌, ◌-◌, length, take, drop, ap, sym, ◌∙◌, arith}, specs.List.insert}
use Rattle.std.proofs.lemmas.List.{length-drop, length-take-le}
use Rattle.tq_locks.{specs.Keys.turn, proofs.Rings.{split_at, came_before}}
use Rattle.tq_locks.proofs.keys.put_before.Goals as goal

pub returns : goal.returns
returns c =
    let keys = c.args.keys.now in
    let start = c.args.start in
    let place = c.args.place in
    let low = start - 1 in
    let k = start + place - low in
    let rest = drop low keys in
    let size : length rest ≡ length keys - low = length-drop low keys in
    came_before (take low keys) (take k rest) (drop k rest) c.close.new.keys low start place c.close.result c.args.key
    (length-take-le low keys (omega (arith, c.requires.1))) (omega (arith, c.requires.0))
    (length-take-le k rest (omega (arith, size, c.requires.0, c.requires.1)) ∙ omega (arith, c.requires.0)) c.close.ensures
    ∙ ap (λ ks. insert (turn start ks) place c.args.key) (sym (split_at low k keys))
