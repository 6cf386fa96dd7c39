use Rattle.std.{proofs.Common.{◌≡◌, ◌+◌, ◌-◌, length, take, drop, ap, sym, ◌∙◌, arith}, specs.List.insert}
use Rattle.std.proofs.lemmas.List.{length-drop, length-take-le}
use Rattle.tq_locks.{specs.Keys.turn, proofs.Rings.{split_at, came_behind}}
use Rattle.tq_locks.proofs.keys.put_behind.Goals as goal

pub returns : goal.returns
returns c =
    let keys = c.args.keys.now in
    let start = c.args.start in
    let place = c.args.place in
    let key = c.args.key in
    let at = start + place - length keys in
    let k = start - at in
    let rest = drop at keys in
    let size : length rest ≡ length keys - at = length-drop at keys in
    let front_len : length (take at keys) ≡ at = length-take-le at keys (omega (arith, c.requires.within.0, c.requires.within.1)) in
    let old_len : length (take k rest) ≡ k = length-take-le k rest (omega (arith, size, c.requires.within.0)) in
    came_behind (take at keys) (take k rest) (drop k rest) c.open.new.keys start place c.open.result key
    (omega (arith, front_len, old_len, c.requires.within.1)) c.open.auto.keys
    (omega (arith, front_len, length-drop k rest, size, c.requires.within.0, c.requires.behind)) c.open.ensures
    ∙ ap (λ ks. insert (turn start ks) place key) (sym (split_at at k keys))
