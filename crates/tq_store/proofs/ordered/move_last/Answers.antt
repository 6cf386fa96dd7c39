use Rattle.std.{proofs.Common.{arith, ap}, specs.{Map.lookup, BTreeMap.is_at}}
use Rattle.tq_store.proofs.Placed.{last_there, must_be_ok, placed_last, placed_moved}
use Rattle.tq_store.proofs.ordered.move_last.Goals as goal

pub returns-then-placed-keys : goal.returns-then-placed-keys
returns-then-placed-keys g c = λ k. (omega arith, λ q. ap (λ es. lookup (is_at (g.K.Ord.cmp q)) es) c.clear.ensures.empty)

pub returns-then-place-last : goal.returns-then-place-last
returns-then-place-last g c = λ k.
    placed_last g.K.Ord.cmp g.K.PartialEq.eq g.met.K.Eq.laws g.met.K.Ord.matches_eq c.args.places.now c.remove.new.self c.args.keys.now c.args.placed c.args.place c.index-keys-place.result k
    c.requires.distinct c.requires.within c.index-keys-place.is (omega (arith, c.requires.placed.0, c.if-placed-keys.false)) c.requires.placed c.remove.ensures.updates.0 c.if-place-last.true

pub unwrap-before-requires : goal.unwrap-before-requires
unwrap-before-requires g c =
    must_be_ok c.insert-replaced.result c.insert-replaced.ensures.absent
    (last_there g.K.Ord.cmp g.K.PartialEq.eq g.met.K.Eq.laws g.met.K.Ord.matches_eq c.args.places.now c.remove.new.self c.args.keys.now c.args.placed c.args.place c.index-keys-place.result c.index-keys-place.result
    c.requires.distinct c.requires.within c.index-keys-place.is (omega (arith, c.requires.placed.0, c.if-placed-keys.false)) c.requires.placed c.remove.ensures.updates.0 c.index-keys-last.result c.if-place-last.false c.index-keys-last.is)

pub returns : goal.returns
returns g c = λ k.
    let updates = rw c.unwrap-before.ensures at c.insert-replaced.ensures.updates in
    placed_moved g.K.Ord.cmp g.K.PartialEq.eq g.met.K.Eq.laws g.met.K.Ord.matches_eq c.args.places.now c.remove.new.self c.args.keys.now c.args.placed c.args.place c.index-keys-place.result k
    c.requires.distinct c.requires.within c.index-keys-place.is (omega (arith, c.requires.placed.0, c.if-placed-keys.false)) c.requires.placed c.remove.ensures.updates.0 c.index-keys-last.result c.if-place-last.false c.index-keys-last.is
    c.insert-replaced.new.self updates.0
