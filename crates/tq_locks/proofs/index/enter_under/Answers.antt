use Rattle.std.proofs.Common.{◌≡◌, ◌≤◌, ◌∙◌, [], length, cond, ap, sym, subst}
use Rattle.std.specs.{List.insert, Option.option_map_or}
use Rattle.indexmap.specs.IndexMap.{with_value_at}
use Rattle.tq_locks.specs.Keys.{keys_under, Enters}
use Rattle.tq_locks.proofs.Placed.{begun, entry_of, no_list, unwritten, written, OnErr-to, OnOk-to}
use Rattle.tq_locks.proofs.index.enter_under.Goals as goal

pub returns-in-Some-get_index_mut-clause-err : goal.returns-in-Some-get_index_mut-clause-err
returns-in-Some-get_index_mut-clause-err g c =
    let eq = g.K.PartialEq.eq in
    let m = c.args.lists.now in
    let n = c.args.name.now in
    let v = c.in-Some-get_index_mut.keys.now in
    let e = entry_of eq m n c.in-Some.index v (sym c.requires.index ∙ c.in-Some.is) (sym c.in-Some-get_index_mut.ensures.value) in
    OnErr-to _ _ _ c.enter.ensures.err (unwritten eq g.met.K.Eq.laws m n e.0 c.in-Some.index c.get_index_mut.ensures.unique v c.enter.new.self e.1 e.2 e.3)

pub enter-requires : goal.enter-requires
enter-requires g c =
    let eq = g.K.PartialEq.eq in
    let m = c.args.lists.now in
    let n = c.args.name.now in
    let v = c.in-Some-get_index_mut.keys.now in
    let e = entry_of eq m n c.in-Some.index v (sym c.requires.index ∙ c.in-Some.is) (sym c.in-Some-get_index_mut.ensures.value) in
    subst (λ keys. c.args.spot.place ≤ length keys) (ap (λ o. option_map_or (λ keys. keys.items) o []) e.3) c.requires.within

pub begin_under-requires : goal.begin_under-requires
begin_under-requires g c = no_list g.K.PartialEq.eq c.args.lists.now c.args.name.now (sym c.in-None.is ∙ c.requires.index)

pub returns-in-Some-get_index_mut-clause-ok : goal.returns-in-Some-get_index_mut-clause-ok
returns-in-Some-get_index_mut-clause-ok g c =
    let eq = g.K.PartialEq.eq in
    let m = c.args.lists.now in
    let n = c.args.name.now in
    let v = c.in-Some-get_index_mut.keys.now in
    let e = entry_of eq m n c.in-Some.index v (sym c.requires.index ∙ c.in-Some.is) (sym c.in-Some-get_index_mut.ensures.value) in
    let keys : v.items ≡ keys_under eq m n = sym (ap (λ o. option_map_or (λ keys. keys.items) o []) e.3) in
    let after : c.enter.new.self.items ≡ insert v.items c.args.spot.place c.args.key → Enters eq m (with_value_at m c.in-Some.index c.enter.new.self) n c.args.spot.place c.args.key =
    λ entered t.
    written eq g.met.K.Eq.laws m n e.0 c.in-Some.index c.get_index_mut.ensures.unique v c.enter.new.self e.1 e.2 t
    ∙ ap (λ ks. cond (eq n t) ks (keys_under eq m t)) (entered ∙ ap (λ ks. insert ks c.args.spot.place c.args.key) keys) in
    OnOk-to _ _ _ c.enter.ensures.ok after

pub returns-in-None-clause-ok : goal.returns-in-None-clause-ok
returns-in-None-clause-ok g c =
    let eq = g.K.PartialEq.eq in
    let m = c.args.lists.now in
    let n = c.args.name.now in
    OnOk-to _ _ _ c.begin_under.ensures.ok (begun eq m c.begin_under.new.lists n c.args.spot.place c.args.key (no_list eq m n (sym c.in-None.is ∙ c.requires.index)) c.requires.within)
