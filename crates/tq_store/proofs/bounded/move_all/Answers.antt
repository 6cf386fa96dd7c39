use Rattle.std.{proofs.Common.{◌≡◌, ◌++◌, ◌∷◌, sym, ap, subst, ◌∙◌, rules}, specs.{List.IsDistinct, Map.keys_of}}
use Rattle.indexmap.proofs.MapLemmas.{absent_before}
use Rattle.tq_store.proofs.Placed.{none_found}
use Rattle.tq_store.proofs.bounded.move_all.Goals as goal

pub push-requires-clause-absent : goal.push-requires-clause-absent
push-requires-clause-absent g c =
    let done = c.loop-key.many.entries in
    let e : g.row.K.Denot × g.row.V.Denot = (c.in-Some.key, c.in-Some.value) in
    let step : c.loop-key.key-iterator ≡ e ∷ c.next.new.self = search rules in
    let all : c.args.few.entries ≡ done ++ e ∷ c.next.new.self = sym c.loop-key.invariant.2 ∙ ap (λ rest. done ++ rest) step in
    let distinct : IsDistinct g.K.PartialEq.eq (keys_of (done ++ e ∷ c.next.new.self)) = subst (λ es. IsDistinct g.K.PartialEq.eq (keys_of es)) all c.loop-key.invariant.4 in
    none_found (g.K.PartialEq.eq c.in-Some.key) done (absent_before g.met.K.Eq.laws done c.next.new.self e distinct)
