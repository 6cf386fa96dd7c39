use Rattle.std.{proofs.Common.{ap, position, sym, ◌∙◌}, specs.Map.keys_of}
use Rattle.indexmap.proofs.{MapLemmas.index-first, RemoveLemmas.own_first}
use Rattle.tq_locks.proofs.index.list_near.Goals as goal

pub returns-then-eq-clause-index : goal.returns-then-eq-clause-index
returns-then-eq-clause-index g c =
    let eq = g.K.PartialEq.eq in
    let laws = g.met.K.Eq.laws in
    let entries = c.args.lists.now.entries in
    let stored = c.in-Some.list.0.now in
    let first = own_first eq laws entries c.args.near stored c.in-Some.list.1.now c.len.ensures.unique (sym c.in-Some.ensures.entry) in
    sym (index-first (eq stored) entries c.args.near first)
    ∙ ap (λ test. position test (keys_of entries)) (λ j key. sym (laws.congr c.args.name.now stored key (sym c.eq.ensures ∙ c.if-eq.true)) j)
