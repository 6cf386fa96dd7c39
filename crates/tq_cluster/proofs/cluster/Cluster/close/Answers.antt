use Rattle.std.proofs.Common.{◌≡◌, ◌∙◌, List, map, ap, sym, subst}
use Rattle.tq_txn.specs.declared.asker.Exchange.{Exchange}
use Rattle.tq_merge.specs.{Told.{IsCloseFault, AreKept, unclaimed}, Order.{Explains, asks_of}}
use Rattle.tq_tables.specs.Journals.{JournalsView}
use Rattle.tq_core.specs.{Steps.run, Headline.HasCommittedReads}
use Rattle.tq_cluster.proofs.Closing.{closed_by}
use Rattle.tq_cluster.proofs.cluster.Cluster.close.Goals as goal

pub returns-clause-fault : goal.returns-clause-fault
returns-clause-fault g c =
    let journals = c.in_ok-journals.journals in
    let told : c.as_slice.result.now ≡ map (λ caller. caller.told) c.args.callers.items = c.as_slice.ensures.value ∙ c.in_ok-told.ensures in
    closed_by c.args.self journals (map (λ caller. caller.told) c.args.callers.items) c.in-Err.fault
    (record { levels = c.in_ok-journals.ensures.levels; limits = c.in_ok-journals.ensures.limits; legal = c.in_ok-journals.ensures.legal })
    (subst (λ (l : List (List Exchange)). IsCloseFault journals l c.in-Err.fault) told c.in-Err.ensures.fault)

pub returns-in-Ok-clause-levels : goal.returns-in-Ok-clause-levels
returns-in-Ok-clause-levels g c = ap (λ (j : JournalsView). j.levels) c.in-Ok.ensures.journals ∙ c.in_ok-journals.ensures.levels

pub returns-in-Ok-clause-limits : goal.returns-in-Ok-clause-limits
returns-in-Ok-clause-limits g c = ap (λ (j : JournalsView). j.limits) c.in-Ok.ensures.journals ∙ c.in_ok-journals.ensures.limits

pub returns-in-Ok-clause-kept : goal.returns-in-Ok-clause-kept
returns-in-Ok-clause-kept g c =
    let journals = c.in_ok-journals.journals in
    let told : c.as_slice.result.now ≡ map (λ caller. caller.told) c.args.callers.items = c.as_slice.ensures.value ∙ c.in_ok-told.ensures in
    subst (λ (j : JournalsView). AreKept j (map (λ caller. caller.told) c.args.callers.items)) (sym c.in-Ok.ensures.journals)
    (subst (λ (l : List (List Exchange)). AreKept journals l) told c.in-Ok.ensures.kept)

pub returns-in-Ok-clause-unclaimed : goal.returns-in-Ok-clause-unclaimed
returns-in-Ok-clause-unclaimed g c =
    let told : c.as_slice.result.now ≡ map (λ caller. caller.told) c.args.callers.items = c.as_slice.ensures.value ∙ c.in_ok-told.ensures in
    let same = sym c.in-Ok.ensures.journals in
    c.in-Ok.ensures.unclaimed ∙ (λ i. unclaimed (same i) (told i))

pub returns-in-Ok-clause-order : goal.returns-in-Ok-clause-order
returns-in-Ok-clause-order g c = subst (λ (j : JournalsView). Explains j c.in-Ok.explained.order) (sym c.in-Ok.ensures.journals) c.in-Ok.ensures.order

pub returns-in-Ok-clause-run : goal.returns-in-Ok-clause-run
returns-in-Ok-clause-run g c = subst (λ (j : JournalsView). run j.levels j.limits (asks_of j c.in-Ok.explained.order) ≡ j) (sym c.in-Ok.ensures.journals) c.in-Ok.ensures.run

pub returns-in-Ok-clause-committed_reads : goal.returns-in-Ok-clause-committed_reads
returns-in-Ok-clause-committed_reads g c = subst (λ (j : JournalsView). HasCommittedReads j) (sym c.in-Ok.ensures.journals) c.in-Ok.ensures.committed_reads
