use Rattle.std.proofs.Common.{sym, subst}
use Rattle.tq_tables.{specs.Reserved.{AreReady, IsReserve}, proofs.Noted.copied-ready}
use Rattle.tq_tables.proofs.tables.copy_ready.Goals as goal

pub returns-in_ok-new-in-Some-clause-after : goal.returns-in_ok-new-in-Some-clause-after
returns-in_ok-new-in-Some-clause-after c = λ old reserve.
    let here : AreReady old c.in-Some.ready.value = subst (IsReserve old) c.in-Some.is reserve in
    let copied = c.in_ok-copy-in-Some.ensures in
    subst (AreReady old) (sym c.in_ok-new-in-Some.ensures.ok)
    (copied-ready old c.deref.result.now c.in_ok-copy-in-Some.field-0 copied.entry copied.after (subst (AreReady old) (sym c.deref.ensures) here))
