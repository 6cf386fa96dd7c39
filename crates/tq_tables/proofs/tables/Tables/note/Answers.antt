use Rattle.std.proofs.Common.{ap, sym, subst, ◌∙◌}
use Rattle.tq_tables.{specs.Tables.{IsNextEntry, TablesView}, proofs.Noted.{inside-is, noted, nothing-reserved, taken}}
use Rattle.tq_tables.specs.Reserved.{AreFollowed, ready_entry, reserved_entry, tables_in, unready, with_ready}
use Rattle.tq_tables.proofs.tables.Tables.note.Goals as goal

pub invariant_of-self : goal.invariant_of-self
invariant_of-self c =
    let at = sym c.take-ready.ensures.value in
    let kept = taken (tables_in c.self.inside.followed) c.self.inside.ready c.in-Some.ready (ready_entry c.args.part c.args.number c.args.entry.now) (at ∙ c.in-Some.is) (ap reserved_entry at ∙ c.is_ready.ensures.0 c.if-is_ready.true) c.self.invariant.1 in
    (subst AreFollowed (sym (c.into_after.ensures ∙ ap (λ r. r.after) c.into_inner.ensures)) kept.0, nothing-reserved _ _ (ap reserved_entry c.take-ready.ensures.after))

pub returns-then-is_ready-clause-noted : goal.returns-then-is_ready-clause-noted
returns-then-is_ready-clause-noted c = λ journals legal stand.
    let followed = c.self.inside.followed in
    let at = sym c.take-ready.ensures.value in
    let kept = taken (tables_in followed) c.self.inside.ready c.in-Some.ready (ready_entry c.args.part c.args.number c.args.entry.now) (at ∙ c.in-Some.is) (ap reserved_entry at ∙ c.is_ready.ensures.0 c.if-is_ready.true) c.self.invariant.1 in
    let after = c.into_after.ensures ∙ ap (λ r. r.after) c.into_inner.ensures in
    (λ i. with_ready (tables_in (after i)) (reserved_entry (c.take-ready.ensures.after i)))
    ∙ noted (unready c.args.self.now) (tables_in followed) (tables_in c.in-Some.ready.value.after) c.args.part c.args.number c.args.entry.now c.requires kept.1 journals legal
    (inside-is followed.parts.value followed.files.value.rows _ c.args.self.now c.self.view_is ∙ stand)

pub invariant_of-self-else-is_ready : goal.invariant_of-self-else-is_ready
invariant_of-self-else-is_ready c = (c.self.invariant.0, nothing-reserved _ _ (ap reserved_entry c.take-ready.ensures.after))

pub follow-requires : goal.follow-requires
follow-requires c =
    let followed = c.self.inside.followed in
    subst (λ (t : TablesView). IsNextEntry t c.args.part c.args.number c.args.entry.now)
    (sym ((λ i. with_ready (tables_in followed) (reserved_entry (c.take-ready.ensures.after i))) ∙ inside-is followed.parts.value followed.files.value.rows _ c.args.self.now c.self.view_is)) c.requires

pub returns-in-Ok-clause-noted : goal.returns-in-Ok-clause-noted
returns-in-Ok-clause-noted c = λ journals legal stand.
    let followed = c.self.inside.followed in
    noted (unready c.args.self.now) _ _ c.args.part c.args.number c.args.entry.now c.requires c.in-Ok.ensures.noted journals legal
    ((λ i. with_ready (tables_in followed) (reserved_entry (c.take-ready.ensures.after i))) ∙ inside-is followed.parts.value followed.files.value.rows _ c.args.self.now c.self.view_is ∙ stand)
