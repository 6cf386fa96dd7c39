use Rattle.std.proofs.Common.{sym, subst}
use Rattle.tq_tables.{specs.Reserved.{AreReady, tables_in}, proofs.Noted.made-ready}
use Rattle.tq_tables.proofs.tables.Tables.reserve.Goals as goal

pub invariant_of-self : goal.invariant_of-self
invariant_of-self c = (
  c.self.invariant.0,
  subst (AreReady (tables_in c.self.inside.followed)) (sym c.in_ok-new.ensures.ok)
      (made-ready _ (tables_in c.in_ok-followed.followed) c.follow.new.self c.args.part c.args.number c.args.entry.now (record { entry = c.in_ok-entry.entry; after = c.into_followed-after.result })
      c.into_followed-after.ensures.followed c.in_ok-followed.ensures.0 c.in_ok-follow.ensures.noted c.into_followed-after.ensures.value c.in_ok-entry.ensures),
)
