use Rattle.std.proofs.Common.{◌≡◌, ap, refl, sym, subst, ◌∙◌}
use Rattle.tq_live.specs.ViewLaws.{keeps_levels}
use Rattle.tq_shape.specs.Journal.{entry}
use Rattle.tq_tables.{specs.{Parts.PartsView, Files.AreHolders, Reserved.{IsReserve, unready}}, proofs.Held.held-same}
use Rattle.tq_tables.{specs.Tables.{TablesView, tables_at}, proofs.Noted.{inside-is, view-noted, viewed, viewed-at}}
use Rattle.tq_tables.proofs.tables.Tables.ask_view.Goals as goal

pub invariant_of-self : goal.invariant_of-self
invariant_of-self c =
    let files = c.self.inside.followed.files.value in
    subst
    (λ (p : PartsView). ((p.view.levels ≡ files.levels) × AreHolders files.levels p.nodes files.rows c.self.inside.followed.holders.value) × IsReserve (tables_at p files.rows) c.self.inside.ready)
    (sym (c.in_err-replies.ensures.unchanged ∙ c.deref_mut-parts.ensures.value)) c.self.invariant

pub invariant_of-self-2 : goal.invariant_of-self-2
invariant_of-self-2 c =
    let after = c.in_ok-replies.ensures.after in
    let before = c.deref_mut-parts.ensures.value in (
      (
        ap (λ (p : PartsView). p.view.levels) after
            ∙ keeps_levels c.deref_mut-parts.result.now.view c.args.ask.now
            ∙ ap (λ (p : PartsView). p.view.levels) before
            ∙ c.self.invariant.0.0,
        held-same refl (ap (λ (p : PartsView). p.nodes) after ∙ ap (λ (p : PartsView). p.nodes) before) refl refl c.self.invariant.0.1,
      ),
      tt,
    )

pub returns-clause-asked : goal.returns-clause-asked
returns-clause-asked c = λ journals reply legal stand.
    let ask = c.args.ask.now in
    let parts = c.deref_mut-parts.result.now in
    let rows = c.self.inside.followed.files.value.rows in
    let view_is = ap (λ (p : PartsView). tables_at p rows) c.deref_mut-parts.ensures.value ∙ inside-is c.self.inside.followed.parts.value rows _ c.args.self.now c.self.view_is in
    view-noted journals (entry ask reply) legal (unready c.args.self.now) _ stand
    (viewed-at parts c.ask_view.new.self rows ask c.in_ok-replies.ensures.after
    ∙ ap (λ (t : TablesView). viewed t ask) view_is)
