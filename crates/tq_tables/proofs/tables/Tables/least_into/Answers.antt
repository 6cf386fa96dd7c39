use Rattle.std.proofs.Common.{◌≡◌, ◌<◌, ◌^◌, ap, sym, ◌∙◌, arith}
use Rattle.tq_live.specs.Live.{Live}
use Rattle.tq_tables.specs.{Parts.PartsView, Rows.{least_in, least_row}, Tables.TablesView}
use Rattle.tq_tables.proofs.Restood.{least_in_rows}
use Rattle.tq_tables.proofs.tables.Tables.least_into.Goals as goal

pub returns-clause-least : goal.returns-clause-least
returns-clause-least c =
    let view = c.self.inside.followed.parts.value.view in
    let tree : c.tree.result.now ≡ view = c.tree.ensures ∙ c.view.ensures ∙ ap (λ (p : PartsView). p.view) c.deref.ensures in
    let levels : c.args.server.levels ≡ view.levels = c.requires.server ∙ ap (λ (t : TablesView). t.levels) (sym c.self.view_is) in
    let within = c.number-within.ensures.within in
    let number = c.number-within.ensures.value in
    let powers : 2 ^ c.args.server.levels ≡ 2 ^ view.levels = ap (λ l. 2 ^ l) levels in
    let first : 0 < c.args.server.number = omega (arith, within.0, number) in
    let last : c.args.server.number < 2 ^ view.levels = omega (arith, within.1, number, powers) in
    c.least_into.ensures.least
    ∙ ap (λ (live : Live). least_row live c.args.purpose c.args.server.number) tree
    ∙ sym (least_in_rows view c.args.purpose c.args.server.number first last)
    ∙ ap (λ (t : TablesView). least_in t.quorums c.args.purpose c.args.server.number) c.self.view_is
