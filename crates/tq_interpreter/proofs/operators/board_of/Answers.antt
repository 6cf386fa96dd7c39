use Rattle.std.{specs.Prelude.{string_bytes, IfOk}, proofs.Common.{◌≡◌, subst}}
use Rattle.tq_live.specs.Live.{Live}
use Rattle.tq_tables.specs.Tables.{TablesView, tables_of}
use Rattle.tq_board_text.specs.Board.{board_text}
use Rattle.tq_interpreter.proofs.operators.board_of.Goals as goal

pub returns : goal.returns
returns c =
    subst (λ (v : Live). IfOk c.render.result (λ text. string_bytes text ≡ board_text (tables_of c.args.service.now) v)) c.view.ensures
    (subst (λ (t : TablesView). IfOk c.render.result (λ text. string_bytes text ≡ board_text t c.view.result.now)) c.tables-tables.ensures.value c.render.ensures)
