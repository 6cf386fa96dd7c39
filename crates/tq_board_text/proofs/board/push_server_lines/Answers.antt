use Rattle.std.proofs.Common.{◌≡◌, ◌∙◌, ap, string_bytes}
use Rattle.tq_board_text.{specs.Board.server_line, proofs.Listing.{line_written, server_line_is}}
use Rattle.tq_board_text.proofs.board.push_server_lines.Goals as goal

pub loop-number-preserved : goal.loop-number-preserved
loop-number-preserved c =
    let number = c.loop-number.number in
    let tree : c.tree.result.now ≡ c.args.view.now = c.tree.ensures in
    let server : c.new-server.result.number ≡ number = ap (λ server. server.number) c.new-server.ensures in
    let is = server_line_is c.args.tables.now c.args.view.now c.tree.result.now c.new-server.result.number number (string_bytes c.loop-number.text) (string_bytes c.push_server.new.text) c.in_ok-push_server.ensures.text tree server in
    record {
      written = line_written (server_line c.args.tables.now c.args.view.now) _ _ _ _ _ c.loop-number-test.true c.loop-number.invariant.written is;
      room = c.push_server.ensures.room ∙ c.loop-number.invariant.room;
    }
