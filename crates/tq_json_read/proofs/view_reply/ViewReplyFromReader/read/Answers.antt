use Rattle.std.proofs.Common.{codes, ap, ◌∙◌}
use Rattle.tq_json.specs.Member.{text_at, number_at}
use Rattle.tq_json_read.{specs.Views.{servers_at, view_reply_by}, proofs.Places.reply_read}
use Rattle.tq_json_read.proofs.view_reply.ViewReplyFromReader.read.Goals as goal

pub returns-clause-ok : goal.returns-clause-ok
returns-clause-ok c =
    let d = c.in_ok-code.ensures.ok in
    let levels = c.args.plan.now.levels in (
      d.0,
      d.1,
      c.in_ok-view_reply_by.ensures ∙ ap (λ s. view_reply_by levels s.1.1.0 s.0 s.1.0 s.1.1.1.0) d.2
          ∙ reply_read levels (servers_at d.0) (text_at (codes "is") d.0) (number_at (codes "code") d.0) (number_at (codes "cost") d.0),
    )
