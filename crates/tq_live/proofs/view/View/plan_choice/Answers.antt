use Rattle.std.proofs.Common.{◌∙◌, ap, sym}
use Rattle.tq_live.{specs.ViewLaws.choice_change, proofs.Journal.blocked_reply}
use Rattle.tq_live.proofs.view.View.plan_choice.Goals as goal

pub returns-in-Blocked-clause-reply : goal.returns-in-Blocked-clause-reply
returns-in-Blocked-clause-reply c =
    let choice = rw c.in-Blocked.is at c.in_ok-quorum.ensures in
    c.plan_refusal.ensures.reply ∙ rw (← c.self.view_is) (blocked_reply c.self.inside.tree c.args.purpose c.in-Blocked.blocker choice.choice.0 choice.choice.1 choice.choice.2)

pub returns-in-Blocked-clause-change : goal.returns-in-Blocked-clause-change
returns-in-Blocked-clause-change c =
    let choice = rw c.in-Blocked.is at c.in_ok-quorum.ensures in
    c.plan_refusal.ensures.change ∙ rw (← c.self.view_is) (sym (ap (choice_change c.self.inside.tree c.args.purpose) choice.choice.0))
