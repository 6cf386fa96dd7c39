use Rattle.std.proofs.Common.{refl, ◌∙◌}
use Rattle.tq_merge.proofs.Greedy.{runs_given, reads_given, stuck_given}
use Rattle.tq_merge.proofs.explaining.explain_legal.Goals as goal

pub returns-then-is_whole-clause-run : goal.returns-then-is_whole-clause-run
returns-then-is_whole-clause-run c =
    runs_given c.args.journals.now c.place_all.new.self.journals c.from_vec.result c.place_all.new.self.order (c.in_ok-place_all.ensures.journals ∙ c.in_ok-placing.ensures) (c.from_vec.ensures ∙ c.into_order.ensures)
    c.show_bounds.ensures c.requires.legal c.is_whole.ensures.founded (c.if-is_whole.ensures.whole refl)

pub returns-then-is_whole-clause-committed_reads : goal.returns-then-is_whole-clause-committed_reads
returns-then-is_whole-clause-committed_reads c =
    reads_given c.args.journals.now c.place_all.new.self.journals c.from_vec.result c.place_all.new.self.order (c.in_ok-place_all.ensures.journals ∙ c.in_ok-placing.ensures) (c.from_vec.ensures ∙ c.into_order.ensures)
    c.show_bounds.ensures c.requires.legal c.is_whole.ensures.founded (c.if-is_whole.ensures.whole refl)

pub returns-clause-fault : goal.returns-clause-fault
returns-clause-fault c =
    stuck_given c.args.journals.now c.place_all.new.self.journals c.place_all.new.self.order c.place_all.new.self.order (c.in_ok-place_all.ensures.journals ∙ c.in_ok-placing.ensures) refl
    c.show_bounds.ensures c.requires.legal c.is_whole.ensures.founded c.into_counts-placed.result c.into_counts-placed.ensures c.in_ok-place_all.ensures.done (c.if-is_whole.ensures.left refl)
