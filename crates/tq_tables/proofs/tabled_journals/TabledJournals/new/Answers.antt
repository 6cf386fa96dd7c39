use Rattle.tq_tables.proofs.tabled_journals.TabledJournals.new.Goals as goal

pub returns-clause-journals : goal.returns-clause-journals
returns-clause-journals c =
    let stand = c.in_ok-tables.ensures in
    λ i. record { levels = (stand i).levels; limits = c.args.limits; servers = c.in_ok-servers.ensures i; desk = c.new-2.ensures.items i; view = c.new-3.ensures.items i }
