use Rattle.std.proofs.Common.{ap, sym, ◌∙◌}
use Rattle.std.specs.{Cmp.nat_cmp_total, FinMap.{nat_cmp-IsAntisymmetric, same_map}, Ordering.nat_cmp}
use Rattle.std.specs.FinMap as fin
use Rattle.tq_locks.proofs.Found.{entries-from_ordered, get_entry}
use Rattle.tq_intents.specs.Kept.{kept_votes}
use Rattle.tq_intents.proofs.intents.Intents.votes.Goals as goal

pub returns : goal.returns
returns c =
    let votes = c.self.inside.open_votes in
    c.iter.ensures.votes
    ∙ sym (entries-from_ordered nat_cmp_total nat_cmp-IsAntisymmetric votes c.iter.ensures.ordered)
    ∙ ap fin.entries (same_map nat_cmp_total nat_cmp-IsAntisymmetric (fin.from_entries {R = nat_cmp} votes) (kept_votes c.self.inside.records.items) (λ q. get_entry nat_cmp_total votes q ∙ c.self.invariant.each q))
    ∙ ap (λ v. fin.entries (kept_votes v.records)) c.self.view_is
