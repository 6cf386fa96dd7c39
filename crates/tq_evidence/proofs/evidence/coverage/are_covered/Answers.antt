use Rattle.std.proofs.Common.{◌≡◌, ◌∙◌, ap, sym, true, ◌&&◌}
use Rattle.tq_evidence.specs.Evidence.{are_grants_covered, are_of_servers, votes_rise, are_walked}
use Rattle.tq_evidence.proofs.Merging.{are_walked-covered}
use Rattle.tq_evidence.proofs.evidence.coverage.are_covered.Goals as goal

pub returns : goal.returns
returns c =
    let ops = c.args.ops.now in
    let votes = c.args.votes.now in
    let rise : votes_rise votes ≡ true = sym c.votes_rise.ensures ∙ c.if-not-votes_rise.false in
    let of : are_of_servers ops votes ≡ true = sym c.are_of_servers.ensures ∙ c.if-not-are_of_servers.false in
    c.are_grants_covered.ensures
    ∙ ap (λ lists. are_walked lists ops) (c.as_slice.ensures.value ∙ c.in_ok-lists.ensures)
    ∙ are_walked-covered votes ops rise c.requires
    ∙ (λ i. sym rise i && sym of i && are_grants_covered ops votes)
