use Rattle.std.{proofs.Common.{◌≡◌, ◌∙◌, true, Some, List, slice_get, refl, sym, ap, subst}, specs.List.list_all}
use Rattle.std.proofs.lemmas.Option.{slice_get_read}
use Rattle.tq_evidence.specs.{declared.grant.Grant.Grant, Evidence.{granters, rises}}
use Rattle.tq_txn_states.{specs.Voting.covers_grant, proofs.Searched.{granter_is, none_to_cover, one_covers}}
use Rattle.tq_txn_states.proofs.votes.covers_op.Goals as goal

pub returns-then-not-is_granter_at : goal.returns-then-not-is_granter_at
returns-then-not-is_granter_at c =
    let vote = c.args.vote.now in
    let file = c.args.op.now.file in
    let none = sym c.place_of_grant-place.ensures ∙ sym c.is_granter_at.ensures.value ∙ c.if-not-is_granter_at.true in
    sym (ap (list_all (covers_grant vote file)) (sym c.as_slice-grants.ensures) ∙ none_to_cover vote file c.as_slice-grants.result.now none)

pub returns : goal.returns
returns c =
    let vote = c.args.vote.now in
    let file = c.args.op.now.file in
    let grants = c.as_slice-grants.result.now in
    let grant = c.index-grants-place.result in
    let is = sym c.is_granter_at.ensures.value ∙ c.if-not-is_granter_at.false in
    let at : slice_get grants c.place_of_grant-place.result ≡ Some grant = slice_get_read grants _ c.place_of_grant-place.result grant refl (c.is_granter_at.ensures.within c.if-not-is_granter_at.false) c.index-grants-place.is in
    let up = subst (λ (gs : List Grant). rises (granters gs) ≡ true) (sym c.as_slice-grants.ensures) c.requires in
    c.covers_at.ensures ∙ one_covers vote file grants c.place_of_grant-place.result grant up at (granter_is vote.server grants c.place_of_grant-place.result grant at is) ∙ ap (list_all (covers_grant vote file)) c.as_slice-grants.ensures
