use Rattle.std.proofs.{Common.{false, Option, refl, sym, ap}, lemmas.Bool.{ltb-true, ltb-false}}
use Rattle.std.{proofs.lemmas.Option.{slice_get_read, slice_get_past}, specs.Option.option_map_or}
use Rattle.tq_evidence.specs.declared.vote.Vote.{Vote}
use Rattle.tq_txn_states.specs.Voting.{is_of_server}
use Rattle.tq_txn_states.proofs.votes.stands_at.Goals as goal

pub returns-in-Some-clause-value : goal.returns-in-Some-clause-value
returns-in-Some-clause-value c =
    let found = c.in-Some.ensures.lookup in
    let votes = c.args.votes.now in
    let at = slice_get_read votes _ c.args.place c.in-Some.vote.now refl (ltb-true _ _ (sym found.0)) found.1 in
    sym (ap (λ (o : Option Vote). option_map_or (is_of_server c.args.server) o false) at)

pub returns-in-Some-clause-within : goal.returns-in-Some-clause-within
returns-in-Some-clause-within c = λ is. ltb-true _ _ (sym c.in-Some.ensures.lookup.0)

pub returns-in-None-clause-value : goal.returns-in-None-clause-value
returns-in-None-clause-value c =
    sym (ap (λ (o : Option Vote). option_map_or (is_of_server c.args.server) o false) (slice_get_past c.args.votes.now c.args.place (ltb-false _ _ (sym c.in-None.ensures.lookup.0))))
