use Rattle.std.proofs.Common.{rules, ◌≡◌, ◌+◌, ◌<◌, ◌≤◌, ℕ, List, [], ◌∷◌, Option, Some, Ok, Err, drop, get_or, length, refl, sym, ap, ◌∙◌, subst}
use Rattle.std.{proofs.lemmas.List.{drop_all, drop-map, length-map}, specs.Prelude.Result}
use Rattle.tq_coterie.specs.Coterie.{numbers_of}
use Rattle.tq_shape.specs.Tree.{Server}
use Rattle.tq_txn.specs.{Dialogue.{Follows, LineEnd, ended_by}, Commits.prepares_line}
use Rattle.tq_txn.{specs.declared.fault.LineFault.LineFault, proofs.CommitLaws.{prepares_on, prepares_off}}
use Rattle.tq_txn.proofs.{EndLaws.{voted_on_same, voted_on_on}, LineLaws.{follows_end, left_from}}
use Rattle.tq_txn_states.specs.{Open.OpenView, Voting.VotingView}
use Rattle.tq_txn.proofs.commits.prepare_each.Goals as goal

abbrev number : Server → ℕ
number id = id.number

-- the voters that are left are this one and those behind it
left : (voters : List ℕ) (first ids : List Server) (place : ℕ) (id : Server) → numbers_of first ≡ voters → numbers_of ids ≡ voters → place < length first → id ≡ get_or ids place id → drop place voters ≡ id.number ∷ drop (place + 1) voters
left voters first ids place id counted same less is =
    let within = subst (λ n. place < n) (sym (length-map first number) ∙ ap length (counted ∙ sym same) ∙ length-map ids number) less in
    ap (drop place) (sym same) ∙ drop-map number place ids ∙ ap numbers_of (left_from ids place id within is) ∙ ap (λ ns. id.number ∷ ns) (sym (drop-map number (place + 1) ids) ∙ ap (drop (place + 1)) same)

none_left : (voters : List ℕ) (first : List Server) (place : ℕ) → numbers_of first ≡ voters → length first ≤ place → drop place voters ≡ []
none_left voters first place counted over = drop_all place voters (subst (λ n. n ≤ place) (sym (length-map first number) ∙ ap length counted) over)

pub loop-place-init : goal.loop-place-init
loop-place-init g c = record {
  tree = refl;
  kept = voted_on_same c.args.voting.now c.args.voting.now refl;
  knows = λ before. before;
  asks = λ after end more. more;
}

pub loop-place-preserved : goal.loop-place-preserved
loop-place-preserved g c =
    let held = c.loop-place.invariant in
    let voters = c.args.voting.now.txn.voters in
    let place = c.loop-place.place in
    let id = c.index-voters-place.result in
    let is = left voters c.voters-count.result.now c.voters.result.now place id c.voters-count.ensures.numbers (c.voters.ensures.numbers ∙ ap (λ (o : OpenView). o.voters) held.kept.txn) c.loop-place-test.true c.index-voters-place.is in
    record {
      tree = c.prepare_at.ensures.tree ∙ held.tree;
      kept = voted_on_on c.args.voting.now c.loop-place.voting c.prepare_at.new.voting held.kept c.prepare_at.ensures.kept;
      knows = λ before. c.prepare_at.ensures.knows (held.knows before);
      asks = λ after end more. held.asks after end (prepares_on (drop place voters) (drop (place + 1) voters) id.number c.loop-place.voting c.prepare_at.new.voting is (g.A.Asker.told c.loop-place.asker) (g.A.Asker.told c.prepare_at.new.asker) after end c.in_ok-prepare_at.ensures.asks more);
    }

pub returns-clause-asks : goal.returns-clause-asks
returns-clause-asks g c =
    let told = g.A.Asker.told c.loop-place.asker in
    let now = c.loop-place.voting in
    let end : Option (LineEnd (Unit {0}) VotingView) = Some (record { answer = Ok tt; after = now }) in
    let P : List ℕ → Type 0 = λ ns. Follows (prepares_line ns now) told told end in
    c.loop-place.invariant.asks told end (subst P (sym (none_left c.args.voting.now.txn.voters c.voters-count.result.now c.loop-place.place c.voters-count.ensures.numbers c.loop-place-test.false)) (follows_end _ told))

pub returns-in_err-prepare_at-clause-asks : goal.returns-in_err-prepare_at-clause-asks
returns-in_err-prepare_at-clause-asks g c =
    let held = c.loop-place.invariant in
    let voters = c.args.voting.now.txn.voters in
    let place = c.loop-place.place in
    let id = c.index-voters-place.result in
    let is = left voters c.voters-count.result.now c.voters.result.now place id c.voters-count.ensures.numbers (c.voters.ensures.numbers ∙ ap (λ (o : OpenView). o.voters) held.kept.txn) c.loop-place-test.true c.index-voters-place.is in
    let told = g.A.Asker.told c.prepare_at.new.asker in
    let new = c.prepare_at.new.voting in
    let fault : Err c.in_err-prepare_at.field-0.0 ≡ c.from_residual.result = Prim.search (c.from_residual.ensures, rules) in
    let P : Result (Unit {0}) LineFault → Type 0 = λ result. Follows (prepares_line voters c.args.voting.now) (g.A.Asker.told c.args.asker.now) told (ended_by result new) in
    subst P fault (held.asks told (ended_by {A = Unit {0}} (Err c.in_err-prepare_at.field-0.0) new)
    (prepares_off (drop place voters) (drop (place + 1) voters) id.number c.loop-place.voting new is c.in_err-prepare_at.field-0.0 (g.A.Asker.told c.loop-place.asker) told c.in_err-prepare_at.ensures.asks))
