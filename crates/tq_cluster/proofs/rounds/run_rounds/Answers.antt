use Rattle.std.proofs.Common.{refl, ℕ, suc, ◌≡◌, ◌+◌, [], ◌∷◌, ◌∙◌, sym, subst, append-nil, arith}
use Rattle.crossbeam_channel.specs.Claims.{view}
use Rattle.tq_cluster.specs.Rounds.{AreRounds}
use Rattle.tq_cluster.proofs.rounds.run_rounds.Goals as goal

pub returns-clause-ran : goal.returns-clause-ran
returns-clause-ran g c = λ none. (
  c.loop-made.caller ∷ [],
  [],
  c.push_reserved-2.ensures.items,
  c.stop-2.ensures.taken ∙ c.loop-made.invariant.taken ∙ sym (append-nil (view c.args.putter.now.pass).taken),
  (c.loop-made.caller, [], refl, c.loop-made.invariant.told, refl, refl),
)

pub loop-made-preserved : goal.loop-made-preserved
loop-made-preserved g c =
    let old = (view c.args.putter.now.pass).put in
    let next : suc c.loop-made.made ≡ c.loop-made.made + 1 = omega arith in
    record {
      rounds = λ none.
          let both = c.either-memory.ensures none in
          subst (λ (n : ℕ). AreRounds c.args.cluster.now.levels c.args.cluster.now.limits c.args.team.workers n c.run_round-round.new.board c.run_round-round.new.caller old (view c.run_round-round.new.putter.pass).put) next
          (c.loop-made.board, c.loop-made.caller, (view c.loop-made.putter.pass).put, c.run_round-round.result, c.loop-made.invariant.rounds both.0, c.run_round-round.ensures.round, c.is_memory.ensures both.1);
      within = (let less = c.loop-made-test.true in omega (arith, less));
      told = cc;
      tree = cc;
      levels = cc;
      limits = cc;
      channel = cc;
      parts = cc;
      taken = cc;
    }

pub returns-clause-rounds : goal.returns-clause-rounds
returns-clause-rounds g c = λ none.
    let old = (view c.args.putter.now.pass).put in
    let put = (view c.loop-made.putter.pass).put in
    let within = c.loop-made.invariant.within in
    let end = c.loop-made-test.false in
    let all : c.loop-made.made ≡ c.args.team.rounds = omega (arith, within, end) in
    let rounds = c.loop-made.invariant.rounds none in
    (c.loop-made.board, c.loop-made.caller, put, c.push_reserved-2.ensures.items, subst (λ (n : ℕ). AreRounds c.args.cluster.now.levels c.args.cluster.now.limits c.args.team.workers n c.loop-made.board c.loop-made.caller old put) all rounds)
